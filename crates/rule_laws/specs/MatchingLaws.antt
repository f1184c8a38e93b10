-- Laws of matching, and case C10 of the specification. Assumes nothing.
use Rattle.std.specs.Prelude.{ℕ, zero, suc, ◌+◌, ◌<◌, ◌≡◌, Bool, true, false, ◌&&◌, ◌||◌, List, [], ◌∷◌, length, get_or, Float, Option, None, Some}
use Rattle.std.proofs.Common.{not-suc-le-zero, add-one, arith, sym, ◌∙◌, eqb-true, eq-eqb}
use Rattle.std.proofs.Math.Path.{refl, ap}
use Rattle.rules.specs.Numbers.{first}
use Rattle.rule_laws.specs.NumberLaws.{first_next, first_found}
use Rattle.rules.specs.Records.{Point}
use Rattle.rules.specs.Matching.{FeatureRule, by_number, anchors_match, matches, source, with_impulses, taking, matched_point}

-- ---- the search for the old point, step by step
module _ (same : FeatureRule) (square : Float) (olds : List Point) (new : Point) where
  -- no old point before k matches
  unfoldable pub NoneBefore : ℕ → Type 0
  NoneBefore k = first (λ i. matches same square new (get_or olds i new)) k ≡ None

  pub none_before_first : NoneBefore 0
  unfolding NoneBefore first
  none_before_first = refl

  pub none_before_next : (k : ℕ) → NoneBefore k → matches same square new (get_or olds k new) ≡ false → NoneBefore (k + 1)
  unfolding NoneBefore
  none_before_next k h e = first_next (λ i. matches same square new (get_or olds i new)) k h e

  -- by index
  pub none_before : (k : ℕ) → ((i : ℕ) → i < k → matches same square new (get_or olds i new) ≡ false) → NoneBefore k
  none_before zero h = none_before_first
  none_before (suc k) h = rw (← add-one) (none_before_next k (none_before k (λ i l. h i (omega arith))) (h k (omega arith)))

  pub source_found : (k : ℕ) → NoneBefore k → matches same square new (get_or olds k new) ≡ true → k < length olds → source same square olds new ≡ Some k
  unfolding NoneBefore source
  source_found k h e l = first_found (λ i. matches same square new (get_or olds i new)) k (length olds) h e l

  pub matched_found : (k : ℕ) → NoneBefore k → matches same square new (get_or olds k new) ≡ true → k < length olds → matched_point same square olds new ≡ with_impulses new (get_or olds k new)
  unfolding matched_point
  matched_found k h e l = ap (taking olds new) (source_found k h e l)

  pub matched_none : NoneBefore (length olds) → matched_point same square olds new ≡ new
  unfolding NoneBefore matched_point source
  matched_none h = ap (taking olds new) h

  -- matching sets nothing but the two warm start impulses: with the new point's own put back it is the new point
  taken_places : (o : Option ℕ) → with_impulses (taking olds new o) new ≡ new
  taken_places None = refl
  taken_places (Some k) = refl

  pub matched_places : with_impulses (matched_point same square olds new) new ≡ new
  unfolding matched_point
  matched_places = taken_places (source same square olds new)

-- ---- points without features
abbrev pub Featureless : Point → Type 0
Featureless p = (p.feature1 ≡ 0) × (p.feature2 ≡ 0)

straight : (a b c d : Bool) → a ≡ true → b ≡ true → ((a && b) || c) || d ≡ true
straight a b c d e f = rw (e, f)

-- they match, whatever else they have
pub unknown_matches : (square : Float) (new old : Point) → Featureless new → Featureless old → matches by_number square new old ≡ true
unfolding by_number
unknown_matches square new old n o =
    straight _ _ _ _ (eq-eqb new.feature1 old.feature1 (n.0 ∙ sym o.0)) (eq-eqb new.feature2 old.feature2 (n.1 ∙ sym o.1))

neither : (a b c d e : Bool) → (a ≡ true → b ≡ true → ⊥) → (c ≡ true → d ≡ true → ⊥) → e ≡ false → ((a && b) || (c && d)) || e ≡ false
neither true true c d e f g h = absurd (f refl refl)
neither true false true true e f g h = absurd (g refl refl)
neither true false true false e f g h = h
neither true false false d e f g h = h
neither false b true true e f g h = absurd (g refl refl)
neither false b true false e f g h = h
neither false b false d e f g h = h

-- and one of them matches nothing that has a feature and no close anchors
pub unknown_passes : (square : Float) (new old : Point) → Featureless new → (Featureless old → ⊥) → anchors_match square new old ≡ false → matches by_number square new old ≡ false
unfolding by_number
unknown_passes square new old n o far =
    neither _ _ _ _ _ (λ e f. o (sym (eqb-true _ _ e) ∙ n.0, sym (eqb-true _ _ f) ∙ n.1))
    (λ e f. o (sym (eqb-true _ _ e) ∙ n.1, sym (eqb-true _ _ f) ∙ n.0)) far

-- such a point takes the first old one that has no features either, where none before that has close anchors
pub unknown_takes_first : (square : Float) (olds : List Point) (new : Point) (k : ℕ) → Featureless new → k < length olds → Featureless (get_or olds k new)
    → ((i : ℕ) → i < k → (Featureless (get_or olds i new) → ⊥) × (anchors_match square new (get_or olds i new) ≡ false))
    → source by_number square olds new ≡ Some k
unknown_takes_first square olds new k n l o before =
    source_found by_number square olds new k
    (none_before by_number square olds new k (λ i h. unknown_passes square new (get_or olds i new) n (before i h).0 (before i h).1))
    (unknown_matches square new (get_or olds k new) n o) l

-- C10: a new and two old points without features
pub unknown_takes_first_of_two : (square : Float) (a b new : Point) → Featureless new → Featureless a → Featureless b → source by_number square (a ∷ b ∷ []) new ≡ Some 0
unknown_takes_first_of_two square a b new n o p =
    unknown_takes_first square (a ∷ b ∷ []) new 0 n (omega arith) o (λ i h. absurd (not-suc-le-zero h))
