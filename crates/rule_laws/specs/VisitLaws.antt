-- One visit of the status pass: it changes the pair with that id, and no other, and lists the changes of `visit_changes`. Assumes nothing.
use Rattle.std.specs.Prelude.{ℕ, suc, ◌+◌, ◌≤◌, ◌≡◌, refl, ◌≢◌, Bool, true, false, cond, List, [], ◌∷◌, ◌++◌, eqb, length, set, Option, None, Some}
use Rattle.std.proofs.Common.{sym, ap, subst, ◌∙◌, append-nil, arith, length-append, length-set}
use Rattle.std.proofs.Math.Seq.{set-append_seam, get_or-append_seam}
use Rattle.rules.specs.Records.{Pair}
use Rattle.rules.specs.Graph.{swap_remove, pair_index}
use Rattle.rules.specs.Status.{Pass, Event, Change, Verdict, vanishes, starts, stops, generates, recounts, persists, verdict, next, changes_for, written, removed, visit_as, visit_at, visit_found, visit}
use Rattle.rule_laws.specs.LookupLaws.{tally, ids, find, first, rotated, tally_append, tally_ids_append, tally_rotated, find_append, find_none, find_rotated, length_rotated, swap_remove_at, eqb_same, eqb_other, Place, missing, found, place}

-- what becomes of the pair with an id, and which changes are listed
abbrev pub becoming : Option Pair → Option Pair
becoming None = None
becoming (Some p) = next (verdict p) p

abbrev pub visit_changes : Option Pair → List Change
visit_changes None = []
visit_changes (Some p) = changes_for (verdict p) p

-- what a visit of the id k does
pub record Effect (k : ℕ) (s s' : Pass) : Type 0 where
  pub capacity : s'.graph.capacity ≡ s.graph.capacity
  pub given : s'.graph.given ≡ s.graph.given
  pub tallied : (x : ℕ) → tally x (ids s'.graph.pairs) + tally x s'.graph.free ≡ tally x (ids s.graph.pairs) + tally x s.graph.free
  pub sized : length s'.graph.pairs + length s'.graph.free ≡ length s.graph.pairs + length s.graph.free
  pub changes : s'.changes ≡ s.changes ++ visit_changes (find k s.graph.pairs)
  pub here : find k s'.graph.pairs ≡ becoming (find k s.graph.pairs)
  pub others : (j : ℕ) → j ≢ k → find j s'.graph.pairs ≡ find j s.graph.pairs

-- ---- the list, with the pair at its place written anew or removed

tally_seam : (x : ℕ) (xs : List Pair) (p : Pair) (ys : List Pair) →
    tally x (ids (xs ++ p ∷ ys)) ≡ tally x (ids xs) + (cond (eqb p.names.id x) 1 0 + tally x (ids ys))
unfolding tally
tally_seam x xs p ys = tally_ids_append x xs (p ∷ ys)

pub tally_one : (x y : ℕ) → tally x (y ∷ []) ≡ cond (eqb y x) 1 0
unfolding tally
tally_one x y = omega arith

find_seam : (x : ℕ) (xs : List Pair) (p : Pair) (ys : List Pair) → find x (xs ++ p ∷ ys) ≡ first (find x xs) (cond (eqb p.names.id x) (Some p) (find x ys))
unfolding find
find_seam x xs p ys = find_append x xs (p ∷ ys)

-- the pair's own id stands nowhere else
alone : (k : ℕ) (xs : List Pair) (p : Pair) (ys : List Pair) → p.names.id ≡ k → tally k (ids (xs ++ p ∷ ys)) ≤ 1 → tally k (ids xs) + tally k (ids ys) ≡ 0
alone k xs p ys i h = go (eqb p.names.id k) (rw i (eqb_same k)) (tally_seam k xs p ys)
  where
    go : (b : Bool) → b ≡ true → tally k (ids (xs ++ p ∷ ys)) ≡ tally k (ids xs) + (cond b 1 0 + tally k (ids ys)) → tally k (ids xs) + tally k (ids ys) ≡ 0
    go true e f = omega arith
    go false e f = absurd (let z : ◌≡◌ {A = ℕ} 0 1 = cc in omega arith)

module _ (k : ℕ) (xs : List Pair) (p : Pair) (ys : List Pair) (i : p.names.id ≡ k) (h : (x : ℕ) → tally x (ids (xs ++ p ∷ ys)) ≤ 1) where
  anew_tally : (q : Pair) → q.names.id ≡ p.names.id → (x : ℕ) → tally x (ids (xs ++ q ∷ ys)) ≡ tally x (ids (xs ++ p ∷ ys))
  anew_tally q n x =
      tally_seam x xs q ys ∙ ap (λ (m : ℕ). tally x (ids xs) + (cond (eqb m x) 1 0 + tally x (ids ys))) n ∙ sym (tally_seam x xs p ys)

  anew_here : (q : Pair) → q.names.id ≡ p.names.id → find k (xs ++ q ∷ ys) ≡ Some q
  anew_here q n =
      find_seam k xs q ys ∙ ap (λ (o : Option Pair). first o (cond (eqb q.names.id k) (Some q) (find k ys))) (find_none k xs (omega (arith, alone k xs p ys i (h k))))
      ∙ ap (λ (b : Bool). cond b (Some q) (find k ys)) (ap (λ (m : ℕ). eqb m k) (n ∙ i) ∙ eqb_same k)

  others_seam : (q : Pair) → q.names.id ≡ p.names.id → (j : ℕ) → j ≢ k → find j (xs ++ q ∷ ys) ≡ first (find j xs) (find j ys)
  others_seam q n j d =
      find_seam j xs q ys ∙ ap (λ (b : Bool). first (find j xs) (cond b (Some q) (find j ys))) (eqb_other q.names.id j (λ e. d (sym e ∙ n ∙ i)))

  anew_others : (q : Pair) → q.names.id ≡ p.names.id → (j : ℕ) → j ≢ k → find j (xs ++ q ∷ ys) ≡ find j (xs ++ p ∷ ys)
  anew_others q n j d = others_seam q n j d ∙ sym (others_seam p refl j d)

  gone_tally : (x : ℕ) → tally x (ids (xs ++ rotated ys)) + cond (eqb p.names.id x) 1 0 ≡ tally x (ids (xs ++ p ∷ ys))
  gone_tally x = omega (arith, tally_ids_append x xs (rotated ys), tally_rotated x ys, tally_seam x xs p ys)

  gone_here : find k (xs ++ rotated ys) ≡ None
  gone_here = find_none k (xs ++ rotated ys) (omega (arith, tally_ids_append k xs (rotated ys), tally_rotated k ys, alone k xs p ys i (h k)))

  gone_others : (j : ℕ) → j ≢ k → find j (xs ++ rotated ys) ≡ find j (xs ++ p ∷ ys)
  gone_others j d =
      find_append j xs (rotated ys) ∙ ap (first (find j xs)) (find_rotated j ys (omega (arith, h j, tally_seam j xs p ys))) ∙ sym (others_seam p refl j d)

-- ---- the visit, by its verdict

pub visit_at_as : (s : Pass) (i : ℕ) (p : Pair) → visit_at s i p ≡ visit_as s i p (verdict p)
unfolding visit_at
visit_at_as s i p = refl

visit_found_at : (s : Pass) (xs : List Pair) (p : Pair) (ys : List Pair) → visit_found s (Some (length xs)) (xs ++ p ∷ ys) ≡ visit_at s (length xs) p
unfolding visit_found
visit_found_at s [] p ys = refl
visit_found_at s (x ∷ xs) p ys = ap (visit_at s (suc (length xs))) (get_or-append_seam xs p ys x)

-- the pair written anew
module _ (k : ℕ) (s : Pass) (xs : List Pair) (p : Pair) (ys : List Pair) (e : s.graph.pairs ≡ xs ++ p ∷ ys) (i : p.names.id ≡ k)
    (h : (x : ℕ) → tally x (ids s.graph.pairs) ≤ 1) where
  bounded : (x : ℕ) → tally x (ids (xs ++ p ∷ ys)) ≤ 1
  bounded x = rw e at (h x)

  standing : find k s.graph.pairs ≡ Some p
  standing = ap (find k) e ∙ anew_here k xs p ys i bounded p refl

  effect_written : (q : Pair) (es : List Event) (cs : List Change) → q.names.id ≡ p.names.id → becoming (Some p) ≡ Some q → visit_changes (Some p) ≡ cs →
      Effect k s (written s (length xs) q es cs)
  effect_written q es cs n b c =
      let w : set s.graph.pairs (length xs) q ≡ xs ++ q ∷ ys = ap (λ (l : List Pair). set l (length xs) q) e ∙ set-append_seam xs p ys q in
      record {
        capacity = refl;
        given = refl;
        tallied = λ x. ap (λ (l : List Pair). tally x (ids l) + tally x s.graph.free) w
            ∙ ap (λ (m : ℕ). m + tally x s.graph.free) (anew_tally k xs p ys i bounded q n x ∙ ap (λ (l : List Pair). tally x (ids l)) (sym e));
        sized = ap (λ (m : ℕ). m + length s.graph.free) (length-set s.graph.pairs (length xs) q);
        changes = ap (λ (l : List Change). s.changes ++ l) (sym c ∙ ap visit_changes (sym standing));
        here = ap (find k) w ∙ anew_here k xs p ys i bounded q n ∙ sym b ∙ ap becoming (sym standing);
        others = λ j d. ap (find j) w ∙ anew_others k xs p ys i bounded q n j d ∙ ap (find j) (sym e);
      }

  effect_removed : (es : List Event) (cs : List Change) → becoming (Some p) ≡ None → visit_changes (Some p) ≡ cs → Effect k s (removed s (length xs) p es cs)
  effect_removed es cs b c =
      let w : swap_remove s.graph.pairs (length xs) p ≡ xs ++ rotated ys = ap (λ (l : List Pair). swap_remove l (length xs) p) e ∙ swap_remove_at xs p p ys in
      record {
        capacity = refl;
        given = refl;
        tallied = λ x. omega (
          arith,
          ap (λ (l : List Pair). tally x (ids l)) w,
          tally_append x s.graph.free (p.names.id ∷ []),
          tally_one x p.names.id,
          gone_tally k xs p ys i bounded x,
          ap (λ (l : List Pair). tally x (ids l)) e,
        );
        sized = omega (
          arith,
          ap (λ (l : List Pair). length l) w,
          length-append xs (rotated ys),
          length_rotated ys,
          length-append s.graph.free (p.names.id ∷ []),
          ap (λ (l : List Pair). length l) e,
          length-append xs (p ∷ ys),
        );
        changes = ap (λ (l : List Change). s.changes ++ l) (sym c ∙ ap visit_changes (sym standing));
        here = ap (find k) w ∙ gone_here k xs p ys i bounded ∙ sym b ∙ ap becoming (sym standing);
        others = λ j d. ap (find j) w ∙ gone_others k xs p ys i bounded j d ∙ ap (find j) (sym e);
      }

  effect_none : becoming (Some p) ≡ Some p → visit_changes (Some p) ≡ [] → Effect k s s
  effect_none b c = record {
    capacity = refl;
    given = refl;
    tallied = λ x. refl;
    sized = refl;
    changes = sym (append-nil s.changes) ∙ ap (λ (l : List Change). s.changes ++ l) (sym c ∙ ap visit_changes (sym standing));
    here = standing ∙ sym b ∙ ap becoming (sym standing);
    others = λ j d. refl;
  }

  effect_as : (v : Verdict) → verdict p ≡ v → Effect k s (visit_as s (length xs) p v)
  effect_as v n = go v (ap (λ (u : Verdict). next u p) n) (ap (λ (u : Verdict). changes_for u p) n)
    where
      go : (v : Verdict) → becoming (Some p) ≡ next v p → visit_changes (Some p) ≡ changes_for v p → Effect k s (visit_as s (length xs) p v)
      go vanishes b c = effect_removed _ _ b c
      go starts b c = effect_written _ _ _ refl b c
      go stops b c = effect_written _ _ _ refl b c
      go generates b c = effect_written _ _ _ refl b c
      go recounts b c = effect_written _ _ _ refl b c
      go persists b c = effect_none b c

effect_missing : (k : ℕ) (s : Pass) → find k s.graph.pairs ≡ None → Effect k s s
effect_missing k s b = record {
  capacity = refl;
  given = refl;
  tallied = λ x. refl;
  sized = refl;
  changes = sym (append-nil s.changes) ∙ ap (λ (o : Option Pair). s.changes ++ visit_changes o) (sym b);
  here = b ∙ ap becoming (sym b);
  others = λ j d. refl;
}

-- a visit does what `Effect` says, wherever no id stands twice
pub visited : (k : ℕ) (s : Pass) → ((x : ℕ) → tally x (ids s.graph.pairs) ≤ 1) → Effect k s (visit s k)
unfolding visit visit_found
visited k s h = go (place k s.graph.pairs)
  where
    go : Place k s.graph.pairs → Effect k s (visit_found s (pair_index k s.graph.pairs) s.graph.pairs)
    go (missing a b) = subst (λ (o : Option ℕ). Effect k s (visit_found s o s.graph.pairs)) (sym a) (effect_missing k s b)
    go (found xs p ys e i a b) =
        subst (Effect k s)
        (sym (ap (λ (o : Option ℕ). visit_found s o s.graph.pairs) a ∙ ap (visit_found s (Some (length xs))) e ∙ visit_found_at s xs p ys ∙ visit_at_as s (length xs) p))
        (effect_as k s xs p ys e i h (verdict p) refl)
