-- A line that a later one replaces changes nothing: `replaced`. Assumes nothing.
use Rattle.std.specs.Prelude.{ℕ, suc, ◌+◌, ◌*◌, ◌-◌, ◌≤◌, ◌<◌, ◌≡◌, Bool, cond, ◌&&◌, ◌||◌, eqb, length, drop, set}
use Rattle.std.proofs.Math.Decide.{dec_lt}
use Rattle.std.proofs.Common.{arith, subst, ◌∙◌, inl, inr, true≢false, eqb-true}
use Rattle.std.proofs.Math.Path.{refl, sym, ap}
use Rattle.std.proofs.Math.Bool.{true, false}
use mathlib.Core.List.{List, [], ◌∷◌, ◌++◌}
use Rattle.rows.specs.Rows.{put, Apart}
use Rattle.rows.specs.Laws.{put_one, put_cover, put_put, put_comm}
use Rattle.layout.specs.Body.{body_size, bodies_length}
use Rattle.layout.specs.Collider.{collider_size, colliders_length}
use Rattle.layout.specs.Settings.{settings_length}
use Rattle.manifold_records.specs.Written.{zeros}
use Rattle.contact_range.specs.Range.{same_colliders}
use Rattle.trace_rules.specs.Fields.{Line, settings_letter, collider_letter, body_letter, hook_letter, manifold_letter, point_letter}
use Rattle.trace_rules.specs.Reading.{is}
use Rattle.trace_rules.specs.Records.{word_of, fold, settings_after, record_after, Proposing, proposed, unproposed, of_pair, at_most_one, with_point, proposing_after, fits_after, step_record}
use Rattle.trace_rule_laws.specs.FoldLaws.{other_letter, fold_append, idle_settings, idle_record, idle_fits, proposing_by, proposing_by_lem, idle_proposing, same_record}
use Rattle.trace_rule_laws.specs.PairOrderLaws.{either_order}
use Rattle.trace_rule_laws.specs.Replaced.{Both, Replaces, settings, collider, body, hook}

-- ---- lists of lines

-- Two states go the same way along the lines between, and a line makes them one.
module _ {S : Type 0} (f : S → Line → S) (Near : S → S → Type 0) (along : (s t : S) (l : Line) → Near s t → Near (f s l) (f t l)) where
  near_after : (s t : S) (ls : List Line) → Near s t → Near (fold f s ls) (fold f t ls)
  unfolding fold
  near_after s t [] n = n
  near_after s t (l ∷ ls) n = near_after (f s l) (f t l) ls (along s t l n)

  fold_replaced : (s : S) (before : List Line) (l : Line) (between : List Line) (m : Line) (after : List Line) → ((u : S) → Near (f u l) u) → ((u v : S) → Near u v → f u m ≡ f v m)
      → fold f s (before ++ l ∷ between ++ m ∷ after) ≡ fold f s (before ++ between ++ m ∷ after)
  unfolding fold
  fold_replaced s before l between m after starts ends =
      let u = fold f s before in
      fold_append f s (before ++ l ∷ between) (m ∷ after) ∙ ap (λ (v : S). fold f (f v m) after) (fold_append f s before (l ∷ between))
      ∙ ap (λ (v : S). fold f v after) (ends (fold f (f u l) between) (fold f u between) (near_after (f u l) u between (starts u)))
      ∙ ap (λ (v : S). fold f (f v m) after) (sym (fold_append f s before between)) ∙ sym (fold_append f s (before ++ between) (m ∷ after))

-- a line that changes nothing, as the lines stand here
fold_idle : {S : Type 0} (f : S → Line → S) (s : S) (before : List Line) (l : Line) (between : List Line) (m : Line) (after : List Line) → ((u : S) → f u l ≡ u)
    → fold f s (before ++ l ∷ between ++ m ∷ after) ≡ fold f s (before ++ between ++ m ∷ after)
fold_idle {S} f s before l between m after e =
    fold_replaced f (λ u v. u ≡ v) (λ u v k n. ap (λ (w : S). f w k) n) s before l between m after e (λ u v n. ap (λ (w : S). f w m) n)

-- ---- rows that differ in one record alone

module _ (at size : ℕ) where
  -- the rows are one once that record is stored
  abbrev Beside : List ℕ → List ℕ → Type 0
  Beside r s = (ws : List ℕ) → length ws ≡ size → put r at ws ≡ put s at ws

  beside_set : (r s : List ℕ) (i v : ℕ) → Beside r s → Beside (set r i v) (set s i v)
  beside_set r s i v b ws e =
      ap (λ (xs : List ℕ). put xs at ws) (put_one r i v) ∙ by (dec_lt i at) (dec_lt i (at + size)) ∙ ap (λ (xs : List ℕ). put xs at ws) (sym (put_one s i v))
    where
      apart : Apart i 1 at (length ws) → put (put r i (v ∷ [])) at ws ≡ put (put s i (v ∷ [])) at ws
      apart d = put_comm r i (v ∷ []) at ws d ∙ ap (λ (xs : List ℕ). put xs i (v ∷ [])) (b ws e) ∙ sym (put_comm s i (v ∷ []) at ws d)

      covered : at ≤ i → i < at + size → put (put r i (v ∷ [])) at ws ≡ put (put s i (v ∷ [])) at ws
      covered h l =
          let k = i - at in
          let p : at + k ≡ i = omega arith in
          let c : k + 1 ≤ length ws = omega arith in
          ap (λ (n : ℕ). put (put r n (v ∷ [])) at ws) (sym p) ∙ put_cover r at k (v ∷ []) ws c ∙ b ws e ∙ sym (put_cover s at k (v ∷ []) ws c) ∙ ap (λ (n : ℕ). put (put s n (v ∷ [])) at ws) p

      by : Dec (i < at) → Dec (i < at + size) → put (put r i (v ∷ [])) at ws ≡ put (put s i (v ∷ [])) at ws
      by (yes h) q = apart (inl (omega arith))
      by (no h) (yes l) = covered (let g = h in omega arith) l
      by (no h) (no l) = apart (inr (let g = l in omega arith))

  beside_put : (r s : List ℕ) (i : ℕ) (vs : List ℕ) → Beside r s → Beside (put r i vs) (put s i vs)
  unfolding put
  beside_put r s i [] b = b
  beside_put r s i (v ∷ vs) b = beside_put (set r i v) (set s i v) (suc i) vs (beside_set r s i v b)

  beside_cond : (t : Bool) (r s : List ℕ) (i : ℕ) (vs : List ℕ) → Beside r s → Beside (cond t (put r i vs) r) (cond t (put s i vs) s)
  beside_cond true r s i vs b = beside_put r s i vs b
  beside_cond false r s i vs b = b

  beside_stored : (r vs : List ℕ) → length vs ≡ size → Beside (put r at vs) r
  beside_stored r vs e ws h = put_put r at vs ws (e ∙ sym h)

settings_replaced : {l m : Line} → Both settings_letter settings_length l m → (before between after : List Line)
    → fold settings_after (zeros settings_length) (before ++ l ∷ between ++ m ∷ after) ≡ fold settings_after (zeros settings_length) (before ++ between ++ m ∷ after)
unfolding settings_after
settings_replaced {l} {m} b before between after =
    fold_replaced settings_after (Beside 0 settings_length) (λ r s k n. beside_cond 0 settings_length (is settings_letter k) r s 0 k.words n) (zeros settings_length) before l between m after
    (λ r. subst (λ (t : Bool). Beside 0 settings_length (cond t (put r 0 l.words) r) r) (sym b.first) (beside_stored 0 settings_length r l.words b.first_words))
    (λ r s n. (λ i. cond (b.second i) (put r 0 m.words) r) ∙ n m.words b.second_words ∙ (λ i. cond (sym b.second i) (put s 0 m.words) s))

-- behind the presence mark as many words as behind the number
marked_length : (size : ℕ) (ws : List ℕ) → 0 < size → length ws ≡ size → length (1 ∷ drop 1 ws) ≡ size
marked_length size (w ∷ ws) h e = e
marked_length size [] h e = absurd (omega (arith, e))

record_replaced : (letter size room : ℕ) {l m : Line} → 0 < size → Both letter size l m → word_of l 0 ≡ word_of m 0 → (before between after : List Line)
    → fold (record_after letter size) (zeros room) (before ++ l ∷ between ++ m ∷ after) ≡ fold (record_after letter size) (zeros room) (before ++ between ++ m ∷ after)
unfolding record_after
record_replaced letter size room {l} {m} h b e before between after =
    fold_replaced (record_after letter size) (Beside at size) (λ r s k n. beside_cond at size (is letter k) r s (word_of k 0 * size) (1 ∷ drop 1 k.words) n) (zeros room) before l between m after
    (λ r.
    subst (λ (t : Bool). Beside at size (cond t (put r (word_of l 0 * size) (1 ∷ drop 1 l.words)) r) r) (sym b.first)
    (subst (λ (n : ℕ). Beside at size (put r (n * size) (1 ∷ drop 1 l.words)) r) (sym e)
    (beside_stored at size r (1 ∷ drop 1 l.words) (marked_length size l.words h b.first_words))))
    (λ r s n.
    (λ i. cond (b.second i) (put r at (1 ∷ drop 1 m.words)) r) ∙ n (1 ∷ drop 1 m.words) (marked_length size m.words h b.second_words)
    ∙ (λ i. cond (sym b.second i) (put s at (1 ∷ drop 1 m.words)) s))
  where
    at : ℕ
    at = word_of m 0 * size

-- ---- a pair's proposal, but for the hook's answer

record SameManifolds (s t : Proposing) : Type 0 where
  closed : s.closed ≡ t.closed
  last : s.last ≡ t.last

-- two lines that name one pair name the same pairs
same_names : (a b c d e f : ℕ) → same_colliders c d e f ≡ true → same_colliders a b c d ≡ same_colliders a b e f
unfolding same_colliders
same_names a b c d e f h = by (eqb c e) (eqb d f) (eqb c f) (eqb d e) refl refl refl refl h
  where
    crossed : (u v : Bool) → eqb c f ≡ u → eqb d e ≡ v → u && v ≡ true → same_colliders a b c d ≡ same_colliders a b e f
    crossed true true p q h = (λ i. same_colliders a b (eqb-true c f p i) (eqb-true d e q i)) ∙ either_order a b f e
    crossed true false p q h = absurd (true≢false (sym h))
    crossed false v p q h = absurd (true≢false (sym h))

    by : (s t u v : Bool) → eqb c e ≡ s → eqb d f ≡ t → eqb c f ≡ u → eqb d e ≡ v → (s && t) || (u && v) ≡ true → same_colliders a b c d ≡ same_colliders a b e f
    by true true u v p q x y h = λ i. same_colliders a b (eqb-true c e p i) (eqb-true d f q i)
    by true false u v p q x y h = crossed u v x y h
    by false t u v p q x y h = crossed u v x y h

module _ (a b : ℕ) where
  manifolds_along : (s t : Proposing) (l : Line) → SameManifolds s t → SameManifolds (proposing_after a b s l) (proposing_after a b t l)
  unfolding proposing_after
  manifolds_along s t l n = by (is hook_letter l) (is manifold_letter l) (is point_letter l) (of_pair a b l)
    where
      by : (h m p names : Bool) → SameManifolds (proposing_by h m p names l s) (proposing_by h m p names l t)
      by true m p true = record { closed = n.closed; last = n.last }
      by true m p false = n
      by false true p names = record { closed = λ i. n.closed i ++ at_most_one (n.last i); last = refl }
      by false false true names = record { closed = n.closed; last = λ i. with_point (n.last i) l }
      by false false false names = n

  hook_replaced : (l m : Line) → is hook_letter l ≡ true → is hook_letter m ≡ true → same_colliders (word_of l 0) (word_of l 1) (word_of m 0) (word_of m 1) ≡ true → (before between after : List Line)
      → fold (proposing_after a b) unproposed (before ++ l ∷ between ++ m ∷ after) ≡ fold (proposing_after a b) unproposed (before ++ between ++ m ∷ after)
  hook_replaced l m p q e before between after = by (of_pair a b m) refl
    where
      -- an H that names the pair or not
      after_hook : (k : Line) → is hook_letter k ≡ true → (t : Bool) → of_pair a b k ≡ t → (s : Proposing) → proposing_after a b s k ≡ proposing_by true false false t k s
      after_hook k h t n s =
          proposing_by_lem a b s k ∙ (λ i. proposing_by (h i) (other_letter hook_letter manifold_letter k h refl i) (other_letter hook_letter point_letter k h refl i) (n i) k s)

      same : of_pair a b l ≡ of_pair a b m
      same = same_names a b (word_of l 0) (word_of l 1) (word_of m 0) (word_of m 1) e

      by : (t : Bool) → of_pair a b m ≡ t
          → fold (proposing_after a b) unproposed (before ++ l ∷ between ++ m ∷ after) ≡ fold (proposing_after a b) unproposed (before ++ between ++ m ∷ after)
      by true n =
          fold_replaced (proposing_after a b) SameManifolds manifolds_along unproposed before l between m after
          (λ s. subst (λ (t : Proposing). SameManifolds t s) (sym (after_hook l p true (same ∙ n) s)) (record { closed = refl; last = refl }))
          (λ s t k. after_hook m q true n s ∙ (λ i. record { hook = word_of m 2; closed = k.closed i; last = k.last i }) ∙ sym (after_hook m q true n t))
      by false n = fold_idle (proposing_after a b) unproposed before l between m after (λ s. after_hook l p false (same ∙ n) s)

-- ---- the theorem

module _ (l m : Line) (before between after : List Line) where
  abbrev long : List Line
  long = before ++ l ∷ between ++ m ∷ after

  abbrev short : List Line
  short = before ++ between ++ m ∷ after

  still_settings : is settings_letter l ≡ false → fold settings_after (zeros settings_length) long ≡ fold settings_after (zeros settings_length) short
  still_settings e = fold_idle settings_after (zeros settings_length) before l between m after (idle_settings l e)

  still_record : (letter size n : ℕ) → is letter l ≡ false → fold (record_after letter size) (zeros n) long ≡ fold (record_after letter size) (zeros n) short
  still_record letter size n e = fold_idle (record_after letter size) (zeros n) before l between m after (idle_record letter size l e)

  still_proposal : is hook_letter l ≡ false → is manifold_letter l ≡ false → is point_letter l ≡ false → (a b : ℕ)
      → proposed (fold (proposing_after a b) unproposed long) ≡ proposed (fold (proposing_after a b) unproposed short)
  still_proposal h k p a b = ap proposed (fold_idle (proposing_after a b) unproposed before l between m after (idle_proposing a b l h k p))

  still_fits : l.fits ≡ true → fold fits_after true long ≡ fold fits_after true short
  still_fits e = fold_idle fits_after true before l between m after (idle_fits l e)

-- With the lines since the last go: a step is given the same without a line that a later one replaces, if no number in it is out of range.
pub replaced : (before : List Line) (l : Line) (between : List Line) (m : Line) (after : List Line) → Replaces l m → l.fits ≡ true
    → step_record (before ++ l ∷ between ++ m ∷ after) ≡ step_record (before ++ between ++ m ∷ after)
replaced before l between m after (settings b) f =
    let other : (letter : ℕ) → eqb settings_letter letter ≡ false → is letter l ≡ false = λ letter d. other_letter settings_letter letter l b.first d in
    same_record (long l m before between after) (short l m before between after) (settings_replaced b before between after)
    (still_record l m before between after collider_letter collider_size colliders_length (other collider_letter refl))
    (still_record l m before between after body_letter body_size bodies_length (other body_letter refl))
    (still_proposal l m before between after (other hook_letter refl) (other manifold_letter refl) (other point_letter refl)) (still_fits l m before between after f)
replaced before l between m after (collider b e) f =
    let other : (letter : ℕ) → eqb collider_letter letter ≡ false → is letter l ≡ false = λ letter d. other_letter collider_letter letter l b.first d in
    same_record (long l m before between after) (short l m before between after) (still_settings l m before between after (other settings_letter refl))
    (record_replaced collider_letter collider_size colliders_length (omega arith) b e before between after)
    (still_record l m before between after body_letter body_size bodies_length (other body_letter refl))
    (still_proposal l m before between after (other hook_letter refl) (other manifold_letter refl) (other point_letter refl)) (still_fits l m before between after f)
replaced before l between m after (body b e) f =
    let other : (letter : ℕ) → eqb body_letter letter ≡ false → is letter l ≡ false = λ letter d. other_letter body_letter letter l b.first d in
    same_record (long l m before between after) (short l m before between after) (still_settings l m before between after (other settings_letter refl))
    (still_record l m before between after collider_letter collider_size colliders_length (other collider_letter refl))
    (record_replaced body_letter body_size bodies_length (omega arith) b e before between after)
    (still_proposal l m before between after (other hook_letter refl) (other manifold_letter refl) (other point_letter refl)) (still_fits l m before between after f)
replaced before l between m after (hook p q e) f =
    let other : (letter : ℕ) → eqb hook_letter letter ≡ false → is letter l ≡ false = λ letter d. other_letter hook_letter letter l p d in
    same_record (long l m before between after) (short l m before between after) (still_settings l m before between after (other settings_letter refl))
    (still_record l m before between after collider_letter collider_size colliders_length (other collider_letter refl))
    (still_record l m before between after body_letter body_size bodies_length (other body_letter refl))
    (λ a b. ap proposed (hook_replaced a b l m p q e before between after)) (still_fits l m before between after f)
