-- A store over a part of words that a row holds: it leaves the row with all of them stored, that part changed. Assumes nothing.
use Rattle.std.specs.Prelude.{◌≡◌, refl, ℕ, zero, suc, ◌+◌, ◌*◌, ◌-◌, ◌≤◌, ◌<◌, length, set}
use Rattle.std.proofs.Common.{sym, ◌∙◌, subst, add-zero, add-suc, suc-add, suc-mul, zero-mul, mul-le-mul_right, not-suc-le-zero, le_of_suc-le-suc, arith, inl, length-set}
use Rattle.std.proofs.Math.Path.{ap}
use mathlib.Core.List.{List, [], ◌∷◌, ◌++◌}
use Rattle.std.proofs.lemmas.List.{set-get_or}
use Rattle.rows.specs.Rows.{put, each}
use Rattle.rows.specs.Laws.{put_append, put_comm}
use Rattle.rows.specs.EachLaws.{length_each}
use Rattle.rules.specs.Matching.{with_impulses, with_points}
use Rattle.rules.specs.Records.{Point, Manifold}
use Rattle.words.specs.Words.{word_at, float_word, vec3_words}
use Rattle.manifold_records.specs.LengthLaws.{length_point}
use Rattle.manifold_records.specs.ListLaws.{padded_is}
use Rattle.manifold_records.specs.Written.{zeros, point_words, manifold_words}
use Rattle.contact_records.specs.HeldLaws.{Holds, holds_at, holds_left, holds_right, first_held}
use Rattle.manifold_matching.specs.Matched.{impulse_words}

-- ---- storing what is held changes nothing
pub put_held : (xs : List ℕ) (at : ℕ) (ws : List ℕ) → Holds xs at ws → put xs at ws ≡ xs
unfolding put
put_held xs at [] h = refl
put_held xs at (w ∷ ws) h =
    let e : set xs at w ≡ xs = ap (set xs at) (sym (first_held h)) ∙ set-get_or xs at 0 in
    let r : Holds xs (suc at) ws = record { each = λ i l. ap (word_at xs) (suc-add at i ∙ sym (add-suc at i)) ∙ h.each (suc i) (omega arith) } in
    ap (λ (ys : List ℕ). put ys (suc at) ws) e ∙ put_held xs (suc at) ws r

module _ (xs : List ℕ) (at : ℕ) where
  -- n words that are held stand before the store
  pub held_before : (us vs : List ℕ) (n : ℕ) → length us ≡ n → Holds xs at us → put xs (at + n) vs ≡ put xs at (us ++ vs)
  held_before us vs n e h =
      ap (λ (k : ℕ). put xs (at + k) vs) (sym e) ∙ ap (λ (ys : List ℕ). put ys (at + length us) vs) (sym (put_held xs at us h))
      ∙ sym (put_append xs at us vs)

  -- and after a store of n words
  pub held_after : (us vs : List ℕ) (n : ℕ) → length us ≡ n → Holds xs (at + n) vs → put xs at us ≡ put xs at (us ++ vs)
  held_after us vs n e h =
      let r : Holds xs (at + length us) vs = holds_at (ap (λ (k : ℕ). at + k) (sym e)) h in
      ap (λ (ys : List ℕ). put ys at us) (sym (put_held xs (at + length us) vs r))
      ∙ sym (put_comm xs at us (at + length us) vs (inl (omega arith))) ∙ sym (put_append xs at us vs)

-- words in the middle
pub stored_over : (xs : List ℕ) (at : ℕ) (us vs ws new : List ℕ) (n : ℕ) → length us ≡ n → length vs ≡ length new → Holds xs at (us ++ (vs ++ ws))
    → put xs (at + n) new ≡ put xs at (us ++ (new ++ ws))
stored_over xs at us vs ws new n e l h =
    held_after xs (at + n) new ws (length vs) (sym l) (holds_right vs ws (length vs) refl (holds_right us (vs ++ ws) n e h))
    ∙ held_before xs at us (new ++ ws) n e (holds_left us (vs ++ ws) h)

-- the words of an array's structs, n for each: a store over those of struct k
pub stored_over_each {ℓ} : {A : Type ℓ} (f : A → List ℕ) (n : ℕ) (size : (a : A) → length (f a) ≡ n) (xs : List ℕ) (at : ℕ) (us : List A) (k : ℕ) (u : A) → k < length us
    → Holds xs at (each f us) → put xs (at + k * n) (f u) ≡ put xs at (each f (set us k u))
stored_over_each f n size xs at [] k u l h = absurd (not-suc-le-zero l)
stored_over_each f n size xs at (v ∷ us) zero u l h =
    ap (λ (m : ℕ). put xs m (f u)) (ap (λ (m : ℕ). at + m) (zero-mul n) ∙ add-zero at)
    ∙ held_after xs at (f u) (each f us) n (size u) (holds_right (f v) (each f us) n (size v) h)
stored_over_each f n size xs at (v ∷ us) (suc k) u l h =
    let e : at + suc k * n ≡ at + n + k * n = omega (arith, suc-mul k n) in
    ap (λ (m : ℕ). put xs m (f u)) e
    ∙ stored_over_each f n size xs (at + n) us k u (le_of_suc-le-suc l) (holds_right (f v) (each f us) n (size v) h)
    ∙ held_before xs at (f v) (each f (set us k u)) n (size v) (holds_left (f v) (each f us) h)

-- ---- a point: the impulses of another are stored over its own
pub impulses_stored : (xs : List ℕ) (at : ℕ) (new old : Point) → Holds xs at (point_words new) → put xs (at + 13) (impulse_words old) ≡ put xs at (point_words (with_impulses new old))
unfolding point_words
impulses_stored xs at new old h =
    let us : List ℕ =
    vec3_words new.anchor1 ++ vec3_words new.anchor2 ++ vec3_words new.point
    ++ (float_word new.penetration ∷ float_word new.base_penetration ∷ float_word new.normal_impulse ∷ float_word new.normal_speed ∷ []) in
    stored_over xs at us (impulse_words new) (new.feature1 ∷ new.feature2 ∷ []) (impulse_words old) 13 refl refl h

-- ---- a manifold: its first nine words, its points' words, and zeros
abbrev surface : Manifold → List ℕ
surface m = length m.points ∷ vec3_words m.normal ++ (float_word m.friction ∷ float_word m.restitution ∷ []) ++ vec3_words m.tangent_velocity

module _ (m : Manifold) (few : length m.points ≤ 4) where
  points_short : length (each point_words m.points) ≤ 72
  points_short = rw (length_each point_words 18 length_point m.points) (mul-le-mul_right 18 few)

  words_are : manifold_words m ≡ surface m ++ (each point_words m.points ++ zeros (72 - length (each point_words m.points)))
  unfolding manifold_words
  words_are = ap (λ (ws : List ℕ). surface m ++ ws) (padded_is 72 (each point_words m.points) points_short)

-- the points' words stand after the first nine
pub points_in : (xs : List ℕ) (at : ℕ) (m : Manifold) → length m.points ≤ 4 → Holds xs at (manifold_words m) → Holds xs (at + 9) (each point_words m.points)
points_in xs at m few h =
    let ws = each point_words m.points in
    let zs = zeros (72 - length ws) in
    holds_left ws zs (holds_right (surface m) (ws ++ zs) 9 refl (subst (Holds xs at) (words_are m few) h))

-- the points of a manifold changed, and as many
pub points_stored : (xs : List ℕ) (at : ℕ) (m : Manifold) (ps : List Point) → length m.points ≤ 4 → length ps ≡ length m.points → Holds xs at (manifold_words m)
    → put xs (at + 9) (each point_words ps) ≡ put xs at (manifold_words (with_points m ps))
points_stored xs at m ps few e h =
    let us = each point_words m.points in
    let vs = each point_words ps in
    let l : length us ≡ length vs = length_each point_words 18 length_point m.points ∙ ap (λ (k : ℕ). k * 18) (sym e) ∙ sym (length_each point_words 18 length_point ps) in
    let few' : length ps ≤ 4 = omega arith in
    stored_over xs at (surface m) us (zeros (72 - length us)) vs 9 refl l (subst (Holds xs at) (words_are m few) h)
    ∙ ap (λ (k : ℕ). put xs at (surface m ++ (vs ++ zeros (72 - k)))) l
    ∙ ap (λ (k : ℕ). put xs at ((k ∷ vec3_words m.normal ++ (float_word m.friction ∷ float_word m.restitution ∷ []) ++ vec3_words m.tangent_velocity) ++ (vs ++ zeros (72 - length vs)))) (sym e)
    ∙ ap (put xs at) (sym (words_are (with_points m ps) few'))

-- point k's words are stored over
pub point_stored_lem : (xs : List ℕ) (at : ℕ) (m : Manifold) (k : ℕ) (p : Point) → length m.points ≤ 4 → k < length m.points → Holds xs at (manifold_words m)
    → put xs (at + 9 + k * 18) (point_words p) ≡ put xs at (manifold_words (with_points m (set m.points k p)))
point_stored_lem xs at m k p few l h =
    stored_over_each point_words 18 length_point xs (at + 9) m.points k p l (points_in xs at m few h)
    ∙ points_stored xs at m (set m.points k p) few (length-set m.points k p) h
