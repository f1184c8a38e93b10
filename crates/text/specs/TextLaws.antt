-- A byte that is expected at a place of a text. Assumes nothing.
use Rattle.std.specs.Prelude.{◌≡◌, refl, ℕ, ◌+◌, ◌≤◌, ◌<◌, Bool, true, false, List, eqb, ltb, length, get_or, drop, Option, None, Some}
use Rattle.std.proofs.Common.{sym, ap, ◌∙◌, add-one, eqb-true, eq-eqb, ne_eqb, ltb-true, ltb-false, drop_of_length-le, drop-cons}
use Rattle.std.proofs.lemmas.Bool.{eqb-false}
use Rattle.text.specs.Text.{expect}
use Rattle.text.specs.Answers.{Stands, ByteIs, ByteRead}

pub expect_end : {A : Type 0} (b : ℕ) (f : List ℕ → Option A) (xs : List ℕ) (at : ℕ) → length xs ≤ at → expect b f (drop at xs) ≡ None
unfolding expect
expect_end b f xs at h = rw (drop_of_length-le xs h)

pub expect_other : {A : Type 0} (b : ℕ) (f : List ℕ → Option A) (xs : List ℕ) (at : ℕ) → at < length xs → (get_or xs at 0 ≡ b → ⊥) → expect b f (drop at xs) ≡ None
unfolding expect
expect_other b f xs at h e = rw (drop-cons xs at 0 h, ne_eqb (get_or xs at 0) b e)

pub expect_same : {A : Type 0} (b : ℕ) (f : List ℕ → Option A) (xs : List ℕ) (at : ℕ) → at < length xs → get_or xs at 0 ≡ b → expect b f (drop at xs) ≡ f (drop (at + 1) xs)
unfolding expect
expect_same b f xs at h e = rw (drop-cons xs at 0 h, eq-eqb (get_or xs at 0) b e, add-one)

pub expect_read : {A : Type 0} (b : ℕ) (f : List ℕ → Option A) (xs : List ℕ) (at next : ℕ) → ByteRead xs at b (Some next) → expect b f (drop at xs) ≡ f (drop next xs)
expect_read b f xs at next r = expect_same b f xs at r.0.0 r.0.1 ∙ ap (λ (n : ℕ). f (drop n xs)) (sym r.1)

pub byte_tested : (xs : List ℕ) (at b : ℕ) → at < length xs → ByteIs xs at b (eqb (get_or xs at 0) b)
byte_tested xs at b h = tested (eqb (get_or xs at 0) b) (eqb-true (get_or xs at 0) b) (eqb-false (get_or xs at 0) b)
  where
    tested : (t : Bool) → (t ≡ true → get_or xs at 0 ≡ b) → (t ≡ false → get_or xs at 0 ≡ b → ⊥) → ByteIs xs at b t
    tested true e f = (h, e refl)
    tested false e f = λ s. f refl s.1

pub expect_not : {A : Type 0} (b : ℕ) (f : List ℕ → Option A) (xs : List ℕ) (at : ℕ) → (Stands xs at b → ⊥) → expect b f (drop at xs) ≡ None
expect_not b f xs at h = by_length (ltb at (length xs)) (ltb-true at (length xs)) (ltb-false at (length xs))
  where
    by_length : (t : Bool) → (t ≡ true → at < length xs) → (t ≡ false → length xs ≤ at) → expect b f (drop at xs) ≡ None
    by_length true l g = expect_other b f xs at (l refl) (λ e. h (l refl, e))
    by_length false l g = expect_end b f xs at (g refl)
