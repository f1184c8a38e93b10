-- Signed numbers as words, in two's complement: one undoes the other. Assumes nothing.
use Rattle.std.specs.Prelude.{◌≡◌, refl, Bool, true, false, cond, ℕ, zero, suc, ◌+◌, ◌-◌, ◌^◌, ◌≤◌, ◌<◌, T, ltb, ℤ, pos, negsuc, nat_abs, ◌-ℤ◌}
use Rattle.std.proofs.Common.{sym, ap, subst, ◌∙◌, true≢false, arith, lt-ltb, le-ltb, ltb-true, ltb-false, Fits, SFits, to_z, of_z}
use Rattle.std.specs.Int.Signed.{lt_z, non_neg}
use Rattle.std.specs.Int.{w32}
use Rattle.std.proofs.lemmas.Int.{to_z_pos, to_z-of_z}
use Rattle.contact_records.specs.Recorded.{int_of}
use Rattle.contact_records.specs.Written.{int_word}

-- a number that 32 bits hold
pub int_back : (z : ℤ) → SFits w32 z → int_of (int_word z) ≡ z
unfolding int_word
int_back (pos n) f = rw (lt-ltb n (2 ^ 31) f.sfits)
int_back (negsuc n) f =
    let l : n < 2147483648 = f.sfits in
    rw (le-ltb (4294967295 - n) 2147483648 (omega arith)) (ap negsuc (let e : 4294967295 - (4294967295 - n) ≡ n = omega arith in e))

pub word_back : (w : ℕ) → w < 2 ^ 32 → int_word (int_of w) ≡ w
unfolding int_word
word_back w h = go (ltb w 2147483648) refl
  where
    go : (b : Bool) → ltb w 2147483648 ≡ b → int_word (cond b (pos w) (negsuc (4294967295 - w))) ≡ w
    go true e = refl
    go false e = let l : w < 4294967296 = h in omega arith

-- whatever the word
pub int_fits : (w : ℕ) → SFits w32 (int_of w)
int_fits w = go (ltb w 2147483648) refl
  where
    go : (b : Bool) → ltb w 2147483648 ≡ b → SFits w32 (cond b (pos w) (negsuc (4294967295 - w)))
    go true e = record { sfits = ltb-true w 2147483648 e }
    go false e = record { sfits = let l = ltb-false w 2147483648 e in let z : 4294967295 - w < 2147483648 = omega arith in z }

-- ---- the code
pub unsigned_word : (z : ℤ) → of_z w32 z ≡ int_word z
unfolding int_word
unsigned_word (pos n) = refl
unsigned_word (negsuc n) = let e : 4294967296 - suc n ≡ 4294967295 - n = omega arith in e

-- and read as a signed number
pub signed_word : (w : ℕ) → w < 2 ^ 32 → to_z w32 w ≡ int_of w
signed_word w h = ap (to_z w32) (sym (unsigned_word (int_of w) ∙ word_back w h)) ∙ to_z-of_z w32 (int_of w) (int_fits w)

-- ---- -1 - i of a number below zero, and -1 - n of an upper half

-- what the code makes of -1 - z, as a word
abbrev pub past : ℤ → ℕ
past z = nat_abs (to_z w32 (of_z w32 (negsuc 0 -ℤ z)))

pub record Negative (z : ℤ) : Type 0 where
  pub less : SFits w32 (negsuc 0 -ℤ z)
  pub cast : T (non_neg (to_z w32 (of_z w32 (negsuc 0 -ℤ z)))) × Fits w32 (past z)
  pub small : past z ≤ 4294967295
  pub word : 4294967295 - past z ≡ int_word z

minus_negative : (n : ℕ) → negsuc 0 -ℤ negsuc n ≡ pos n
minus_negative n = rw (le-ltb (suc n) 1 (omega arith)) (ap pos (let e : suc n - 1 ≡ n = omega arith in e))

minus_positive : (n : ℕ) → negsuc 0 -ℤ pos n ≡ negsuc n
minus_positive zero = refl
minus_positive (suc n) = ap negsuc (let e : suc (0 + n) ≡ suc n = omega arith in e)

negative : (z : ℤ) → SFits w32 z → lt_z z (pos 0) ≡ true → Negative z
unfolding int_word
negative (pos n) f t = absurd (let l = ltb-true n 0 t in omega arith)
negative (negsuc n) f t =
    let l : n < 2147483648 = f.sfits in
    let e = minus_negative n in
    let b : to_z w32 (of_z w32 (negsuc 0 -ℤ negsuc n)) ≡ pos n = ap (λ (y : ℤ). to_z w32 (of_z w32 y)) e ∙ to_z_pos w32 n l in
    let v : past (negsuc n) ≡ n = ap nat_abs b in
    record {
      less = subst (SFits w32) (sym e) (record { sfits = l });
      cast = (subst (λ (y : ℤ). T (non_neg y)) (sym b) tt, record { fits = omega arith });
      small = omega arith;
      word = ap (λ (k : ℕ). 4294967295 - k) v;
    }

natural : (z : ℤ) → SFits w32 z → lt_z z (pos 0) ≡ false → T (non_neg z) × Fits w32 (nat_abs z) × (nat_abs z ≡ int_word z)
unfolding int_word
natural (pos n) f t = let l : n < 2147483648 = f.sfits in (tt, record { fits = omega arith }, refl)
natural (negsuc n) f t = absurd (true≢false t)

read_fits : (z : ℤ) → SFits w32 z → SFits w32 (to_z w32 (of_z w32 z))
read_fits z f = subst (SFits w32) (sym (to_z-of_z w32 z f)) f

-- a number as the code reads it
pub read_negative : (z : ℤ) → SFits w32 z → lt_z (to_z w32 (of_z w32 z)) (pos 0) ≡ true → Negative (to_z w32 (of_z w32 z))
read_negative z f t = negative (to_z w32 (of_z w32 z)) (read_fits z f) t

pub read_natural : (z : ℤ) → SFits w32 z → lt_z (to_z w32 (of_z w32 z)) (pos 0) ≡ false → T (non_neg (to_z w32 (of_z w32 z))) × Fits w32 (nat_abs (to_z w32 (of_z w32 z))) × (nat_abs (to_z w32 (of_z w32 z)) ≡ int_word z)
read_natural z f t = let n = natural (to_z w32 (of_z w32 z)) (read_fits z f) t in (n.0, n.1, n.2 ∙ ap int_word (to_z-of_z w32 z f))

pub upper_fits : (w : ℕ) → 2147483648 ≤ w → SFits w32 (negsuc 0 -ℤ to_z w32 (4294967295 - w))
upper_fits w h =
    let l : 4294967295 - w < 2147483648 = omega arith in
    subst (SFits w32) (sym (ap (λ (z : ℤ). negsuc 0 -ℤ z) (to_z_pos w32 (4294967295 - w) l) ∙ minus_positive (4294967295 - w))) (record { sfits = l })

pub upper : (w : ℕ) → 2147483648 ≤ w → to_z w32 (of_z w32 (negsuc 0 -ℤ to_z w32 (4294967295 - w))) ≡ int_of w
upper w h =
    let l : 4294967295 - w < 2147483648 = omega arith in
    let e : int_of w ≡ negsuc (4294967295 - w) = rw (le-ltb w 2147483648 h) in
    to_z-of_z w32 (negsuc 0 -ℤ to_z w32 (4294967295 - w)) (upper_fits w h)
    ∙ ap (λ (z : ℤ). negsuc 0 -ℤ z) (to_z_pos w32 (4294967295 - w) l) ∙ minus_positive (4294967295 - w) ∙ sym e

pub lower : (w : ℕ) → w < 2147483648 → to_z w32 w ≡ int_of w
lower w h = let e : int_of w ≡ pos w = rw (lt-ltb w 2147483648 h) in to_z_pos w32 w h ∙ sym e
