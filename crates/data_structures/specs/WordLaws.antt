-- The laws of the bits of one word: of `bit_of` and `word_bits`. Assumes nothing.
use Rattle.std.specs.Prelude.{◌≡◌, refl, ◌⊎◌, ℕ, zero, suc, ◌+◌, ◌-◌, ◌*◌, ◌/◌, ◌%◌, ◌^◌, ◌≤◌, ◌<◌, min, Bool, false, not, ◌||◌, List, [], ◌∷◌, length, eqb}
use Rattle.std.proofs.Common.{sym, ap, ap₂, ◌∙◌, inl, inr, ⊎_elim, mod-lt, div-one, pow-suc, mul-div_cancel, zero-lt-suc, zero-mul, one-mul, add-zero, add_comm, add-one, arith, ne_eqb, shr-shr, pow_pos, shr_lt, shl_exact}
use Rattle.std.proofs.Math.Nat.{zero-div, mul-mod_left, min-zero, zero-min}
use Rattle.std.specs.Int.Bits.{bit_and, bit_or, and_step, and_self}
use Rattle.std.proofs.lemmas.Nat.{or_shr, or_mod}
use Rattle.std.proofs.lemmas.Nat.Bits.{and_high}
use Rattle.std.specs.Int.Count.{count_trailing_zeros, under}
use Rattle.std.proofs.Math.Dec.{eqb-zero-suc, eqb-suc-zero, eqb-suc-suc}
use Rattle.data_structures.specs.BitVec.{bit_of, word_bits, numbers_with}
use Rattle.data_structures.specs.NumberLaws.{kept, numbers_same, numbers_none, numbers_length}

-- ---- a bit of an or, of a power, of 0

or_low : (x y : ℕ) → x < 2 → y < 2 → eqb (bit_or x y) 1 ≡ (eqb x 1 || eqb y 1)
or_low zero zero h l = refl
or_low zero (suc zero) h l = refl
or_low (suc zero) zero h l = refl
or_low (suc zero) (suc zero) h l = refl
or_low zero (suc (suc y)) h l = absurd (omega arith)
or_low (suc zero) (suc (suc y)) h l = absurd (omega arith)
or_low (suc (suc x)) y h l = absurd (omega arith)

pub bit_or_lem : (a b k : ℕ) → bit_of (bit_or a b) k ≡ (bit_of a k || bit_of b k)
unfolding bit_of
bit_or_lem a b k =
    let x = a / 2 ^ k in
    let y = b / 2 ^ k in
    ap (λ (n : ℕ). eqb (n % 2) 1) (or_shr a b k) ∙ ap (λ (n : ℕ). eqb n 1) (or_mod x y 1) ∙ or_low (x % 2) (y % 2) (mod-lt x (zero-lt-suc 1)) (mod-lt y (zero-lt-suc 1))

pub bit_zero : (k : ℕ) → bit_of 0 k ≡ false
unfolding bit_of
bit_zero k = rw (zero-div (2 ^ k))

-- the next bit is the same bit of half the word
pub bit_half : (w k : ℕ) → bit_of w (suc k) ≡ bit_of (w / 2) k
unfolding bit_of
bit_half w k =
    let e : 1 + k ≡ suc k = omega arith in
    ap (λ (n : ℕ). eqb (n % 2) 1) (ap (λ (m : ℕ). w / 2 ^ m) (sym e) ∙ sym (shr-shr w 1 k))

pub bit_first : (w : ℕ) → bit_of w 0 ≡ eqb (w % 2) 1
unfolding bit_of
bit_first w = ap (λ (n : ℕ). eqb (n % 2) 1) (div-one w)

pub bit_power : (k m : ℕ) → bit_of (2 ^ k) m ≡ eqb k m
bit_power zero zero = bit_first 1
bit_power zero (suc m) = bit_half 1 m ∙ bit_zero m ∙ sym (eqb-zero-suc m)
bit_power (suc k) zero = bit_first (2 ^ suc k) ∙ ap (λ (n : ℕ). eqb n 1) (ap (λ (n : ℕ). n % 2) (pow-suc 2 k) ∙ mul-mod_left (2 ^ k) 2) ∙ sym (eqb-suc-zero k)
bit_power (suc k) (suc m) =
    bit_half (2 ^ suc k) m ∙ ap (λ (n : ℕ). bit_of n m) (ap (λ (n : ℕ). n / 2) (pow-suc 2 k) ∙ mul-div_cancel (2 ^ k) (zero-lt-suc 1)) ∙ bit_power k m ∙ sym (eqb-suc-suc k m)

-- the mask of a bit, as the code makes it
pub mask_of : (k : ℕ) → k < 64 → 1 * 2 ^ k % 2 ^ 64 ≡ 2 ^ k
mask_of k h = shl_exact 1 k 64 (omega arith) (omega arith) ∙ one-mul (2 ^ k)

-- a bit is read by its mask
pub bit_mask : (w k : ℕ) → not (eqb (bit_and w (2 ^ k)) 0) ≡ bit_of w k
unfolding bit_of
bit_mask w k =
    let s : 2 ^ (1 + k) ≡ 2 ^ k * 2 = ap (λ (m : ℕ). 2 ^ m) (add_comm 1 k ∙ add-one k) ∙ pow-suc 2 k in
    let e : 2 ^ (1 + k) - 2 ^ k ≡ 2 ^ k = omega arith in
    ap (λ (n : ℕ). not (eqb n 0)) (ap (bit_and w) (sym e) ∙ and_high w 1 k) ∙ go (w / 2 ^ k % 2) (mod-lt (w / 2 ^ k) (zero-lt-suc 1))
  where
    go : (x : ℕ) → x < 2 → not (eqb (x * 2 ^ k) 0) ≡ eqb x 1
    go zero h = rw (zero-mul (2 ^ k))
    go (suc zero) h = rw (ne_eqb (1 * 2 ^ k) 0 (λ e. omega (arith, pow_pos k)))
    go (suc (suc x)) h = absurd (omega arith)

-- ---- the lowest set bit, and the word without it

even_or_odd : (w : ℕ) → (w % 2 ≡ 0) ⊎ (w % 2 ≡ 1)
even_or_odd w = go (w % 2) (mod-lt w (zero-lt-suc 1))
  where
    go : (x : ℕ) → x < 2 → (x ≡ 0) ⊎ (x ≡ 1)
    go zero h = inl refl
    go (suc zero) h = inr refl
    go (suc (suc x)) h = absurd (omega arith)

trailing_odd : (d w : ℕ) → w % 2 ≡ 1 → count_trailing_zeros (suc d) w ≡ 0
unfolding count_trailing_zeros
trailing_odd d w e = ap (λ (x : ℕ). under x (count_trailing_zeros d (w / 2))) e

trailing_even : (d w : ℕ) → w % 2 ≡ 0 → count_trailing_zeros (suc d) w ≡ suc (count_trailing_zeros d (w / 2))
unfolding count_trailing_zeros
trailing_even d w e = ap (λ (x : ℕ). under x (count_trailing_zeros d (w / 2))) e

half_pos : (w : ℕ) → 0 < w → w % 2 ≡ 0 → 0 < w / 2
half_pos w p e = omega arith

half_below : (d w : ℕ) → w < 2 ^ suc d → w / 2 < 2 ^ d
half_below d w h = shr_lt d 1 (rw add-one h)

-- the lowest set bit lies in the word
pub trailing_below : (d w : ℕ) → 0 < w → w < 2 ^ d → count_trailing_zeros d w < d
trailing_below zero w p h = absurd (omega arith)
trailing_below (suc d) w p h =
    ⊎_elim (λ e. rw (trailing_even d w e) (let i = trailing_below d (w / 2) (half_pos w p e) (half_below d w h) in omega arith))
    (λ e. rw (trailing_odd d w e) (zero-lt-suc d))
    (even_or_odd w)

clear_odd : (w : ℕ) → w % 2 ≡ 1 → bit_and w (w - 1) ≡ w / 2 * 2
clear_odd w e =
    let h : (w - 1) / 2 ≡ w / 2 = omega arith in
    let l : (w - 1) % 2 ≡ 0 = omega arith in
    and_step w (w - 1) ∙ ap₂ (λ (x y : ℕ). bit_and (w / 2) x * 2 + min (w % 2) y) h l
    ∙ ap₂ (λ (x y : ℕ). x * 2 + y) (and_self (w / 2)) (min-zero (w % 2)) ∙ add-zero (w / 2 * 2)

clear_even : (w : ℕ) → 0 < w → w % 2 ≡ 0 → bit_and w (w - 1) ≡ bit_and (w / 2) (w / 2 - 1) * 2
clear_even w p e =
    let h : (w - 1) / 2 ≡ w / 2 - 1 = omega arith in
    and_step w (w - 1) ∙ ap₂ (λ (x y : ℕ). bit_and (w / 2) x * 2 + min y ((w - 1) % 2)) h e
    ∙ ap (λ (x : ℕ). bit_and (w / 2) (w / 2 - 1) * 2 + x) (zero-min ((w - 1) % 2)) ∙ add-zero (bit_and (w / 2) (w / 2 - 1) * 2)

-- ---- the set bits of a word

pub word_none : (d base : ℕ) → word_bits d base 0 ≡ []
unfolding word_bits
word_none d base = numbers_none (λ n. bit_of 0 (n - base)) base d (λ n. bit_zero (n - base))

pub word_length : (d base w : ℕ) → length (word_bits d base w) ≤ d
unfolding word_bits
word_length d base w = numbers_length (λ n. bit_of w (n - base)) base d

-- the lowest bit, and the rest of half the word
word_step : (d base w : ℕ) → word_bits (suc d) base w ≡ kept (eqb (w % 2) 1) base (word_bits d (suc base) (w / 2))
unfolding word_bits numbers_with
word_step d base w =
    let z : base - base ≡ 0 = omega arith in
    ap₂ (λ (b : Bool) (ns : List ℕ). kept b base ns) (ap (bit_of w) z ∙ bit_first w)
    (numbers_same (λ n. bit_of w (n - base)) (λ n. bit_of (w / 2) (n - suc base)) (suc base) d (λ n l u.
    let e : n - base ≡ suc (n - suc base) = omega arith in
    ap (bit_of w) e ∙ bit_half w (n - suc base)))

word_odd : (d base w : ℕ) → w % 2 ≡ 1 → word_bits (suc d) base w ≡ base ∷ word_bits d (suc base) (w / 2)
word_odd d base w e = word_step d base w ∙ ap (λ (x : ℕ). kept (eqb x 1) base (word_bits d (suc base) (w / 2))) e

word_even : (d base w : ℕ) → w % 2 ≡ 0 → word_bits (suc d) base w ≡ word_bits d (suc base) (w / 2)
word_even d base w e = word_step d base w ∙ ap (λ (x : ℕ). kept (eqb x 1) base (word_bits d (suc base) (w / 2))) e

word_double : (d base u : ℕ) → word_bits (suc d) base (u * 2) ≡ word_bits d (suc base) u
word_double d base u = word_even d base (u * 2) (mul-mod_left u 2) ∙ ap (word_bits d (suc base)) (mul-div_cancel u (zero-lt-suc 1))

-- the set bits of a word: the lowest, and those of the word without it
pub word_next : (d base w : ℕ) → 0 < w → w < 2 ^ d → word_bits d base w ≡ (base + count_trailing_zeros d w) ∷ word_bits d base (bit_and w (w - 1))
word_next zero base w p h = absurd (omega arith)
word_next (suc d) base w p h =
    ⊎_elim
    (λ (e : w % 2 ≡ 0).
    word_even d base w e ∙ word_next d (suc base) (w / 2) (half_pos w p e) (half_below d w h)
    ∙ ap₂ (λ (n : ℕ) (ns : List ℕ). n ∷ ns) (omega (arith, trailing_even d w e))
    (sym (ap (word_bits (suc d) base) (clear_even w p e) ∙ word_double d base (bit_and (w / 2) (w / 2 - 1)))))
    (λ (e : w % 2 ≡ 1).
    word_odd d base w e
    ∙ ap₂ (λ (n : ℕ) (ns : List ℕ). n ∷ ns) (omega (arith, trailing_odd d w e)) (sym (ap (word_bits (suc d) base) (clear_odd w e) ∙ word_double d base (w / 2))))
    (even_or_odd w)
