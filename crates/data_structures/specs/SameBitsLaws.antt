-- Words of 64 bits that have the same bits are the same words. Assumes nothing.
use Rattle.std.specs.Prelude.{ℕ, zero, suc, ◌+◌, ◌*◌, ◌/◌, ◌%◌, ◌^◌, ◌<◌, ◌≡◌, refl, Bool, true, false, List, eqb, length, get_or, set}
use Rattle.std.proofs.Common.{pow-suc, arith, sym, ap, subst, ◌∙◌, eqb-true, length-set, ext_get_or, get_or-set_same, get_or-set_other}
use Rattle.std.proofs.lemmas.Bool.{eqb-false}
use Rattle.std.specs.Int.Bits.{bit_or}
use Rattle.std.proofs.lemmas.Nat.{or_lt}
use Rattle.std.proofs.Math.Pow.{pow-lt}
use Rattle.rows.specs.Slots.{AllBelow}
use Rattle.data_structures.specs.BitVec.{bit_of, bit_at, marked}
use Rattle.data_structures.specs.WordLaws.{bit_first, bit_half}

-- ---- one word
same_odd : (a b : ℕ) → bit_of a 0 ≡ bit_of b 0 → a % 2 ≡ b % 2
same_odd a b e = go (eqb (a % 2) 1) (eqb (b % 2) 1) refl refl (sym (bit_first a) ∙ e ∙ bit_first b)
  where
    go : (s t : Bool) → eqb (a % 2) 1 ≡ s → eqb (b % 2) 1 ≡ t → s ≡ t → a % 2 ≡ b % 2
    go true true p q r = eqb-true (a % 2) 1 p ∙ sym (eqb-true (b % 2) 1 q)
    go true false p q r = absurd (let z : ◌≡◌ {A = ℕ} 0 1 = cc in omega arith)
    go false true p q r = absurd (let z : ◌≡◌ {A = ℕ} 0 1 = cc in omega arith)
    go false false p q r = let x = eqb-false (a % 2) 1 p in let y = eqb-false (b % 2) 1 q in omega arith

pub same_word : (d a b : ℕ) → a < 2 ^ d → b < 2 ^ d → ((k : ℕ) → k < d → bit_of a k ≡ bit_of b k) → a ≡ b
same_word zero a b h l e = omega arith
same_word (suc d) a b h l e =
    let p : 2 ^ suc d ≡ 2 ^ d * 2 = pow-suc 2 d in
    let halves : a / 2 ≡ b / 2 = same_word d (a / 2) (b / 2) (omega arith) (omega arith) (λ k m. sym (bit_half a k) ∙ e (suc k) (omega arith) ∙ bit_half b k) in
    let odd = same_odd a b (e 0 (omega arith)) in
    omega arith

-- ---- a row of words
pub marked_below : (xs : List ℕ) (i : ℕ) → AllBelow (2 ^ 64) xs → AllBelow (2 ^ 64) (marked xs i)
unfolding marked
marked_below xs i b k l = go (eqb k (i / 64)) refl
  where
    size : k < length xs
    size = omega (arith, length-set xs (i / 64) (bit_or (get_or xs (i / 64) 0) (2 ^ (i % 64))))

    go : (t : Bool) → eqb k (i / 64) ≡ t → get_or (set xs (i / 64) (bit_or (get_or xs (i / 64) 0) (2 ^ (i % 64)))) k 0 < 2 ^ 64
    go true e =
        let q = eqb-true k (i / 64) e in
        let w = bit_or (get_or xs (i / 64) 0) (2 ^ (i % 64)) in
        let at : get_or (set xs (i / 64) w) k 0 ≡ w = ap (λ (n : ℕ). get_or (set xs (i / 64) w) n 0) q ∙ get_or-set_same xs (i / 64) w 0 (omega (arith, size)) in
        let word : get_or xs (i / 64) 0 < 2 ^ 64 = b (i / 64) (omega (arith, size)) in
        let bit : 2 ^ (i % 64) < 2 ^ 64 = pow-lt {j = 64} (omega arith) in
        subst (λ (n : ℕ). n < 2 ^ 64) (sym at) (or_lt 64 (get_or xs (i / 64) 0) (2 ^ (i % 64)) word bit)
    go false e =
        let w = bit_or (get_or xs (i / 64) 0) (2 ^ (i % 64)) in
        subst (λ (n : ℕ). n < 2 ^ 64) (sym (get_or-set_other xs (i / 64) k w 0 (eqb-false k (i / 64) e))) (b k size)

-- words with the same bits
pub same_bits : (xs ys : List ℕ) → length xs ≡ length ys → AllBelow (2 ^ 64) xs → AllBelow (2 ^ 64) ys
    → ((n : ℕ) → n < 64 * length xs → bit_at xs n ≡ bit_at ys n) → xs ≡ ys
unfolding bit_at
same_bits xs ys e a b f =
    ext_get_or 0 xs ys e (λ i l. same_word 64 (get_or xs i 0) (get_or ys i 0) (a i l) (b i (omega arith)) (λ k m. word_bit xs i k m ∙ f (64 * i + k) (omega arith) ∙ sym (word_bit ys i k m)))
  where
    word_bit : (zs : List ℕ) (i k : ℕ) → k < 64 → bit_of (get_or zs i 0) k ≡ bit_at zs (64 * i + k)
    word_bit zs i k m =
        let q : (64 * i + k) / 64 ≡ i = omega arith in
        let r : (64 * i + k) % 64 ≡ k = omega arith in
        λ j. bit_of (get_or zs (sym q j) 0) (sym r j)
