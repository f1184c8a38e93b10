-- A word and a number are below 2 ^ 32. Assumes nothing.
use Rattle.std.specs.Prelude.{◌≡◌, refl, ℕ, zero, suc, ◌+◌, ◌-◌, ◌*◌, ◌^◌, ◌≤◌, ◌<◌, Bool, true, false, cond, ◌&&◌, List, [], ◌∷◌, leb, eqb, Option, None, Some}
use Rattle.std.proofs.Common.{sym, ap, subst, ◌∙◌, mul-le-mul_right, mul_assoc, arith, true≢false, leb-true}
use Rattle.std.proofs.Math.Nat.{pow-succ'}
use Rattle.text.specs.Text.{Taken, after, expect, within, hex_digit, digits, word, largest_number, decimal_from, decimal}

-- what was read, if anything, is below n
abbrev pub Under : ℕ → Option (Taken ℕ) → Type 0
Under n None = Unit {0}
Under n (Some t) = t.value < n

under_larger : {m n : ℕ} (o : Option (Taken ℕ)) → m ≤ n → Under m o → Under n o
under_larger None h u = tt
under_larger (Some t) h u = omega arith

pub under_expect : (n b : ℕ) (f : List ℕ → Option (Taken ℕ)) (xs : List ℕ) → ((ys : List ℕ) → Under n (f ys)) → Under n (expect b f xs)
unfolding expect
under_expect n b f [] h = tt
under_expect n b f (x ∷ xs) h = picked (eqb x b) (f xs) (h xs)
  where
    picked : (t : Bool) (o : Option (Taken ℕ)) → Under n o → Under n (cond t o None)
    picked true o u = u
    picked false o u = tt

-- ---- a word

within_high : (low high b : ℕ) → within low high b ≡ true → b ≤ high
within_high low high b e = leb-true b high (right (leb low b) (leb b high) e)
  where
    right : (s t : Bool) → (s && t) ≡ true → t ≡ true
    right true t e = e
    right false t e = absurd (true≢false (sym e))

abbrev DigitUnder : Option ℕ → Type 0
DigitUnder None = Unit {0}
DigitUnder (Some d) = d < 16

digit_under : (b : ℕ) → DigitUnder (hex_digit b)
unfolding hex_digit
digit_under b =
    by_range (within 48 57 b) (within 65 70 b) (within 97 102 b) (within_high 48 57 b) (within_high 65 70 b) (within_high 97 102 b)
  where
    by_range : (n u l : Bool) → (n ≡ true → b ≤ 57) → (u ≡ true → b ≤ 70) → (l ≡ true → b ≤ 102)
        → DigitUnder (cond n (Some (b - 48)) (cond u (Some (b - 65 + 10)) (cond l (Some (b - 97 + 10)) None)))
    by_range true u l f g h = let r = f refl in omega arith
    by_range false true l f g h = let r = g refl in omega arith
    by_range false false true f g h = let r = h refl in omega arith
    by_range false false false f g h = tt

digits_under : (n v : ℕ) (xs : List ℕ) → Under ((v + 1) * 16 ^ n) (digits n v xs)
unfolding digits
digits_under zero v xs = omega arith
digits_under (suc n) v [] = tt
digits_under (suc n) v (x ∷ xs) = first_under (hex_digit x) (digit_under x) (digits_under n)
  where
    first_under : (o : Option ℕ) → DigitUnder o → ((w : ℕ) (ys : List ℕ) → Under ((w + 1) * 16 ^ n) (digits n w ys))
        → Under ((v + 1) * 16 ^ (suc n)) (after o (λ d. digits n (v * 16 + d) xs))
    first_under None u h = tt
    first_under (Some d) u h =
        let l : (v * 16 + d + 1) * 16 ^ n ≤ (v + 1) * 16 * 16 ^ n = mul-le-mul_right (16 ^ n) (omega arith) in
        let e : (v + 1) * 16 * 16 ^ n ≡ (v + 1) * 16 ^ (suc n) = mul_assoc (v + 1) 16 (16 ^ n) ∙ ap (λ (p : ℕ). (v + 1) * p) (sym (pow-succ' 16 n)) in
        under_larger (digits n (v * 16 + d) xs) (subst (λ (p : ℕ). (v * 16 + d + 1) * 16 ^ n ≤ p) e l) (h (v * 16 + d) xs)

pub word_under : (xs : List ℕ) → Under 4294967296 (word xs)
unfolding word
word_under xs = digits_under 8 0 xs

-- ---- a number

decimal_from_under : (any : Bool) (v : ℕ) (xs : List ℕ) → v ≤ largest_number → Under 4294967296 (decimal_from any v xs)
unfolding decimal_from
decimal_from_under true v [] h = omega arith
decimal_from_under false v [] h = tt
decimal_from_under any v (x ∷ xs) h =
    by_digit any (within 48 57 x) (leb (v * 10 + (x - 48)) largest_number) (leb-true (v * 10 + (x - 48)) largest_number) (decimal_from_under true (v * 10 + (x - 48)) xs)
  where
    by_digit : (any d s : Bool) → (s ≡ true → v * 10 + (x - 48) ≤ largest_number)
        → (v * 10 + (x - 48) ≤ largest_number → Under 4294967296 (decimal_from true (v * 10 + (x - 48)) xs))
        → Under 4294967296 (cond d (cond s (decimal_from true (v * 10 + (x - 48)) xs) None) (cond any (Some (record { value = v; rest = x ∷ xs })) None))
    by_digit any true true l u = u (l refl)
    by_digit any true false l u = tt
    by_digit true false s l u = omega arith
    by_digit false false s l u = tt

pub decimal_under : (xs : List ℕ) → Under 4294967296 (decimal xs)
unfolding decimal
decimal_under xs = decimal_from_under false 0 xs (omega arith)
