-- A number's digits, spelled from the last to the first into a row of ten. Assumes nothing.
use Rattle.std.specs.Prelude.{◌≡◌, refl, ℕ, zero, suc, ◌+◌, ◌-◌, ◌*◌, ◌/◌, ◌%◌, ◌^◌, ◌≤◌, ◌<◌, Bool, true, false, cond, List, [], ◌∷◌, ltb, length, drop, take, set}
use Rattle.std.proofs.Common.{sym, ap, subst, ◌∙◌, pow-suc, arith, lt-ltb, le-ltb, length-set, length-drop, drop_of_length-le, drop-cons, get_or-set_same, drop-set-lt, take_all}
use Rattle.text.specs.Text.{digits_before, decimal_text, Written}
use Rattle.text.specs.Spelled.{Spelled}

-- the digits that are spelled stand behind place i, and rest is what is left of the number
pub record Spelling (n : ℕ) (row : List ℕ) (i rest : ℕ) : Type 0 where
  pub inside : i ≤ 9
  pub small : rest < 10 ^ suc i
  pub size : length row ≡ 10
  pub digits : digits_before i rest (drop (suc i) row) ≡ decimal_text n

pub spell_first : (n : ℕ) (row : List ℕ) → n < 2 ^ 32 → length row ≡ 10 → Spelling n row 9 n
unfolding decimal_text
spell_first n row h l =
    record { inside = omega arith; small = omega (arith, h); size = l; digits = ap (digits_before 9 n) (drop_of_length-le row {i = 10} (omega (arith, l))) }

pub spell_room : (n : ℕ) (row : List ℕ) (i rest : ℕ) → Spelling n row i rest → 9 < rest → 0 < i
spell_room n row zero rest s h = absurd (omega (arith, s.small, h))
spell_room n row (suc i) rest s h = omega arith

-- the digit at its place, before those behind it
digit_there : (row : List ℕ) (i d : ℕ) → i < length row → drop i (set row i d) ≡ d ∷ drop (suc i) row
digit_there row i d h =
    let l : i < length (set row i d) = subst_length in
    drop-cons (set row i d) i 0 l ∙ rw (get_or-set_same row i d 0 h, drop-set-lt (suc i) row i d (omega arith))
  where
    subst_length : i < length (set row i d)
    subst_length = omega (arith, h, length-set row i d)

next_digits : (i rest : ℕ) (tail : List ℕ) → 9 < rest → digits_before (suc i) rest tail ≡ digits_before i (rest / 10) ((48 + rest % 10) ∷ tail)
unfolding digits_before
next_digits i rest tail h = rw (le-ltb rest 10 (omega (arith, h)))

last_digit : (i rest : ℕ) (tail : List ℕ) → rest ≤ 9 → digits_before i rest tail ≡ (48 + rest) ∷ tail
unfolding digits_before
last_digit zero rest tail h = refl
last_digit (suc i) rest tail h = rw (lt-ltb rest 10 (omega (arith, h)))

pub spell_next : (n : ℕ) (row : List ℕ) (i rest : ℕ) → Spelling n row i rest → 9 < rest → Spelling n (set row i (48 + rest % 10)) (i - 1) (rest / 10)
spell_next n row zero rest s h = absurd (omega (arith, s.small, h))
spell_next n row (suc i) rest s h =
    let p : 10 ^ suc (suc i) ≡ 10 ^ suc i * 10 = pow-suc 10 (suc i) in
    let e : suc i - 1 ≡ i = omega arith in
    let b : suc i < length row = omega (arith, s.inside, s.size) in
    let q : rest / 10 < 10 ^ suc i = omega (arith, s.small, p) in
    let d : digits_before i (rest / 10) (drop (suc i) (set row (suc i) (48 + rest % 10))) ≡ decimal_text n = ap (digits_before i (rest / 10)) (digit_there row (suc i) (48 + rest % 10) b) ∙ sym (next_digits i rest (drop (suc (suc i)) row) h) ∙ s.digits in
    record {
      inside = omega (arith, s.inside);
      small = rw e q;
      size = length-set row (suc i) (48 + rest % 10) ∙ s.size;
      digits = rw e d;
    }

pub spell_last : (n : ℕ) (row : List ℕ) (i rest : ℕ) → Spelling n row i rest → rest ≤ 9 → Spelled n (set row i (48 + rest)) i
spell_last n row i rest s h =
    let b : i < length row = omega (arith, s.inside, s.size) in
    record { inside = s.inside; size = length-set row i (48 + rest) ∙ s.size; digits = digit_there row i (48 + rest) b ∙ sym (last_digit i rest (drop (suc i) row) h) ∙ s.digits }

-- the digits, as a part of the row, are the number's text
pub spelled_written : {n first at r : ℕ} {row out out' : List ℕ} → Spelled n row first → Written out at (take (10 - first) (drop first row)) out' r → Written out at (decimal_text n) out' r
spelled_written {n} {first} {at} {r} {row} {out} {out'} s w =
    let l : length (drop first row) ≤ 10 - first = omega (arith, length-drop first row, s.size) in
    subst (λ (ds : List ℕ). Written out at ds out' r) (take_all (10 - first) (drop first row) l ∙ s.digits) w

-- ten digits are enough
length_digits : (f n : ℕ) (tail : List ℕ) → length (digits_before f n tail) ≤ suc f + length tail
unfolding digits_before
length_digits zero n tail = omega arith
length_digits (suc f) n tail = picked (ltb n 10) (length_digits f (n / 10) ((48 + n % 10) ∷ tail))
  where
    picked : (t : Bool) → length (digits_before f (n / 10) ((48 + n % 10) ∷ tail)) ≤ suc f + length ((48 + n % 10) ∷ tail)
        → length (cond t ((48 + n) ∷ tail) (digits_before f (n / 10) ((48 + n % 10) ∷ tail))) ≤ suc (suc f) + length tail
    picked true h = omega arith
    picked false h = omega (arith, h)

pub length_decimal : (n : ℕ) → length (decimal_text n) ≤ 10
unfolding decimal_text
length_decimal n = length_digits 9 n []
