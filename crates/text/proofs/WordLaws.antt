-- Hexadecimal digits and words at a place of a text. Assumes nothing.
use Rattle.std.specs.Prelude.{◌≡◌, refl, ℕ, zero, suc, ◌+◌, ◌-◌, ◌*◌, ◌^◌, ◌≤◌, ◌<◌, Bool, true, false, ◌&&◌, ◌⊎◌, leb, List, [], ◌∷◌, length, get_or, take, drop, Option, None, Some}
use Rattle.std.specs.Char.{digit_value}
use Rattle.std.specs.Option.{SomeIff}
use Rattle.std.proofs.Common.{sym, ap, ap₂, ◌∙◌, pow-suc, not-suc-le-zero, le_of_suc-le-suc, add-zero, add-one, arith, inl, inr, le-leb, length-take, length-drop, drop-cons}
use Rattle.std.proofs.Math.Nat.{pow-le-pow_right}
use Rattle.std.proofs.Math.Numerals.{unary_clauses}
use Rattle.std.proofs.lemmas.Bool.{lt-leb}
use Rattle.std.proofs.lemmas.List.{get_or-take, get_or-drop}
use Rattle.text.specs.Text.{after, within, hex_digit, digits, word}
use Rattle.text.specs.Answers.{HexDigitRead, WordRead}

-- ---- a digit

pub decimal_digit : (b : ℕ) → 48 ≤ b → b ≤ 57 → hex_digit b ≡ Some (b - 48)
unfolding hex_digit
decimal_digit b h l = simp (le-leb 48 b h, le-leb b 57 l)

pub upper_digit : (b : ℕ) → 65 ≤ b → b ≤ 70 → hex_digit b ≡ Some (b - 65 + 10)
unfolding hex_digit
upper_digit b h l = simp (lt-leb b 57 (omega arith), le-leb 48 b (omega arith), le-leb 65 b h, le-leb b 70 l)

pub lower_digit : (b : ℕ) → 97 ≤ b → b ≤ 102 → hex_digit b ≡ Some (b - 97 + 10)
unfolding hex_digit
lower_digit b h l = simp (lt-leb b 57 (omega arith), le-leb 48 b (omega arith), lt-leb b 70 (omega arith), le-leb 65 b (omega arith), le-leb 97 b h, le-leb b 102 l)

-- a letter of either case is the same digit
pub either_case : (b : ℕ) → 65 ≤ b → b ≤ 70 → hex_digit (b + 32) ≡ hex_digit b
either_case b h l =
    let e : b + 32 - 97 + 10 ≡ b - 65 + 10 = omega arith in
    lower_digit (b + 32) (omega arith) (omega arith) ∙ ap Some e ∙ sym (upper_digit b h l)

-- b lies outside low to high
abbrev pub Outside : ℕ → ℕ → ℕ → Type 0
Outside low high b = (b < low) ⊎ (high < b)

pub outside_within : (low high b : ℕ) → Outside low high b → within low high b ≡ false
outside_within low high b (inl h) = rw (lt-leb low b h)
outside_within low high b (inr h) = rw (lt-leb b high h) (and_false (leb low b))
  where
    and_false : (t : Bool) → (t && false) ≡ false
    and_false true = refl
    and_false false = refl

pub no_digit : (b : ℕ) → Outside 48 57 b → Outside 65 70 b → Outside 97 102 b → hex_digit b ≡ None
unfolding hex_digit
no_digit b p q r = simp (outside_within 48 57 b p, outside_within 65 70 b q, outside_within 97 102 b r)

-- std's digits below 16 are the hexadecimal ones
hex_ranges : (b : ℕ) → digit_value b < 16 → ((48 ≤ b) × (b ≤ 57)) ⊎ (((65 ≤ b) × (b ≤ 70)) ⊎ ((97 ≤ b) × (b ≤ 102)))
hex_ranges b h = grind arith

hex_value : (b : ℕ) → ((48 ≤ b) × (b ≤ 57)) ⊎ (((65 ≤ b) × (b ≤ 70)) ⊎ ((97 ≤ b) × (b ≤ 102))) → hex_digit b ≡ Some (digit_value b)
hex_value b (inl h) = decimal_digit b h.0 h.1 ∙ ap Some (grind arith)
hex_value b (inr (inl h)) = upper_digit b h.0 h.1 ∙ ap Some (grind arith)
hex_value b (inr (inr h)) = lower_digit b h.0 h.1 ∙ ap Some (grind arith)

pub hex_digit_read : (b : ℕ) (r : Option ℕ) → SomeIff r (digit_value b < 16) (digit_value b) → HexDigitRead b r
hex_digit_read b None h = record { value = no_digit b (grind arith) (grind arith) (grind arith); small = tt }
hex_digit_read b (Some d) h = record { value = hex_value b (hex_ranges b h.0) ∙ ap Some (sym h.1); small = omega (arith, h.0, h.1) }

-- ---- a word: k digits of it are read, and make v

pub record WordTo (xs : List ℕ) (at k v : ℕ) : Type 0 where
  pub some_left : k ≤ 8
  pub small : v < 16 ^ k
  pub read : word (drop at xs) ≡ digits (8 - k) v (drop (at + k) xs)

pub word_begins : (xs : List ℕ) (at : ℕ) → WordTo xs at 0 0
unfolding word
word_begins xs at = record { some_left = omega arith; small = omega arith; read = ap (λ (n : ℕ). digits 8 0 (drop n xs)) (sym (add-zero at)) }

no_word : (xs : List ℕ) (at : ℕ) → word (drop at xs) ≡ None → WordRead xs at None
no_word xs at e = record { read = e; inside = tt }

-- fewer bytes than digits
too_few : (n v : ℕ) (xs : List ℕ) → length xs < n → digits n v xs ≡ None
unfolding digits
too_few zero v xs h = absurd (not-suc-le-zero h)
too_few (suc n) v [] h = refl
too_few (suc n) v (x ∷ xs) h = by_digit (hex_digit x) (λ w. too_few n w xs (le_of_suc-le-suc h))
  where
    by_digit : (o : Option ℕ) → ((w : ℕ) → digits n w xs ≡ None) → after o (λ d. digits n (v * 16 + d) xs) ≡ None
    by_digit None f = refl
    by_digit (Some d) f = f (v * 16 + d)

pub word_short : (xs : List ℕ) (at : ℕ) → length xs < at + 8 → WordRead xs at None
unfolding word
word_short xs at h = no_word xs at (too_few 8 0 (drop at xs) (omega (arith, length-drop at xs)))

digits_cons : (n v x : ℕ) (xs : List ℕ) → 0 < n → digits n v (x ∷ xs) ≡ after (hex_digit x) (λ d. digits (n - 1) (v * 16 + d) xs)
unfolding digits
digits_cons zero v x xs p = absurd (not-suc-le-zero p)
digits_cons (suc n) v x xs p = simp unary_clauses

-- its eight bytes, as they are borrowed from the text
module _ (xs left eight : List ℕ) (at : ℕ) (l : left ≡ take (length xs - at) (drop at xs)) (enough : 8 ≤ length left) (same : eight ≡ take 8 left) where
  pub eight_inside : at + 8 ≤ length xs
  eight_inside = omega (arith, ap length l, enough, length-take (length xs - at) (drop at xs), length-drop at xs)

  byte_at : (k : ℕ) → k < 8 → get_or eight k 0 ≡ get_or xs (at + k) 0
  byte_at k h =
      let i : k < length xs - at = omega (arith, eight_inside) in
      ap (λ (bs : List ℕ). get_or bs k 0) (same ∙ ap (take 8) l) ∙ get_or-take 8 (take (length xs - at) (drop at xs)) k 0 h
      ∙ get_or-take (length xs - at) (drop at xs) k 0 i ∙ get_or-drop at xs k 0

  module _ (k v : ℕ) (w : WordTo xs at k v) (h : k < 8) where
    word_digit : word (drop at xs) ≡ after (hex_digit (get_or eight k 0)) (λ d. digits (8 - (k + 1)) (v * 16 + d) (drop (at + (k + 1)) xs))
    word_digit =
        let e : 8 - k - 1 ≡ 8 - (k + 1) = omega arith in
        let f : suc (at + k) ≡ at + (k + 1) = omega arith in
        w.read ∙ ap (digits (8 - k) v) (drop-cons xs (at + k) 0 (omega (arith, eight_inside)))
        ∙ digits_cons (8 - k) v (get_or xs (at + k) 0) (drop (suc (at + k)) xs) (omega arith)
        ∙ ap₂ (λ (n m : ℕ). after (hex_digit (get_or xs (at + k) 0)) (λ d. digits n (v * 16 + d) (drop m xs))) e f
        ∙ ap (λ (b : ℕ). after (hex_digit b) (λ d. digits (8 - (k + 1)) (v * 16 + d) (drop (at + (k + 1)) xs))) (sym (byte_at k h))

    pub word_bad : hex_digit (get_or eight k 0) ≡ None → WordRead xs at None
    word_bad e = no_word xs at (word_digit ∙ rw e)

    pub word_next : (d : ℕ) → hex_digit (get_or eight k 0) ≡ Some d → d < 16 → WordTo xs at (k + 1) (v * 16 + d)
    word_next d e s =
        let p : 16 ^ (k + 1) ≡ 16 ^ k * 16 = ap (λ (n : ℕ). 16 ^ n) (add-one k) ∙ pow-suc 16 k in
        record { some_left = omega arith; small = omega (arith, w.small); read = word_digit ∙ rw e }

-- the next digit fits
pub word_fits : (xs : List ℕ) (at k v : ℕ) → WordTo xs at k v → k < 8 → v * 16 + 15 < 2 ^ 32
word_fits xs at k v w h =
    let p : 16 ^ k ≤ 16 ^ 7 = pow-le-pow_right (omega arith) {i = k} {j = 7} (omega arith) in
    omega (arith, w.small)

pub word_whole : (xs : List ℕ) (at k v : ℕ) → WordTo xs at k v → 8 ≤ k → at + 8 ≤ length xs → WordRead xs at (Some v)
unfolding digits
word_whole xs at k v w h i =
    let e : k ≡ 8 = omega (arith, h, w.some_left) in
    record { read = w.read ∙ ap (λ (n : ℕ). digits (8 - n) v (drop (at + n) xs)) e; inside = i }

-- ---- for the search

pub ruleset word_laws = (word_short, word_begins, eight_inside, word_bad, word_next, word_fits, word_whole)
