-- Digits and lines written one byte after another. Assumes nothing.
use Rattle.std.specs.Prelude.{◌≡◌, refl, ℕ, zero, suc, ◌+◌, ◌-◌, ◌/◌, ◌%◌, ◌≤◌, ◌<◌, Bool, true, false, cond, List, [], ◌∷◌, ◌++◌, ltb, length, take, drop, set}
use Rattle.std.proofs.Common.{sym, ap, ap₂, ◌∙◌, not-suc-le-zero, le_of_suc-le-suc, arith, ltb-true, ltb-false, append-nil, length-drop, take_all, drop_of_length-le}
use borrow.Author.Tests.{lt-ltb, le-ltb}
use borrow.Rule.Slice.PartMut.{mid_of, put_mid}
use Rattle.std.proofs.Common.{length-set, length-append}
use Rattle.std.proofs.Math.Numerals.{unary_clauses}
use Rattle.rows.specs.Rows.{put}
use Rattle.rows.specs.Laws.{length_put, put_next_one}
use Rattle.prune_listing.specs.Lines.{decimal, number_line}
use Rattle.text.specs.Text.{digits_before, decimal_text, Written}
use Rattle.text.specs.WrittenLaws.{written_then}

-- three digits at most
pub decimal_short : (n : ℕ) → length (decimal n) ≤ 3
unfolding decimal
decimal_short n = short (ltb n 10) (ltb n 100)
  where
    short : (s t : Bool) → length (cond s ((48 + n) ∷ []) (cond t ((48 + n / 10) ∷ (48 + n % 10) ∷ []) ((48 + n / 100) ∷ (48 + n / 10 % 10) ∷ (48 + n % 10) ∷ []))) ≤ 3
    short true t = omega arith
    short false true = omega arith
    short false false = omega arith

-- the digits are those of any number, as long as there are three at most
pub decimal_same : (n : ℕ) → n < 1000 → decimal n ≡ decimal_text n
unfolding decimal decimal_text digits_before
decimal_same n h = sized (ltb n 10) (ltb n 100) refl refl
  where
    sized : (s t : Bool) → ltb n 10 ≡ s → ltb n 100 ≡ t → decimal n ≡ decimal_text n
    sized true t p q = rw p
    sized false true p q =
        let two : ltb (n / 10) 10 ≡ true = lt-ltb (n / 10) 10 (omega (arith, ltb-true n 100 q)) in
        rw (p, q, two)
    sized false false p q =
        let two : ltb (n / 10) 10 ≡ false = le-ltb (n / 10) 10 (omega (arith, ltb-false n 100 q)) in
        let three : ltb (n / 10 / 10) 10 ≡ true = lt-ltb (n / 10 / 10) 10 (omega arith) in
        let e : n / 10 / 10 ≡ n / 100 = omega arith in
        rw (p, q, two, three, e)

-- what is written into the rest of a row from a place on
put_cons : (x : ℕ) (xs : List ℕ) (i : ℕ) (vs : List ℕ) → put (x ∷ xs) (suc i) vs ≡ x ∷ put xs i vs
unfolding put
put_cons x xs i [] = refl
put_cons x xs i (v ∷ vs) = put_cons x (set xs i v) (suc i) vs

spliced : (xs : List ℕ) (at : ℕ) (vs : List ℕ) → at ≤ length xs → take at xs ++ put (drop at xs) 0 vs ≡ put xs at vs
spliced xs zero vs h = refl
spliced [] (suc at) vs h = absurd (not-suc-le-zero h)
spliced (x ∷ xs) (suc at) vs h = ap (λ (r : List ℕ). x ∷ r) (spliced xs at vs (le_of_suc-le-suc h)) ∙ sym (put_cons x xs at vs)

pub rest_written : (out : List ℕ) (at : ℕ) (bytes : List ℕ) {rest : List ℕ} {r : ℕ} → at ≤ length out
    → Written (mid_of at (length out - at) out) 0 bytes rest r → Written out at bytes (put_mid at (length out - at) out rest) (at + r)
rest_written out at bytes {rest} {r} h w =
    let n : length out - at ≡ length (drop at out) = omega (arith, length-drop at out) in
    let whole : mid_of at (length out - at) out ≡ drop at out = take_all (length out - at) (drop at out) (omega (arith, n)) in
    let none : drop (length out - at) (drop at out) ≡ [] = drop_of_length-le (drop at out) (omega (arith, n)) in
    record {
      count = omega (arith, w.count);
      stored =
          ap₂ (λ (a b : List ℕ). take at out ++ (a ++ b)) (w.stored ∙ ap (λ (l : List ℕ). put l 0 bytes) whole) none
          ∙ ap (λ (l : List ℕ). take at out ++ l) (append-nil (put (drop at out) 0 bytes)) ∙ spliced out at bytes h;
    }

-- a letter, a tab, the digits, a line feed
pub line_written : (letter n : ℕ) {before lettered numbered ended : List ℕ} {at p q r : ℕ} → n < 1000
    → Written before at (letter ∷ 9 ∷ []) lettered p → Written lettered p (decimal_text n) numbered q → Written numbered q (10 ∷ []) ended r → Written before at (number_line letter n) ended r
line_written letter n h u v w =
    rw (decimal_same n h) (written_then (letter ∷ 9 ∷ []) (decimal_text n ++ 10 ∷ []) u (written_then (decimal_text n) (10 ∷ []) v w))

-- ---- the digits stored one by one
module _ (out : List ℕ) (at n : ℕ) where
  pub one_digit : {a : ℕ} → n < 10 → a ≡ 48 + n → Written out at (decimal n) (set out at a) (at + 1)
  unfolding decimal put
  one_digit h p = rw (lt-ltb n 10 h) (record { count = refl; stored = ap (set out at) p })

  pub two_digits : {a b : ℕ} → 10 ≤ n → n < 100 → a ≡ 48 + n / 10 → b ≡ 48 + n % 10 → Written out at (decimal n) (set (set out at a) (at + 1) b) (at + 2)
  unfolding decimal put
  two_digits h l p q = rw (le-ltb n 10 h, lt-ltb n 100 l) (record { count = refl; stored = rw (p, q) (simp unary_clauses) })

  pub three_digits : {a b c : ℕ} → 100 ≤ n → a ≡ 48 + n / 100 → b ≡ 48 + n / 10 % 10 → c ≡ 48 + n % 10
      → Written out at (decimal n) (set (set (set out at a) (at + 1) b) (at + 2) c) (at + 3)
  unfolding decimal put
  three_digits h p q r = rw (le-ltb n 10 (omega arith), le-ltb n 100 h) (record { count = refl; stored = rw (p, q, r) (simp unary_clauses) })

-- after a letter, a tab and the digits there is room for a line feed
pub line_room : (out : List ℕ) (at letter n : ℕ) {out' : List ℕ} {r : ℕ} → at + 6 ≤ length out → Written (set (set out at letter) (at + 1) 9) (at + 2) (decimal n) out' r
    → (length out' ≡ length out) × (r < length out')
line_room out at letter n {out'} {r} h w =
    let l : length out' ≡ length out =
    ap length w.stored ∙ length_put (set (set out at letter) (at + 1) 9) (at + 2) (decimal n) ∙ length-set (set out at letter) (at + 1) 9 ∙ length-set out at letter in
    (l, omega (arith, w.count, decimal_short n))

-- a letter, a tab, the digits, a line feed, each stored in the row
pub line_stored : (out : List ℕ) (at letter n : ℕ) {out' : List ℕ} {r : ℕ} → Written (set (set out at letter) (at + 1) 9) (at + 2) (decimal n) out' r
    → Written out at (number_line letter n) (set out' r 10) (r + 1)
unfolding put
line_stored out at letter n {out'} {r} w =
    let one : at + 1 ≡ suc at = omega arith in
    let two : at + 2 ≡ suc (suc at) = omega arith in
    let base = set (set out at letter) (at + 1) 9 in
    record {
      count = omega (arith, w.count, length-append (decimal n) (10 ∷ []));
      stored =
          ap₂ (λ (xs : List ℕ) (k : ℕ). set xs k 10) w.stored w.count ∙ put_next_one base (at + 2) (decimal n) 10 (length (decimal n)) refl
          ∙ ap₂ (λ (i j : ℕ). put (set (set out at letter) i 9) j (decimal n ++ 10 ∷ [])) one two;
    }
