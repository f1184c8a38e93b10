-- A decimal number at a place of a text. Assumes nothing.
use Rattle.std.specs.Prelude.{◌≡◌, refl, ℕ, suc, ◌+◌, ◌-◌, ◌*◌, ◌≤◌, ◌<◌, Bool, true, false, cond, not, List, [], ◌∷◌, leb, eqb, length, get_or, drop, None, Some}
use Rattle.std.proofs.Common.{sym, ap, ap₂, ◌∙◌, add-one, arith, le-leb, eq-eqb, ne_eqb, drop_of_length-le, drop-cons}
use Rattle.std.proofs.lemmas.Bool.{eqb-false}
use Rattle.text.specs.Text.{within, largest_number, decimal_from, decimal}
use Rattle.text.specs.Answers.{ended_at, taken_number, NumberInside, NumberRead}

-- ---- a digit

pub digit_in : (b : ℕ) → 48 ≤ b → b ≤ 57 → within 48 57 b ≡ true
digit_in b h l = rw (le-leb 48 b h, le-leb b 57 l)

-- ---- a number: its digits up to place i are read, and make v

-- the number's bytes so far, if any, lie inside the text
abbrev pub Before : List ℕ → ℕ → ℕ → Type 0
Before xs at i = (i ≡ at → ⊥) → (at < i) × (i ≤ length xs)

pub record NumberTo (xs : List ℕ) (at i v : ℕ) : Type 0 where
  pub begun : at ≤ i
  pub inside : Before xs at i
  pub read : decimal (drop at xs) ≡ decimal_from (not (eqb i at)) v (drop i xs)

pub number_begins : (xs : List ℕ) (at : ℕ) → NumberTo xs at at 0
unfolding decimal
number_begins xs at = record { begun = omega arith; inside = λ f. absurd (f refl); read = ap (λ (b : Bool). decimal_from (not b) 0 (drop at xs)) (sym (eq-eqb at at refl)) }

step_digit : (any : Bool) (v x : ℕ) (xs : List ℕ) → within 48 57 x ≡ true → leb (v * 10 + (x - 48)) largest_number ≡ true → decimal_from any v (x ∷ xs) ≡ decimal_from true (v * 10 + (x - 48)) xs
unfolding decimal_from
step_digit any v x xs w l = rw (w, l)

step_large : (any : Bool) (v x : ℕ) (xs : List ℕ) → within 48 57 x ≡ true → leb (v * 10 + (x - 48)) largest_number ≡ false → decimal_from any v (x ∷ xs) ≡ None
unfolding decimal_from
step_large any v x xs w l = rw (w, l)

step_end : (any : Bool) (v x : ℕ) (xs : List ℕ) → within 48 57 x ≡ false → decimal_from any v (x ∷ xs) ≡ cond any (Some (record { value = v; rest = x ∷ xs })) None
unfolding decimal_from
step_end any v x xs w = rw w

text_end : (any : Bool) (v : ℕ) → decimal_from any v [] ≡ cond any (Some (record { value = v; rest = [] })) None
unfolding decimal_from
text_end any v = refl

pub number_next : (xs : List ℕ) (at i v d n : ℕ) → NumberTo xs at i v → i < length xs → within 48 57 (get_or xs i 0) ≡ true → d ≡ get_or xs i 0 - 48
    → leb (v * 10 + d) largest_number ≡ true → n ≡ v * 10 + d → NumberTo xs at (i + 1) n
number_next xs at i v d n t h w e l q =
    let b : eqb (i + 1) at ≡ false = ne_eqb (i + 1) at (λ f. omega (arith, f, t.begun)) in
    record {
      begun = omega (arith, t.begun);
      inside = λ f. (omega (arith, t.begun), omega (arith, h));
      read =
          t.read ∙ ap (decimal_from (not (eqb i at)) v) (drop-cons xs i 0 h)
          ∙ step_digit (not (eqb i at)) v (get_or xs i 0) (drop (suc i) xs) w (ap (λ (m : ℕ). leb (v * 10 + m) largest_number) (sym e) ∙ l)
          ∙ ap₂ (λ (m k : ℕ). decimal_from true m (drop k xs)) (ap (λ (m : ℕ). v * 10 + m) (sym e) ∙ sym q) (sym (add-one i))
          ∙ ap (λ (c : Bool). decimal_from (not c) n (drop (i + 1) xs)) (sym b);
    }

pub number_large : (xs : List ℕ) (at i v d : ℕ) → NumberTo xs at i v → i < length xs → within 48 57 (get_or xs i 0) ≡ true → d ≡ get_or xs i 0 - 48
    → leb (v * 10 + d) largest_number ≡ false → NumberRead xs at None
number_large xs at i v d t h w e l =
    record {
      read =
          t.read ∙ ap (decimal_from (not (eqb i at)) v) (drop-cons xs i 0 h)
          ∙ step_large (not (eqb i at)) v (get_or xs i 0) (drop (suc i) xs) w (ap (λ (m : ℕ). leb (v * 10 + m) largest_number) (sym e) ∙ l);
      inside = tt;
    }

ended_taken : (b : Bool) (v i : ℕ) (xs : List ℕ) → cond (not b) (Some (record { value = v; rest = drop i xs })) None ≡ taken_number (cond b None (Some (record { value = v; next = i }))) xs
ended_taken true v i xs = refl
ended_taken false v i xs = refl

ended_inside : (xs : List ℕ) (at i v : ℕ) → Before xs at i → NumberInside xs at (ended_at at i v)
ended_inside xs at i v p = within_text (eqb i at) (eqb-false i at)
  where
    within_text : (b : Bool) → (b ≡ false → i ≡ at → ⊥) → NumberInside xs at (cond b None (Some (record { value = v; next = i })))
    within_text true f = tt
    within_text false f = p (f refl)

pub number_stops : (xs : List ℕ) (at i v : ℕ) → NumberTo xs at i v → i < length xs → within 48 57 (get_or xs i 0) ≡ false → NumberRead xs at (ended_at at i v)
number_stops xs at i v t h w =
    record {
      read =
          t.read ∙ ap (decimal_from (not (eqb i at)) v) (drop-cons xs i 0 h) ∙ step_end (not (eqb i at)) v (get_or xs i 0) (drop (suc i) xs) w
          ∙ ap (λ (r : List ℕ). cond (not (eqb i at)) (Some (record { value = v; rest = r })) None) (sym (drop-cons xs i 0 h))
          ∙ ended_taken (eqb i at) v i xs;
      inside = ended_inside xs at i v t.inside;
    }

pub number_at_end : (xs : List ℕ) (at i v : ℕ) → NumberTo xs at i v → length xs ≤ i → NumberRead xs at (ended_at at i v)
number_at_end xs at i v t h =
    record {
      read =
          t.read ∙ ap (decimal_from (not (eqb i at)) v) (drop_of_length-le xs h) ∙ text_end (not (eqb i at)) v
          ∙ ap (λ (r : List ℕ). cond (not (eqb i at)) (Some (record { value = v; rest = r })) None) (sym (drop_of_length-le xs h))
          ∙ ended_taken (eqb i at) v i xs;
      inside = ended_inside xs at i v t.inside;
    }

-- ---- for the search

pub ruleset number_laws = (number_begins, number_next, number_large, number_stops, number_at_end)
