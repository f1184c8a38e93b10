-- Fields and line ends at a place of a text. Assumes nothing.
use Rattle.std.specs.Prelude.{◌≡◌, refl, ℕ, suc, ◌+◌, ◌≤◌, ◌<◌, Bool, true, false, cond, eqb, List, length, get_or, drop, Option, None, Some}
use Rattle.std.proofs.Common.{ap, ◌∙◌, add-one, arith, drop_of_length-le, drop-cons}
use Rattle.text.specs.Text.{word}
use Rattle.text.specs.Answers.{Stands, ByteRead, taken_word, WordRead}
use Rattle.text.specs.TextLaws.{expect_same, expect_read, expect_not}
use Rattle.prune_listing.specs.Listing.{field, line_end}
use Rattle.prune_listing.specs.Answers.{taken_end}

-- ---- a field

pub no_field : (xs : List ℕ) (at : ℕ) → (Stands xs at 9 → ⊥) → field (drop at xs) ≡ None
unfolding field
no_field xs at h = expect_not 9 word xs at h

pub field_end : (xs : List ℕ) (at : ℕ) → length xs ≤ at → field (drop at xs) ≡ None
field_end xs at h = no_field xs at (λ s. let l = s.0 in omega arith)

pub field_other : (xs : List ℕ) (at : ℕ) → at < length xs → (get_or xs at 0 ≡ 9 → ⊥) → field (drop at xs) ≡ None
field_other xs at h e = no_field xs at (λ s. e s.1)

pub field_tab : (xs : List ℕ) (at : ℕ) (r : Option ℕ) → at < length xs → get_or xs at 0 ≡ 9 → word (drop (at + 1) xs) ≡ taken_word r (drop (at + 1 + 8) xs)
    → field (drop at xs) ≡ taken_word r (drop (at + 9) xs)
unfolding field
field_tab xs at r h e w =
    let f : at + 1 + 8 ≡ at + 9 = omega arith in
    expect_same 9 word xs at h e ∙ w ∙ ap (λ (n : ℕ). taken_word r (drop n xs)) f

-- as the reader's contracts say it
pub field_read : (xs : List ℕ) (at start : ℕ) (r : Option ℕ) → ByteRead xs at 9 (Some start) → WordRead xs start r
    → field (drop at xs) ≡ taken_word r (drop (at + 9) xs)
unfolding field
field_read xs at start r s w =
    let f : start + 8 ≡ at + 9 = omega (arith, s.1) in
    expect_read 9 word xs at start s ∙ w.read ∙ ap (λ (n : ℕ). taken_word r (drop n xs)) f

-- ---- the end of a line

pub line_end_past : (xs : List ℕ) (at : ℕ) → length xs ≤ at → line_end (drop at xs) ≡ Some (drop (at + 1) xs)
unfolding line_end
line_end_past xs at h =
    let l : length xs ≤ at + 1 = omega arith in
    rw (drop_of_length-le xs h, drop_of_length-le xs l)

pub line_end_at : (xs : List ℕ) (at : ℕ) → at < length xs → line_end (drop at xs) ≡ taken_end (eqb (get_or xs at 0) 10) (drop (at + 1) xs)
unfolding line_end
line_end_at xs at h = rw (drop-cons xs at 0 h, add-one) (picked (eqb (get_or xs at 0) 10) (drop (suc at) xs))
  where
    picked : (t : Bool) (ys : List ℕ) → cond t (Some ys) None ≡ taken_end t ys
    picked true ys = refl
    picked false ys = refl

-- ---- for the search, by function

pub ruleset field_laws = (no_field, field_read)

pub ruleset end_laws = (line_end_past, line_end_at)
