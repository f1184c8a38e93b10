-- A text's lines in turn: more turns than there are bytes change nothing. Assumes nothing.
use Rattle.std.specs.Prelude.{ℕ, zero, suc, ◌≤◌, ◌<◌, ◌≡◌, refl, true, false, Option, None, Some}
use Rattle.std.proofs.Common.{arith, ap, ◌∙◌}
use mathlib.Core.List.{List, [], ◌∷◌}
use Rattle.std.proofs.Math.ListN.{length}
use Rattle.text.specs.Text.{Taken}
use Rattle.trace_rules.specs.Fields.{Line, read_line}
use Rattle.trace_rules.specs.Reading.{Context, follow, Reading, ends, or_unreadable, begins, at_end, read_lines, reading, beginning}
use Rattle.trace_steps.specs.EndLaws.{line_shorter}

-- what a line that was read leads to, where the lines after it are read so
abbrev turn : (Context → List ℕ → Reading) → Context → Option (Taken Line) → Reading
turn f c o = or_unreadable o (λ t. or_unreadable (follow c t.value) (λ d. begins t.value (f d t.rest)))

turn_same : (f g : Context → List ℕ → Reading) (c : Context) (o : Option (Taken Line)) → ((t : Taken Line) → o ≡ Some t → (d : Context) → f d t.rest ≡ g d t.rest) → turn f c o ≡ turn g c o
turn_same f g c None e = refl
turn_same f g c (Some t) e = go (follow c t.value)
  where
    go : (o : Option Context) → or_unreadable o (λ d. begins t.value (f d t.rest)) ≡ or_unreadable o (λ d. begins t.value (g d t.rest))
    go None = refl
    go (Some d) = ap (begins t.value) (e t refl d)

lines_enough : (n m : ℕ) (c : Context) (xs : List ℕ) → length xs ≤ n → length xs ≤ m → read_lines n c xs ≡ read_lines m c xs
unfolding read_lines at_end
lines_enough zero zero c xs h l = refl
lines_enough zero (suc m) c [] h l = refl
lines_enough zero (suc m) c (x ∷ xs) h l = absurd (omega arith)
lines_enough (suc n) zero c [] h l = refl
lines_enough (suc n) zero c (x ∷ xs) h l = absurd (omega arith)
lines_enough (suc n) (suc m) c [] h l = refl
lines_enough (suc n) (suc m) c (x ∷ xs) h l =
    turn_same (read_lines n) (read_lines m) c (read_line (x ∷ xs))
    (λ t e d. let s : length t.rest < length (x ∷ xs) = line_shorter (x ∷ xs) t e in lines_enough n m d t.rest (omega arith) (omega arith))

-- the lines of a text that begins in a context
abbrev pub reading_from : Context → List ℕ → Reading
reading_from c xs = read_lines (length xs) c xs

pub reading_whole : (xs : List ℕ) → reading xs ≡ reading_from beginning xs
unfolding reading
reading_whole xs = refl

pub reading_end : (c : Context) → reading_from c [] ≡ ends false
unfolding read_lines at_end
reading_end c = refl

-- a line that can't be read, one that can't stand here, and one that can
module _ (c : Context) (xs : List ℕ) (some_left : 0 < length xs) where
  one_turn : reading_from c xs ≡ turn reading_from c (read_line xs)
  unfolding read_lines at_end
  one_turn = go xs some_left
    where
      go : (ys : List ℕ) → 0 < length ys → read_lines (length ys) c ys ≡ turn reading_from c (read_line ys)
      go [] h = absurd (omega arith)
      go (y ∷ ys) h =
          turn_same (read_lines (length ys)) reading_from c (read_line (y ∷ ys))
          (λ t e d. let s : length t.rest < length (y ∷ ys) = line_shorter (y ∷ ys) t e in lines_enough (length ys) (length t.rest) d t.rest (omega arith) (omega arith))

  pub reading_unreadable : read_line xs ≡ None → reading_from c xs ≡ ends true
  reading_unreadable e = one_turn ∙ ap (turn reading_from c) e

  pub reading_misplaced : (t : Taken Line) → read_line xs ≡ Some t → follow c t.value ≡ None → reading_from c xs ≡ ends true
  reading_misplaced t e n = one_turn ∙ ap (turn reading_from c) e ∙ ap (λ (o : Option Context). or_unreadable o (λ d. begins t.value (reading_from d t.rest))) n

  pub reading_next : (t : Taken Line) (d : Context) → read_line xs ≡ Some t → follow c t.value ≡ Some d → reading_from c xs ≡ begins t.value (reading_from d t.rest)
  reading_next t d e n = one_turn ∙ ap (turn reading_from c) e ∙ ap (λ (o : Option Context). or_unreadable o (λ d. begins t.value (reading_from d t.rest))) n
