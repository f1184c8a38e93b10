-- The text that `prunelist` reads: the specification, 'Prune listing'. A text is its bytes. Definitions only.
-- One N line with three words, then P lines with four each. Whatever is not of this form reads to `None`.
use Rattle.std.specs.Prelude.{ℕ, zero, suc, cond, List, [], ◌∷◌, leb, eqb, length, Option, None, Some}
use Rattle.text.specs.Text.{Taken, after, expect, word}

-- a field is a tab and a word
unfoldable pub field : List ℕ → Option (Taken ℕ)
field xs = expect 9 word xs

unfoldable pub fields : ℕ → List ℕ → Option (Taken (List ℕ))
fields zero xs = Some (record { value = []; rest = xs })
fields (suc n) xs = after (field xs) (λ first. after (fields n first.rest) (λ others. Some (record { value = first.value ∷ others.value; rest = others.rest })))

-- a line ends with a line feed or with the text
unfoldable pub line_end : List ℕ → Option (List ℕ)
line_end [] = Some []
line_end (x ∷ xs) = cond (eqb x 10) (Some xs) None

-- a letter, n fields, the end of the line
unfoldable pub line : ℕ → ℕ → List ℕ → Option (Taken (List ℕ))
line letter n xs = after (expect letter (fields n) xs) (λ words. after (line_end words.rest) (λ rest. Some (record { value = words.value; rest = rest })))

-- N and the normal
unfoldable pub normal_line : List ℕ → Option (Taken (List ℕ))
normal_line xs = line 78 3 xs

-- P, anchor 1 and the penetration
unfoldable pub point_line : List ℕ → Option (Taken (List ℕ))
point_line xs = line 80 4 xs

-- a where nothing is left, else b
unfoldable pub at_end : {A : Type 0} → List ℕ → A → A → A
at_end [] a b = a
at_end (x ∷ xs) a b = b

-- point lines until nothing is left. Each takes a byte at least, so that a text's length is enough of them
unfoldable pub point_lines : ℕ → List ℕ → Option (List (List ℕ))
point_lines zero xs = at_end xs (Some []) None
point_lines (suc most) xs = at_end xs (Some []) (after (point_line xs) (λ first. after (point_lines most first.rest) (λ others. Some (first.value ∷ others))))

unfoldable pub all_points : List ℕ → Option (List (List ℕ))
all_points xs = point_lines (length xs) xs

pub record Listing : Type 0 where
  pub normal : List ℕ
  pub points : List (List ℕ)

-- the most bytes of a text that is read
abbrev pub longest : ℕ
longest = 65536

unfoldable pub listing : List ℕ → Option Listing
listing xs =
    cond (leb (length xs) longest)
    (after (normal_line xs) (λ first. after (all_points first.rest) (λ points. Some (record { normal = first.value; points = points }))))
    None
