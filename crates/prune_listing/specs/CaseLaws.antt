-- Texts and what they read to: C1 of the specification, what may differ, and what is unreadable. Assumes nothing.
use Rattle.std.specs.Prelude.{◌≡◌, refl, ℕ, List, [], ◌∷◌, ◌++◌, map, take, drop, None, Some}
use Rattle.rows.specs.Rows.{each}
use Rattle.text.specs.Text.{expect, hex_digit, digits, word}
use Rattle.prune_listing.specs.Listing.{Listing, field, fields, line_end, line, normal_line, point_line, at_end, point_lines, all_points, listing}
use Rattle.prune_listing.specs.Lines.{decimal, kept_line}

-- ---- C1

-- a tab and the bits of 0.0, 1.0, 2.0, -1.0, -2.0
abbrev f0 : List ℕ
f0 = 9 ∷ 48 ∷ 48 ∷ 48 ∷ 48 ∷ 48 ∷ 48 ∷ 48 ∷ 48 ∷ []

abbrev f1 : List ℕ
f1 = 9 ∷ 51 ∷ 70 ∷ 56 ∷ 48 ∷ 48 ∷ 48 ∷ 48 ∷ 48 ∷ []

abbrev f2 : List ℕ
f2 = 9 ∷ 52 ∷ 48 ∷ 48 ∷ 48 ∷ 48 ∷ 48 ∷ 48 ∷ 48 ∷ []

abbrev minus1 : List ℕ
minus1 = 9 ∷ 66 ∷ 70 ∷ 56 ∷ 48 ∷ 48 ∷ 48 ∷ 48 ∷ 48 ∷ []

abbrev minus2 : List ℕ
minus2 = 9 ∷ 67 ∷ 48 ∷ 48 ∷ 48 ∷ 48 ∷ 48 ∷ 48 ∷ 48 ∷ []

-- a line feed
abbrev feed : List ℕ
feed = 10 ∷ []

-- the N line, a P line
abbrev up : List ℕ
up = 78 ∷ f0 ++ f0 ++ f1

abbrev p : List ℕ → List ℕ → List ℕ
p x y = 80 ∷ x ++ y ++ f0 ++ f1

-- its text but for the last line feed
abbrev c1_lines : List ℕ
c1_lines = up ++ feed ++ p f2 f0 ++ feed ++ p minus2 f0 ++ feed ++ p f0 f1 ++ feed ++ p f0 minus1 ++ feed ++ p f1 f0

abbrev pub c1 : List ℕ
c1 = c1_lines ++ feed

abbrev pub c1_listing : Listing
c1_listing =
    record {
      normal = 0 ∷ 0 ∷ 0x3f80_0000 ∷ [];
      points =
          (0x4000_0000 ∷ 0 ∷ 0 ∷ 0x3f80_0000 ∷ []) ∷ (0xc000_0000 ∷ 0 ∷ 0 ∷ 0x3f80_0000 ∷ []) ∷ (0 ∷ 0x3f80_0000 ∷ 0 ∷ 0x3f80_0000 ∷ [])
          ∷ (0 ∷ 0xbf80_0000 ∷ 0 ∷ 0x3f80_0000 ∷ []) ∷ (0x3f80_0000 ∷ 0 ∷ 0 ∷ 0x3f80_0000 ∷ []) ∷ [];
    }

pub c1_reads : listing c1 ≡ Some c1_listing
unfolding expect hex_digit digits word field fields line_end line normal_line point_line at_end point_lines all_points listing
c1_reads = refl

-- ---- what may differ

-- the last line feed may be missing
pub c1_open : listing c1_lines ≡ Some c1_listing
unfolding expect hex_digit digits word field fields line_end line normal_line point_line at_end point_lines all_points listing
c1_open = refl

-- ---- what is unreadable

-- nothing; a line feed alone; a P line first; two N lines; an empty line at the end; a carriage return; a space for a tab; a space at the end
-- of a line; a field too few, and one too many; a word of seven digits, and of nine; a letter past F; another letter in front
abbrev pub unreadable : List (List ℕ)
unreadable =
    [] ∷ feed ∷ p f0 f1 ∷ (up ++ feed ++ up) ∷ (up ++ feed ++ feed) ∷ (up ++ 13 ∷ feed) ∷ (78 ∷ 32 ∷ drop 1 f0 ++ f0 ++ f1) ∷ (up ++ 32 ∷ feed)
    ∷ (78 ∷ f0 ++ f1) ∷ (up ++ f0) ∷ (78 ∷ f0 ++ f0 ++ take 8 f1) ∷ (up ++ 48 ∷ []) ∷ (78 ∷ f0 ++ f0 ++ take 8 f1 ++ 71 ∷ []) ∷ (80 ∷ f0 ++ f0 ++ f1) ∷ []

pub unreadable_texts : map listing unreadable ≡ map (λ text. None) unreadable
unfolding expect hex_digit digits word field fields line_end line normal_line point_line at_end point_lines all_points listing
unreadable_texts = refl

-- the N line alone is a listing of no points
pub no_points : listing up ≡ Some (record { normal = 0 ∷ 0 ∷ 0x3f80_0000 ∷ []; points = [] })
unfolding expect hex_digit digits word field fields line_end line normal_line point_line at_end point_lines all_points listing
no_points = refl

-- ---- lines of the answer

pub c1_lines_written : each kept_line (0 ∷ 3 ∷ 1 ∷ 2 ∷ []) ≡ 75 ∷ 9 ∷ 48 ∷ 10 ∷ 75 ∷ 9 ∷ 51 ∷ 10 ∷ 75 ∷ 9 ∷ 49 ∷ 10 ∷ 75 ∷ 9 ∷ 50 ∷ 10 ∷ []
unfolding decimal
c1_lines_written = refl

pub numbers_written : map decimal (0 ∷ 9 ∷ 10 ∷ 31 ∷ 100 ∷ 255 ∷ []) ≡ (48 ∷ []) ∷ (57 ∷ []) ∷ (49 ∷ 48 ∷ []) ∷ (51 ∷ 49 ∷ []) ∷ (49 ∷ 48 ∷ 48 ∷ []) ∷ (50 ∷ 53 ∷ 53 ∷ []) ∷ []
unfolding decimal
numbers_written = refl
