-- What the code's answers say of a text. Definitions only.
use Rattle.std.specs.Prelude.{◌≡◌, ℕ, ◌+◌, ◌-◌, ◌*◌, Bool, true, false, List, length, take, drop, None, Some, Option}
use Rattle.rows.specs.Rows.{put, each}
use Rattle.text.specs.Text.{Taken}
use Rattle.layout.specs.Prune.{prune_point_size}
use Rattle.rules.specs.Limits.{proposed_points}
use Rattle.prune_listing.specs.Listing.{all_points, Listing, listing}
use Rattle.prune_listing.specs.declared.reader.Header.{Header}

-- ---- `read_listing`: the promise

-- of the points, as many as there is room for
abbrev pub room : ℕ
room = proposed_points

-- the answer of a text that reads to l, or to nothing
abbrev pub reading_of : Option Listing → Option Header
reading_of None = None
reading_of (Some l) = Some (record { normal = l.normal; count = length l.points })

-- the words of the first points, as many as there is room for, from the start of the row; the row as it was where nothing is read
abbrev pub points_of : List ℕ → Option Listing → List ℕ
points_of row None = row
points_of row (Some l) = put row 0 (each (λ words. words) (take room l.points))

pub record ListingRead (text row row' : List ℕ) (r : Option Header) : Type 0 where
  pub answer : r ≡ reading_of (listing text)
  pub stored : row' ≡ points_of row (listing text)

-- ---- its parts

-- the bytes of a line of n fields with its end, of the first line, and of each other
abbrev pub line_bytes : ℕ → ℕ
line_bytes n = 2 + 9 * n

abbrev pub normal_bytes : ℕ
normal_bytes = line_bytes 3

abbrev pub point_bytes : ℕ
point_bytes = line_bytes prune_point_size

-- the points of a whole text, which its first line stands before
abbrev pub points_in : List ℕ → Option (List (List ℕ))
points_in xs = all_points (drop normal_bytes xs)

abbrev pub taken_end : Bool → List ℕ → Option (List ℕ)
taken_end true rest = Some rest
taken_end false rest = None

-- the words of fields, if they were read, with what is left after them
abbrev pub taken_words : Option (List ℕ) → List ℕ → Option (Taken (List ℕ))
taken_words (Some words) rest = Some (record { value = words; rest = rest })
taken_words None rest = None

-- n points and those
abbrev pub count_from : ℕ → Option (List (List ℕ)) → Option ℕ
count_from n None = None
count_from n (Some points) = Some (n + length points)

-- the points stored from point k on, as many as there is room for
abbrev pub stored_from : List ℕ → ℕ → Option (List (List ℕ)) → List ℕ
stored_from row k None = row
stored_from row k (Some points) = put row (prune_point_size * k) (each (λ words. words) (take (room - k) points))
