-- Lines and what they read to: one of each record, what may differ, and what is unreadable. Assumes nothing.
use Rattle.std.specs.Prelude.{◌≡◌, refl, ℕ, Bool, true, false, List, [], ◌∷◌, ◌++◌, map, take, Option, None, Some}
use Rattle.text.specs.Text.{Taken, expect, hex_digit, digits, word, decimal_from, decimal}
use Rattle.trace_rules.specs.Fields.{kind_fits, read_kind, read_kinds, zeros_for, dash_read, end_read, read_item, read_items, shape, Line, read_line}

-- ---- fields: a tab and 0, 1, a dash, the bits of 0.0 and of 1.0

abbrev n0 : List ℕ
n0 = 9 ∷ 48 ∷ []

abbrev n1 : List ℕ
n1 = 9 ∷ 49 ∷ []

abbrev d : List ℕ
d = 9 ∷ 45 ∷ []

abbrev f0 : List ℕ
f0 = 9 ∷ 48 ∷ 48 ∷ 48 ∷ 48 ∷ 48 ∷ 48 ∷ 48 ∷ 48 ∷ []

abbrev f1 : List ℕ
f1 = 9 ∷ 51 ∷ 70 ∷ 56 ∷ 48 ∷ 48 ∷ 48 ∷ 48 ∷ 48 ∷ []

abbrev vector : List ℕ
vector = f0 ++ f1 ++ f0

-- a tab and 4294967295, 4294967296
abbrev largest : List ℕ
largest = 9 ∷ 52 ∷ 50 ∷ 57 ∷ 52 ∷ 57 ∷ 54 ∷ 55 ∷ 50 ∷ 57 ∷ 53 ∷ []

abbrev too_large : List ℕ
too_large = 9 ∷ 52 ∷ 50 ∷ 57 ∷ 52 ∷ 57 ∷ 54 ∷ 55 ∷ 50 ∷ 57 ∷ 54 ∷ []

-- a line feed
abbrev feed : List ℕ
feed = 10 ∷ []

-- a line that was read to its end
abbrev whole : ℕ → List ℕ → Bool → Option (Taken Line)
whole letter words fits = Some (record { value = record { letter = letter; words = words; fits = fits }; rest = [] })

-- ---- one of each record

-- bodies 1 and none
pub addition_line : read_line (65 ∷ n0 ++ n1 ++ n1 ++ d ++ n1 ++ n0 ++ f1 ++ feed) ≡ whole 65 (0 ∷ 1 ∷ 1 ∷ 1 ∷ 0 ∷ 0 ∷ 1 ∷ 0 ∷ 0x3f80_0000 ∷ []) true
unfolding expect hex_digit digits word decimal_from decimal kind_fits read_kind read_kinds zeros_for dash_read read_item read_items shape read_line
addition_line = refl

-- T up to its last rule, and up to its setting
abbrev settings : List ℕ
settings = 84 ∷ f0 ++ f1 ++ vector ++ n1 ++ f1 ++ n1 ++ f0

abbrev fixed : List ℕ
fixed = settings ++ n1

abbrev settings_with : ℕ → Option (Taken Line)
settings_with matching = whole 84 (0 ∷ 0x3f80_0000 ∷ 0 ∷ 0x3f80_0000 ∷ 0 ∷ 1 ∷ 0x3f80_0000 ∷ 1 ∷ 0 ∷ 1 ∷ 1 ∷ matching ∷ []) true

-- missing, a dash, 0, 000: the setting is 0
unfoldable pub by_number_lem : List (List ℕ)
by_number_lem = (fixed ++ feed) ∷ (fixed ++ d ++ feed) ∷ (fixed ++ n0 ++ feed) ∷ (fixed ++ (9 ∷ 48 ∷ 48 ∷ 48 ∷ []) ++ feed) ∷ []

pub by_number_lines : map read_line by_number_lem ≡ map (λ xs. settings_with 0) by_number_lem
unfolding by_number_lem expect hex_digit digits word decimal_from decimal kind_fits read_kind read_kinds zeros_for dash_read end_read read_item read_items shape read_line
by_number_lines = refl

-- 1, 001
unfoldable pub by_place_lem : List (List ℕ)
by_place_lem = (fixed ++ n1 ++ feed) ∷ (fixed ++ (9 ∷ 48 ∷ 48 ∷ 49 ∷ []) ++ feed) ∷ []

pub by_place_lines : map read_line by_place_lem ≡ map (λ xs. settings_with 1) by_place_lem
unfolding by_place_lem expect hex_digit digits word decimal_from decimal kind_fits read_kind read_kinds zeros_for dash_read end_read read_item read_items shape read_line
by_place_lines = refl

-- a friction with its rule, no restitution, a margin
pub collider_line : read_line (67 ∷ n1 ++ n0 ++ vector ++ vector ++ vector ++ n1 ++ largest ++ f1 ++ n1 ++ d ++ f0 ++ n0 ++ feed)
    ≡ whole 67 (1 ∷ 1 ∷ 0 ∷ 0 ∷ 0x3f80_0000 ∷ 0 ∷ 0 ∷ 0x3f80_0000 ∷ 0 ∷ 0 ∷ 0x3f80_0000 ∷ 0 ∷ 1 ∷ 4294967295 ∷ 1 ∷ 0x3f80_0000 ∷ 1 ∷ 0 ∷ 0 ∷ 0 ∷ 1 ∷ 0 ∷ 0 ∷ []) true
unfolding expect hex_digit digits word decimal_from decimal kind_fits read_kind read_kinds zeros_for dash_read read_item read_items shape read_line
collider_line = refl

-- no friction, no margin, a speculative maximum
pub body_line : read_line (66 ∷ n1 ++ n0 ++ vector ++ vector ++ f1 ++ vector ++ vector ++ vector ++ d ++ d ++ f1 ++ f0 ++ feed)
    ≡ whole 66
    (1 ∷ 0 ∷ 0 ∷ 0x3f80_0000 ∷ 0 ∷ 0 ∷ 0x3f80_0000 ∷ 0 ∷ 0x3f80_0000 ∷ 0 ∷ 0x3f80_0000 ∷ 0 ∷ 0 ∷ 0x3f80_0000 ∷ 0 ∷ 0 ∷ 0x3f80_0000 ∷ 0 ∷ 0 ∷ 0 ∷ 0 ∷ 0 ∷ 0 ∷ 1 ∷ 0x3f80_0000 ∷ 0 ∷ []) true
unfolding expect hex_digit digits word decimal_from decimal kind_fits read_kind read_kinds zeros_for dash_read read_item read_items shape read_line
body_line = refl

-- 007 is 7
pub hook_line : read_line (72 ∷ (9 ∷ 48 ∷ 48 ∷ 55 ∷ []) ++ n1 ++ n0 ++ feed) ≡ whole 72 (7 ∷ 1 ∷ 0 ∷ []) true
unfolding expect hex_digit digits word decimal_from decimal kind_fits read_kind read_kinds zeros_for dash_read read_item read_items shape read_line
hook_line = refl

-- 3f800000 is 3F800000
pub manifold_line : read_line (77 ∷ n1 ++ n0 ++ f0 ++ (9 ∷ 51 ∷ 102 ∷ 56 ∷ 48 ∷ 48 ∷ 48 ∷ 48 ∷ 48 ∷ []) ++ f0 ++ feed) ≡ whole 77 (1 ∷ 0 ∷ 0 ∷ 0x3f80_0000 ∷ 0 ∷ []) true
unfolding expect hex_digit digits word decimal_from decimal kind_fits read_kind read_kinds zeros_for dash_read read_item read_items shape read_line
manifold_line = refl

pub point_line_lem : read_line (80 ∷ vector ++ vector ++ vector ++ f1 ++ n0 ++ largest ++ feed)
    ≡ whole 80 (0 ∷ 0x3f80_0000 ∷ 0 ∷ 0 ∷ 0x3f80_0000 ∷ 0 ∷ 0 ∷ 0x3f80_0000 ∷ 0 ∷ 0x3f80_0000 ∷ 0 ∷ 4294967295 ∷ []) true
unfolding expect hex_digit digits word decimal_from decimal kind_fits read_kind read_kinds zeros_for dash_read read_item read_items shape read_line
point_line_lem = refl

-- what stands after the line is left
pub go_line : read_line (71 ∷ 10 ∷ 71 ∷ 10 ∷ []) ≡ Some (record { value = record { letter = 71; words = []; fits = true }; rest = 71 ∷ 10 ∷ [] })
unfolding expect hex_digit digits word decimal_from decimal kind_fits read_kind read_kinds zeros_for dash_read read_item read_items shape read_line
go_line = refl

-- ---- a number outside its range is readable

-- a collider that is 256; a rule that is 0, or 6; the largest number as a mark; a setting that is 2, 007, the largest number
unfoldable pub outside : List (List ℕ)
outside =
    (72 ∷ (9 ∷ 50 ∷ 53 ∷ 54 ∷ []) ++ n1 ++ n0 ++ feed) ∷ (settings ++ n0 ++ feed) ∷ (settings ++ 9 ∷ 54 ∷ feed) ∷ (72 ∷ n0 ++ n1 ++ largest ++ feed)
    ∷ (fixed ++ 9 ∷ 50 ∷ feed) ∷ (fixed ++ 9 ∷ 48 ∷ 48 ∷ 55 ∷ feed) ∷ (fixed ++ largest ++ feed) ∷ []

abbrev fits_of : Option (Taken Line) → Option Bool
fits_of None = None
fits_of (Some t) = Some t.value.fits

pub outside_lines : map (λ xs. fits_of (read_line xs)) outside ≡ map (λ xs. Some false) outside
unfolding outside expect hex_digit digits word decimal_from decimal kind_fits read_kind read_kinds zeros_for dash_read end_read read_item read_items shape read_line
outside_lines = refl

-- ---- what is unreadable

-- nothing; an empty line; no line feed; a carriage return before it; a space before it; another letter; a tab after the last field; two tabs;
-- a field too few, and one too many; 4294967296, and with zeros in front; a sign; a dash for a collider, for a mark, for a float; no digit;
-- seven hexadecimal digits, nine, and a letter past F; a dash each for a friction and its rule; a rule missing; T with nine fields, and with twelve;
-- T with a tab after its tenth field, after its setting, after a dash for it; two dashes; 4294967296 for the setting; a digit behind the dash; no line feed
-- where the setting is missing, and behind a dash
unfoldable pub unreadable : List (List ℕ)
unreadable =
    [] ∷ feed ∷ (72 ∷ n0 ++ n1 ++ n0) ∷ (72 ∷ n0 ++ n1 ++ n0 ++ 13 ∷ feed) ∷ (72 ∷ n0 ++ n1 ++ n0 ++ 32 ∷ feed) ∷ (104 ∷ n0 ++ n1 ++ n0 ++ feed)
    ∷ (72 ∷ n0 ++ n1 ++ n0 ++ 9 ∷ feed) ∷ (72 ∷ n0 ++ 9 ∷ n1 ++ n0 ++ feed) ∷ (72 ∷ n0 ++ n1 ++ feed) ∷ (72 ∷ n0 ++ n1 ++ n0 ++ n0 ++ feed)
    ∷ (72 ∷ too_large ++ n1 ++ n0 ++ feed) ∷ (72 ∷ (9 ∷ 48 ∷ 48 ∷ 48 ∷ 48 ∷ 48 ∷ 48 ∷ 48 ∷ 48 ∷ 48 ∷ 52 ∷ 50 ∷ 57 ∷ 52 ∷ 57 ∷ 54 ∷ 55 ∷ 50 ∷ 57 ∷ 54 ∷ []) ++ n1 ++ n0 ++ feed)
    ∷ (72 ∷ (9 ∷ 45 ∷ 51 ∷ []) ++ n1 ++ n0 ++ feed) ∷ (72 ∷ d ++ n1 ++ n0 ++ feed) ∷ (72 ∷ n0 ++ n1 ++ d ++ feed) ∷ (77 ∷ n0 ++ n1 ++ f0 ++ f0 ++ d ++ feed)
    ∷ (72 ∷ 9 ∷ n1 ++ n0 ++ feed) ∷ (77 ∷ n0 ++ n1 ++ f0 ++ f0 ++ take 8 f0 ++ feed) ∷ (77 ∷ n0 ++ n1 ++ f0 ++ f0 ++ f0 ++ 48 ∷ feed)
    ∷ (77 ∷ n0 ++ n1 ++ f0 ++ f0 ++ take 8 f0 ++ 71 ∷ feed) ∷ (67 ∷ n1 ++ n0 ++ vector ++ vector ++ vector ++ n1 ++ n1 ++ d ++ d ++ d ++ f0 ++ n0 ++ feed)
    ∷ (67 ∷ n1 ++ n0 ++ vector ++ vector ++ vector ++ n1 ++ n1 ++ f0 ++ d ++ f0 ++ n0 ++ feed) ∷ (settings ++ feed) ∷ (fixed ++ n0 ++ n0 ++ feed)
    ∷ (fixed ++ 9 ∷ feed) ∷ (fixed ++ n0 ++ 9 ∷ feed) ∷ (fixed ++ d ++ 9 ∷ feed) ∷ (fixed ++ d ++ d ++ feed) ∷ (fixed ++ too_large ++ feed)
    ∷ (fixed ++ d ++ 49 ∷ feed) ∷ fixed ∷ (fixed ++ d) ∷ []

pub unreadable_lines : map read_line unreadable ≡ map (λ xs. None) unreadable
unfolding unreadable expect hex_digit digits word decimal_from decimal kind_fits read_kind read_kinds zeros_for dash_read end_read read_item read_items shape read_line
unreadable_lines = refl
