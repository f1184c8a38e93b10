-- A trace's lines, field by field: docs/TRACES.md, 'Lines'. Definitions only.
-- A line is its letter, its fields in order, each after a tab, and a line feed. Whatever fits no record reads to `None`.
use Rattle.std.specs.Prelude.{ℕ, zero, suc, Bool, true, cond, ◌&&◌, List, [], ◌∷◌, ◌++◌, eqb, ltb, leb, Option, None, Some}
use Rattle.rules.specs.Limits.{colliders, bodies}
use Rattle.text.specs.Text.{Taken, after, expect, tab, line_feed, word, decimal}

-- ---- a field
-- what a field holds: a float's bits, any whole number, or a number with a range
pub data Kind : Type 0 where
  float : Kind
  number : Kind
  collider : Kind
  body : Kind
  mark : Kind
  rule : Kind

-- a number in its range; a number outside it is readable all the same
unfoldable pub kind_fits : Kind → ℕ → Bool
kind_fits float n = true
kind_fits number n = true
kind_fits collider n = ltb n colliders
kind_fits body n = ltb n bodies
kind_fits mark n = ltb n 2
kind_fits rule n = ltb 0 n && leb n 5

unfoldable pub read_kind : Kind → List ℕ → Option (Taken ℕ)
read_kind float xs = expect tab word xs
read_kind number xs = expect tab decimal xs
read_kind collider xs = expect tab decimal xs
read_kind body xs = expect tab decimal xs
read_kind mark xs = expect tab decimal xs
read_kind rule xs = expect tab decimal xs

-- ---- one value of a record: a field; fields that are present together, with a dash where they are absent; a setting, which is a mark, or a dash, or missing
pub data Item : Type 0 where
  plain : Kind → Item
  optional : List Kind → Item
  setting : Item

-- the words that fields read to, and whether every number among them is in its range
pub record Fields : Type 0 where
  pub words : List ℕ
  pub fits : Bool

abbrev pub no_fields : Fields
no_fields = record { words = []; fits = true }

abbrev pub joined : Fields → Fields → Fields
joined a b = record { words = a.words ++ b.words; fits = a.fits && b.fits }

abbrev pub joined_taken : Fields → Taken Fields → Option (Taken Fields)
joined_taken a t = Some (record { value = joined a t.value; rest = t.rest })

abbrev pub one_field : Kind → ℕ → Fields
one_field k v = record { words = v ∷ []; fits = kind_fits k v }

unfoldable pub read_kinds : List Kind → List ℕ → Option (Taken Fields)
read_kinds [] xs = Some (record { value = no_fields; rest = xs })
read_kinds (k ∷ ks) xs = after (read_kind k xs) (λ v. after (read_kinds ks v.rest) (joined_taken (one_field k v.value)))

-- a mark of presence before the words; behind a mark of 0 as many zeros
abbrev pub present : Fields
present = record { words = 1 ∷ []; fits = true }

unfoldable pub zeros_for : List Kind → List ℕ
zeros_for [] = []
zeros_for (k ∷ ks) = 0 ∷ zeros_for ks

abbrev pub absent : List Kind → Fields
absent ks = record { words = 0 ∷ zeros_for ks; fits = true }

-- a setting that is not said, by a dash or by the line's end, is named all the same: present, and 0
abbrev pub unsaid : Fields
unsaid = record { words = 1 ∷ 0 ∷ []; fits = true }

-- what is left after a tab and a dash
abbrev pub dash : ℕ
dash = 45

unfoldable pub dash_read : List ℕ → Option (List ℕ)
dash_read xs = expect tab (expect dash Some) xs

-- what is left where a line ends: all of it, the line feed too
unfoldable pub end_read : List ℕ → Option (List ℕ)
end_read xs = expect line_feed (λ rest. Some xs) xs

-- where such a rest was read, the fields for what is not said
abbrev pub default_or : Fields → Option (List ℕ) → Option (Taken Fields) → Option (Taken Fields)
default_or default None other = other
default_or default (Some rest) other = Some (record { value = default; rest = rest })

-- a dash, or fields behind a mark of presence
abbrev pub dash_or : Fields → List Kind → List ℕ → Option (Taken Fields)
dash_or default ks xs = default_or default (dash_read xs) (after (read_kinds ks xs) (joined_taken present))

unfoldable pub read_item : Item → List ℕ → Option (Taken Fields)
read_item (plain k) xs = read_kinds (k ∷ []) xs
read_item (optional ks) xs = dash_or (absent ks) ks xs
read_item setting xs = default_or unsaid (end_read xs) (dash_or unsaid (mark ∷ []) xs)

unfoldable pub read_items : List Item → List ℕ → Option (Taken Fields)
read_items [] xs = Some (record { value = no_fields; rest = xs })
read_items (i ∷ is) xs = after (read_item i xs) (λ t. after (read_items is t.rest) (joined_taken t.value))

-- ---- the records, by their letter
abbrev pub addition_letter : ℕ
addition_letter = 65

abbrev pub settings_letter : ℕ
settings_letter = 84

abbrev pub collider_letter : ℕ
collider_letter = 67

abbrev pub body_letter : ℕ
body_letter = 66

abbrev pub hook_letter : ℕ
hook_letter = 72

abbrev pub manifold_letter : ℕ
manifold_letter = 77

abbrev pub point_letter : ℕ
point_letter = 80

abbrev pub go_letter : ℕ
go_letter = 71

abbrev pub floats : ℕ → List Item → List Item
floats zero is = is
floats (suc n) is = plain float ∷ floats n is

abbrev pub coefficient : List Kind
coefficient = float ∷ rule ∷ []

-- colliders 1 and 2, bodies 1 and 2, the marks for events and modifying, the speculative distance
abbrev pub addition_shape : List Item
addition_shape = plain collider ∷ plain collider ∷ optional (body ∷ []) ∷ optional (body ∷ []) ∷ plain mark ∷ plain mark ∷ plain float ∷ []

-- step time, length unit, contact tolerance, recycle distance, recycle cosine; match_contacts; default friction and restitution; matching
abbrev pub settings_shape : List Item
settings_shape = floats 5 (plain mark ∷ plain float ∷ plain rule ∷ plain float ∷ plain rule ∷ setting ∷ [])

-- number, body, lower and upper corner, position; memberships, filters; friction, restitution, margin, sensor
abbrev pub collider_shape : List Item
collider_shape =
    plain collider ∷ optional (body ∷ []) ∷ floats 9
    (plain number ∷ plain number ∷ optional coefficient ∷ optional coefficient ∷ optional (float ∷ []) ∷ plain mark ∷ [])

-- number, static; position, rotation, center of mass, velocities; friction, margin, speculative maximum, sweep radius
abbrev pub body_shape : List Item
body_shape = plain body ∷ plain mark ∷ floats 16 (optional coefficient ∷ optional (float ∷ []) ∷ optional (float ∷ []) ∷ plain float ∷ [])

-- two colliders, the answer
abbrev pub hook_shape : List Item
hook_shape = plain collider ∷ plain collider ∷ plain mark ∷ []

-- two colliders, the normal
abbrev pub manifold_shape : List Item
manifold_shape = plain collider ∷ plain collider ∷ floats 3 []

-- anchors 1 and 2, position, penetration; features 1 and 2
abbrev pub point_shape : List Item
point_shape = floats 10 (plain number ∷ plain number ∷ [])

unfoldable pub shape : ℕ → Option (List Item)
shape l =
    cond (eqb l addition_letter) (Some addition_shape)
    (cond (eqb l settings_letter) (Some settings_shape)
    (cond (eqb l collider_letter) (Some collider_shape)
    (cond (eqb l body_letter) (Some body_shape)
    (cond (eqb l hook_letter) (Some hook_shape)
    (cond (eqb l manifold_letter) (Some manifold_shape)
    (cond (eqb l point_letter) (Some point_shape)
    (cond (eqb l go_letter) (Some []) None)))))))

-- ---- a line: its letter, the words that it reads to, and whether its numbers are in range
pub record Line : Type 0 where
  pub letter : ℕ
  pub words : List ℕ
  pub fits : Bool

unfoldable pub read_line : List ℕ → Option (Taken Line)
read_line [] = None
read_line (l ∷ xs) =
    after (shape l) (λ is. after (read_items is xs) (λ t.
    after (expect line_feed Some t.rest) (λ rest.
    Some (record { value = record { letter = l; words = t.value.words; fits = t.value.fits }; rest = rest }))))
