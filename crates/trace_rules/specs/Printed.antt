-- What a call prints: docs/TRACES.md, 'What is printed'. Definitions only.
use Rattle.std.specs.Prelude.{ℕ, suc, List, [], ◌∷◌, ◌++◌, ℤ, pos, negsuc, Option, None, Some}
use Rattle.rows.specs.Rows.{each}
use Rattle.rules.specs.Records.{Names}
use Rattle.rules.specs.Status.{Event, started, ended, Change, start, stop, count}
use Rattle.text.specs.Text.{tab, line_feed, decimal_text}
use Rattle.trace_rules.specs.Fields.{dash}

-- ---- a line: its letter, then its cells, each after a tab
pub data Cell : Type 0 where
  number : ℕ → Cell
  negative : ℕ → Cell
  absent : Cell

-- a number, a number below zero by its distance from it, a dash for what is absent
unfoldable pub cell_text : Cell → List ℕ
cell_text (number n) = tab ∷ decimal_text n
cell_text (negative n) = tab ∷ dash ∷ decimal_text n
cell_text absent = tab ∷ dash ∷ []

-- and the line's end
unfoldable pub cells_text : List Cell → List ℕ
cells_text [] = line_feed ∷ []
cells_text (c ∷ cs) = cell_text c ++ cells_text cs

abbrev pub printed_line : ℕ → List Cell → List ℕ
printed_line letter cells = letter ∷ cells_text cells

abbrev pub optional_cell : Option ℕ → Cell
optional_cell None = absent
optional_cell (Some n) = number n

abbrev pub signed_cell : ℤ → Cell
signed_cell (pos n) = number n
signed_cell (negsuc n) = negative (suc n)

-- ---- an event: kind, contact, colliders, bodies
abbrev pub event_letter : ℕ
event_letter = 69

abbrev pub event_cells : ℕ → Names → List Cell
event_cells kind n = number kind ∷ number n.id ∷ number n.collider1 ∷ number n.collider2 ∷ optional_cell n.body1 ∷ optional_cell n.body2 ∷ []

unfoldable pub event_text : Event → List ℕ
event_text (started n) = printed_line event_letter (event_cells 0 n)
event_text (ended n) = printed_line event_letter (event_cells 1 n)

-- ---- a constraint change: kind, contact, bodies, count change
abbrev pub change_letter : ℕ
change_letter = 83

abbrev pub change_cells : Change → List Cell
change_cells (start id) = number 0 ∷ number id ∷ absent ∷ absent ∷ absent ∷ []
change_cells (stop id a b) = number 1 ∷ number id ∷ number a ∷ number b ∷ absent ∷ []
change_cells (count id a b d) = number 2 ∷ number id ∷ number a ∷ number b ∷ signed_cell d ∷ []

unfoldable pub change_text : Change → List ℕ
change_text c = printed_line change_letter (change_cells c)

-- a step's events, then its changes
abbrev pub step_text : List Event → List Change → List ℕ
step_text events changes = each event_text events ++ each change_text changes

-- ---- a refusal's number alone
unfoldable pub refused_text : ℕ → List ℕ
refused_text n = decimal_text n ++ line_feed ∷ []

-- an unreadable line
abbrev pub unreadable : ℕ
unreadable = 10
