-- A constraint change's record. Definitions only; docs/BUFFERS.md has the same table.
use Rattle.std.specs.Prelude.{ℕ, ◌*◌}

abbrev pub change_kind : ℕ
change_kind = 0

abbrev pub change_contact : ℕ
change_contact = 1

abbrev pub change_body1 : ℕ
change_body1 = 2

abbrev pub change_body2 : ℕ
change_body2 = 3

abbrev pub change_count : ℕ
change_count = 4

abbrev pub change_size : ℕ
change_size = 5

-- room for a change of every contact
abbrev pub changes_length : ℕ → ℕ
changes_length capacity = capacity * change_size
