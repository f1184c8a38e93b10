-- An event's record. Definitions only; docs/BUFFERS.md has the same table.
use Rattle.std.specs.Prelude.{ℕ, ◌*◌}

abbrev pub event_kind : ℕ
event_kind = 0

abbrev pub event_contact : ℕ
event_contact = 1

abbrev pub event_collider1 : ℕ
event_collider1 = 2

abbrev pub event_collider2 : ℕ
event_collider2 = 3

abbrev pub event_body1 : ℕ
event_body1 = 4

abbrev pub event_body2 : ℕ
event_body2 = 6

abbrev pub event_size : ℕ
event_size = 8

-- room for an event of every contact
abbrev pub events_length : ℕ → ℕ
events_length capacity = capacity * event_size
