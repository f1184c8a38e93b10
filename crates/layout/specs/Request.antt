-- An addition's request from C. Definitions only; docs/BUFFERS.md has the same table.
use Rattle.std.specs.Prelude.{ℕ, ◌+◌}

abbrev pub request_collider1 : ℕ
request_collider1 = 0

abbrev pub request_collider2 : ℕ
request_collider2 = 1

-- mark and number
abbrev pub request_body1 : ℕ
request_body1 = 2

abbrev pub request_body1_number : ℕ
request_body1_number = request_body1 + 1

abbrev pub request_body2 : ℕ
request_body2 = 4

abbrev pub request_body2_number : ℕ
request_body2_number = request_body2 + 1

abbrev pub request_contact_events : ℕ
request_contact_events = 6

abbrev pub request_modify_contacts : ℕ
request_modify_contacts = 7

abbrev pub request_speculative_distance : ℕ
request_speculative_distance = 8

abbrev pub request_length : ℕ
request_length = 9
