-- A collider's record. The place of an optional value is that of its mark. Definitions only; docs/BUFFERS.md has the same table.
use Rattle.std.specs.Prelude.{ℕ, ◌*◌}
use Rattle.rules.specs.Limits.{colliders}

abbrev pub collider_present : ℕ
collider_present = 0

abbrev pub collider_body : ℕ
collider_body = 1

-- the box's lower and upper corner
abbrev pub collider_lower : ℕ
collider_lower = 3

abbrev pub collider_upper : ℕ
collider_upper = 6

abbrev pub collider_position : ℕ
collider_position = 9

abbrev pub collider_memberships : ℕ
collider_memberships = 12

abbrev pub collider_filters : ℕ
collider_filters = 13

-- friction and restitution: mark, coefficient and rule each
abbrev pub collider_friction : ℕ
collider_friction = 14

abbrev pub collider_restitution : ℕ
collider_restitution = 17

abbrev pub collider_margin : ℕ
collider_margin = 20

abbrev pub collider_sensor : ℕ
collider_sensor = 22

abbrev pub collider_size : ℕ
collider_size = 23

abbrev pub colliders_length : ℕ
colliders_length = colliders * collider_size
