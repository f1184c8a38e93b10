-- A body's record. The place of an optional value is that of its mark. Definitions only; docs/BUFFERS.md has the same table.
use Rattle.std.specs.Prelude.{ℕ, ◌*◌}
use Rattle.rules.specs.Limits.{bodies}

abbrev pub body_present : ℕ
body_present = 0

abbrev pub body_static : ℕ
body_static = 1

-- position and rotation stand side by side: the pose
abbrev pub body_position : ℕ
body_position = 2

abbrev pub body_rotation : ℕ
body_rotation = 5

abbrev pub body_center_of_mass : ℕ
body_center_of_mass = 9

abbrev pub body_linear_velocity : ℕ
body_linear_velocity = 12

abbrev pub body_angular_velocity : ℕ
body_angular_velocity = 15

-- mark, coefficient, rule
abbrev pub body_friction : ℕ
body_friction = 18

abbrev pub body_margin : ℕ
body_margin = 21

abbrev pub body_speculative_maximum : ℕ
body_speculative_maximum = 23

abbrev pub body_sweep_radius : ℕ
body_sweep_radius = 25

abbrev pub body_size : ℕ
body_size = 26

abbrev pub bodies_length : ℕ
bodies_length = bodies * body_size
