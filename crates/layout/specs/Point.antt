-- A stored point's record. Definitions only; docs/BUFFERS.md has the same table.
use Rattle.std.specs.Prelude.{ℕ, ◌+◌}

abbrev pub point_anchor1 : ℕ
point_anchor1 = 0

abbrev pub point_anchor2 : ℕ
point_anchor2 = 3

abbrev pub point_position : ℕ
point_position = 6

abbrev pub point_penetration : ℕ
point_penetration = 9

abbrev pub point_base_penetration : ℕ
point_base_penetration = 10

abbrev pub point_normal_impulse : ℕ
point_normal_impulse = 11

abbrev pub point_normal_speed : ℕ
point_normal_speed = 12

abbrev pub point_warm_start_normal_impulse : ℕ
point_warm_start_normal_impulse = 13

abbrev pub point_warm_start_tangent_impulse : ℕ
point_warm_start_tangent_impulse = 14

abbrev pub point_warm_start_tangent_impulse_y : ℕ
point_warm_start_tangent_impulse_y = point_warm_start_tangent_impulse + 1

-- features 1 and 2
abbrev pub point_features : ℕ
point_features = 16

abbrev pub point_feature2 : ℕ
point_feature2 = point_features + 1

abbrev pub point_size : ℕ
point_size = 18
