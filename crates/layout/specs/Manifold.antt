-- A stored manifold's record, and a pair's manifolds: their number, then the manifolds. Definitions only; docs/BUFFERS.md has the same table.
use Rattle.std.specs.Prelude.{ℕ, ◌+◌, ◌*◌}
use Rattle.rules.specs.Limits.{pair_manifolds, stored_points}
use Rattle.layout.specs.Point.{point_size}

-- how many points it has
abbrev pub manifold_count : ℕ
manifold_count = 0

abbrev pub manifold_normal : ℕ
manifold_normal = 1

abbrev pub manifold_friction : ℕ
manifold_friction = 4

abbrev pub manifold_restitution : ℕ
manifold_restitution = 5

abbrev pub manifold_tangent_velocity : ℕ
manifold_tangent_velocity = 6

abbrev pub manifold_points : ℕ
manifold_points = 9

-- the words of a manifold's points
abbrev pub points_size : ℕ
points_size = stored_points * point_size

abbrev pub manifold_size : ℕ
manifold_size = manifold_points + points_size

-- the words of all manifolds of a pair
abbrev pub all_manifolds_size : ℕ
all_manifolds_size = pair_manifolds * manifold_size

-- a pair's manifolds: their number, then the manifolds
abbrev pub manifolds_size : ℕ
manifolds_size = 1 + all_manifolds_size
