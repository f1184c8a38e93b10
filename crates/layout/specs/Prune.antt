-- What pruning reads of a point, and the row of points that it is lent. Definitions only; docs/BUFFERS.md has the same table.
use Rattle.std.specs.Prelude.{ℕ, ◌*◌}
use Rattle.rules.specs.Limits.{proposed_points}

abbrev pub prune_point_anchor1 : ℕ
prune_point_anchor1 = 0

abbrev pub prune_point_penetration : ℕ
prune_point_penetration = 3

abbrev pub prune_point_size : ℕ
prune_point_size = 4

abbrev pub prune_points_length : ℕ
prune_points_length = proposed_points * prune_point_size
