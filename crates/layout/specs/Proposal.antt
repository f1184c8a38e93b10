-- A contact's proposal, a proposed manifold and a proposed point. Definitions only; docs/BUFFERS.md has the same table.
use Rattle.std.specs.Prelude.{ℕ, ◌+◌, ◌*◌}
use Rattle.rules.specs.Limits.{pair_manifolds, proposed_points}

abbrev pub proposed_point_anchor1 : ℕ
proposed_point_anchor1 = 0

abbrev pub proposed_point_anchor2 : ℕ
proposed_point_anchor2 = 3

abbrev pub proposed_point_position : ℕ
proposed_point_position = 6

abbrev pub proposed_point_penetration : ℕ
proposed_point_penetration = 9

-- features 1 and 2
abbrev pub proposed_point_features : ℕ
proposed_point_features = 10

abbrev pub proposed_point_feature2 : ℕ
proposed_point_feature2 = proposed_point_features + 1

abbrev pub proposed_point_size : ℕ
proposed_point_size = 12

-- how many points it has
abbrev pub proposed_manifold_count : ℕ
proposed_manifold_count = 0

abbrev pub proposed_manifold_normal : ℕ
proposed_manifold_normal = 1

abbrev pub proposed_manifold_points : ℕ
proposed_manifold_points = 4

-- the words of a proposed manifold's points
abbrev pub proposed_points_size : ℕ
proposed_points_size = proposed_points * proposed_point_size

abbrev pub proposed_manifold_size : ℕ
proposed_manifold_size = proposed_manifold_points + proposed_points_size

-- the hook's answer
abbrev pub proposal_hook : ℕ
proposal_hook = 0

-- how many manifolds it has
abbrev pub proposal_count : ℕ
proposal_count = 1

abbrev pub proposal_manifolds : ℕ
proposal_manifolds = 2

abbrev pub proposal_size : ℕ
proposal_size = proposal_manifolds + pair_manifolds * proposed_manifold_size
