-- The limits of the specification, in one place. Definitions only.
use Rattle.std.specs.Prelude.{ℕ}

-- points of a stored manifold
abbrev pub stored_points : ℕ
stored_points = 4

-- points of a proposed manifold
abbrev pub proposed_points : ℕ
proposed_points = 24

-- manifolds of a pair
abbrev pub pair_manifolds : ℕ
pair_manifolds = 6

-- collider and body numbers are below these
abbrev pub colliders : ℕ
colliders = 256

abbrev pub bodies : ℕ
bodies = 128

-- contacts of a graph
abbrev pub most_contacts : ℕ
most_contacts = 256

-- workers of a step
abbrev pub most_workers : ℕ
most_workers = 8
