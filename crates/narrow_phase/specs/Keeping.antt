-- The points that stay, by their numbers: what pruning looks at, and those that it keeps. Definitions only.
use Rattle.std.specs.Prelude.{ℕ, ◌≤◌, ◌<◌, ◌≡◌, List, [], ◌∷◌, get_or}
use Rattle.math.specs.declared.vec.Vec3.{Vec3}
use Rattle.rules.specs.Filtering.{prune_point}
use Rattle.rules.specs.Pruning.{kept}
use Rattle.rules.specs.Limits.{proposed_points, stored_points}
use Rattle.contact_types.specs.Pruned.{point_by, kept_of}
use Rattle.contact_types.specs.Views.{point_of}
use Rattle.contact_types.specs.declared.contact_point.ContactPoint.{ContactPoint}
use Rattle.contact_types.specs.declared.pruning.KeptPoints.{KeptPoints}
use Rattle.contact_types.specs.declared.pruning.PrunePoint.{PrunePoint}
use Rattle.narrow_phase.specs.declared.manifold.ManifoldPoints.{ManifoldPoints}

-- the second array holds what pruning looks at in the first points of the first. Past its end is whatever the caller says
pub record Viewed (points : List ContactPoint) (view : List PrunePoint) (count : ℕ) : Type 0 where
  pub each : (k : ℕ) (past : ContactPoint) → k < count → point_by view k ≡ prune_point (point_of (get_or points k past))

-- The promise of `kept_numbers`: the first four where there are no more, else those that pruning keeps.
pub record KeptNumbers (normal : Vec3) (count : ℕ) (view : List PrunePoint) (r : KeptPoints) : Type 0 where
  pub few : count ≤ stored_points → r ≡ record { count = count; first = 0; second = 1; third = 2; fourth = 3 }
  pub many : stored_points < count → kept_of r ≡ kept normal count (point_by view)
  pub most : r.count ≤ 4

-- The promise of `place_of`.
pub record PlaceOf (i r : ℕ) : Type 0 where
  pub below : r < proposed_points
  pub same : i < proposed_points → r ≡ i

-- the point of that number
pub record Picked (points : List ContactPoint) (i : ℕ) (r : ContactPoint) : Type 0 where
  pub there : (past : ContactPoint) → i < proposed_points → r ≡ get_or points i past

-- each of four places has the point of its number
pub record PickedKept (from : List ContactPoint) (k : KeptPoints) (r : ManifoldPoints) : Type 0 where
  pub first : ContactPoint
  pub second : ContactPoint
  pub third : ContactPoint
  pub fourth : ContactPoint
  pub four : r.points ≡ first ∷ second ∷ third ∷ fourth ∷ []
  pub count : r.count ≡ k.count
  pub at1 : Picked from k.first first
  pub at2 : Picked from k.second second
  pub at3 : Picked from k.third third
  pub at4 : Picked from k.fourth fourth
