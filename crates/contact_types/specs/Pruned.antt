-- Pruning's structs as the plain records of `rules`, and what the code's steps give. Definitions only.
use Rattle.std.specs.Prelude.{ℕ, ◌<◌, ◌≡◌, Bool, cond, List, [], ◌∷◌, Float, get_or, take, length, Some}
use Rattle.std.specs.Float.{nan}
use Rattle.math.specs.Vec.{vec3}
use Rattle.math.specs.declared.vec.Vec3.{Vec3}
use Rattle.rules.specs.Numbers.{Leading}
use Rattle.rules.specs.Pruning as rules
use Rattle.contact_types.specs.declared.pruning.PrunePoint.{PrunePoint}
use Rattle.contact_types.specs.declared.pruning.Projected.{Projected}
use Rattle.contact_types.specs.declared.pruning.Lead.{Lead}
use Rattle.contact_types.specs.declared.pruning.Sides.{Sides}
use Rattle.contact_types.specs.declared.pruning.KeptPoints.{KeptPoints}

abbrev pub prune_point_of : PrunePoint → rules.PrunePoint
prune_point_of p = record { anchor1 = p.anchor1; penetration = p.penetration }

abbrev pub projected_of : Projected → rules.Projected
projected_of p = record { point = p.point; depth = p.depth }

-- the points of an array by their numbers; past the array's end all floats are NaN
abbrev pub point_by : List PrunePoint → ℕ → rules.PrunePoint
point_by ps k = prune_point_of (get_or ps k (record { anchor1 = vec3 nan nan nan; penetration = nan }))

abbrev pub projected_by : List Projected → ℕ → rules.Projected
projected_by ps k = projected_of (get_or ps k (record { point = vec3 nan nan nan; depth = nan }))

-- the first points of one array are those of the other, projected
pub record AllProjected (normal : Vec3) (points : List PrunePoint) (ps : List Projected) (count : ℕ) : Type 0 where
  pub each : (k : ℕ) → k < count → projected_by ps k ≡ rules.projected normal (point_by points k)

-- what a call returns, at any argument, is the function's value there
pub record Computes {X Y : Type 0} (post : X → Y → Type 0) (f : X → Y) : Type 0 where
  pub each : (x : X) (y : Y) → post x y → y ≡ f x

-- the weights of points by their numbers, by a squared distance
abbrev pub weighed : (Vec3 → Float) → (ℕ → rules.Projected) → ℕ → Float
weighed squared p k = rules.weight (squared (p k).point) (p k)

-- the code's lead as the rule's
abbrev pub leading_of : Lead → Leading
leading_of l = record { value = l.value; who = l.index }

-- k leads where it wins
abbrev pub passed : Lead → Bool → Float → ℕ → Lead
passed l wins value k = cond wins (record { value = value; index = Some k }) l

-- points 3 and 4
pub record SidesFound (normal : Vec3) (count : ℕ) (p : ℕ → rules.Projected) (i j : ℕ) (s : Sides) : Type 0 where
  pub below : s.below ≡ rules.point3 normal count p i j
  pub above : s.above ≡ rules.point4 normal count p i j

-- the struct for a list of numbers: how many there are, then the numbers, 0 past them
abbrev pub kept_struct : List ℕ → KeptPoints
kept_struct ks = record { count = length ks; first = get_or ks 0 0; second = get_or ks 1 0; third = get_or ks 2 0; fourth = get_or ks 3 0 }

-- the numbers in a struct
abbrev pub kept_of : KeptPoints → List ℕ
kept_of k = take k.count (k.first ∷ k.second ∷ k.third ∷ k.fourth ∷ [])
