-- `prune_points`: the specification, 'Matching and pruning'. Points go by their numbers from 0, in the order given. Definitions only.
use Rattle.std.specs.Prelude.{ℕ, Bool, true, not, ◌&&◌, List, [], ◌∷◌, ◌++◌, eqb, Float, Option, None, Some}
use Rattle.math.specs.Floats.{◌⊗◌}
use Rattle.math.specs.Constants.{zero_f, tiny, lowest}
use Rattle.math.specs.Choose.{maximum}
use Rattle.math.specs.Vec.{◌-v◌, dot, cross, squared_length, squared_distance, reject}
use Rattle.math.specs.declared.vec.Vec3.{Vec3}
use Rattle.rules.specs.Numbers.{leader, greater, less}

-- what pruning looks at in a point
pub record PrunePoint : Type 0 where
  pub anchor1 : Vec3
  pub penetration : Float

-- anchor 1 after Reject by the normal, and the weight's second factor: penetration squared, at least 1e-6
pub record Projected : Type 0 where
  pub point : Vec3
  pub depth : Float

unfoldable pub projected : Vec3 → PrunePoint → Projected
projected normal p = record { point = reject p.anchor1 normal; depth = maximum (p.penetration ⊗ p.penetration) tiny }

-- max(squared length, 1e-6) × max(penetration squared, 1e-6)
unfoldable pub weight : Float → Projected → Float
weight squared p = maximum squared tiny ⊗ p.depth

-- k is not i
abbrev pub other_than : ℕ → ℕ → Bool
other_than i k = not (eqb k i)

-- p gives the points by their numbers, and count is how many there are
-- the earliest greatest weight
unfoldable pub point1 : ℕ → (ℕ → Projected) → Option ℕ
point1 count p = (leader greater (λ k. weight (squared_length (p k).point) (p k)) (λ k. true) lowest count).who

-- the same by distance from point 1, which is i
unfoldable pub point2 : ℕ → (ℕ → Projected) → ℕ → Option ℕ
point2 count p i = (leader greater (λ k. weight (squared_distance (p k).point (p i).point) (p k)) (other_than i) lowest count).who

-- ((point2 − point1) cross normal) · (point − point1), for points 1 and 2 at i and j
unfoldable pub side_value : Vec3 → (ℕ → Projected) → ℕ → ℕ → ℕ → Float
side_value normal p i j k = dot (cross ((p j).point -v (p i).point) normal) ((p k).point -v (p i).point)

-- neither of the two
abbrev pub rest : ℕ → ℕ → ℕ → Bool
rest i j k = other_than i k && other_than j k

-- the one furthest below 0, and the one furthest above, the earliest of equals, if any
unfoldable pub point3 : Vec3 → ℕ → (ℕ → Projected) → ℕ → ℕ → Option ℕ
point3 normal count p i j = (leader less (side_value normal p i j) (rest i j) zero_f count).who

unfoldable pub point4 : Vec3 → ℕ → (ℕ → Projected) → ℕ → ℕ → Option ℕ
point4 normal count p i j = (leader greater (side_value normal p i j) (rest i j) zero_f count).who

-- a number or none, as a list
abbrev pub listed : Option ℕ → List ℕ
listed None = []
listed (Some i) = i ∷ []

-- output: 1, 3, 2, 4. That points 1 and 2 exist, of two points or more, is `point1_exists` and `point2_exists`
unfoldable pub kept_beside : Vec3 → ℕ → (ℕ → Projected) → ℕ → Option ℕ → List ℕ
kept_beside normal count p i None = i ∷ []
kept_beside normal count p i (Some j) = i ∷ listed (point3 normal count p i j) ++ j ∷ listed (point4 normal count p i j)

unfoldable pub kept_from : Vec3 → ℕ → (ℕ → Projected) → Option ℕ → List ℕ
kept_from normal count p None = []
kept_from normal count p (Some i) = kept_beside normal count p i (point2 count p i)

-- the numbers of the points that stay, in the order of the output
unfoldable pub kept : Vec3 → ℕ → (ℕ → PrunePoint) → List ℕ
kept normal count point =
    let p : ℕ → Projected = λ k. projected normal (point k) in
    kept_from normal count p (point1 count p)
