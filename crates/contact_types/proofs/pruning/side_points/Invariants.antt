-- What the loop of `contact_types::pruning::side_points` keeps.
use Rattle.std.proofs.Common.{◌≡◌, ℕ, List}
use Rattle.std.specs.Prelude.{Float}
use Rattle.math.specs.Constants.{zero_f}
use Rattle.math.specs.Vec.{◌-v◌, dot}
use Rattle.math.specs.declared.vec.Vec3.{Vec3}
use Rattle.rules.specs.Numbers.{greater, less, leader}
use Rattle.rules.specs.Pruning.{rest}
use Rattle.contact_types.specs.Pruned.{projected_by, leading_of}
use Rattle.contact_types.specs.declared.pruning.Projected.{Projected}
use Rattle.contact_types.proofs.pruning.side_points.Given as goal

-- the side value by the line's normal and its first point
abbrev pub across : List Projected → Vec3 → Vec3 → ℕ → Float
across ps perp from k = dot perp ((projected_by ps k).point -v from)

abbrev pub invariant-loop-k : goal.invariant-loop-k
invariant-loop-k l =
    (leading_of l.below ≡ leader less (across l.ps l.perp l.from) (rest l.i l.j) zero_f l.k) × (leading_of l.above ≡ leader greater (across l.ps l.perp l.from) (rest l.i l.j) zero_f l.k)
