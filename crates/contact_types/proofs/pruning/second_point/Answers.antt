-- `contact_types::pruning::second_point` meets its contract: what the search finds. Assumes nothing.
use Rattle.std.proofs.Common.{rules}
use Rattle.math.specs.Vec.{squared_distance}
use Rattle.rules.specs.Pruning.{point2, other_than}
use Rattle.contact_types.specs.Pruned.{projected_by}
use Rattle.contact_types.proofs.pruning.second_point.Goals as goal

pub returns : goal.returns
unfolding point2
returns c =
    let from = (projected_by c.args.ps.now c.args.i).point in
    c.heaviest.ensures (λ v. squared_distance v from) (other_than c.args.i) (record { each = λ x y e. search rules }) (record { each = λ x y e. search rules })
