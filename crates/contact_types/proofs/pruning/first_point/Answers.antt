-- `contact_types::pruning::first_point` meets its contract: what the search finds. Assumes nothing.
use Rattle.std.proofs.Common.{true, rules}
use Rattle.math.specs.Vec.{squared_length}
use Rattle.rules.specs.Pruning.{point1}
use Rattle.contact_types.proofs.pruning.first_point.Goals as goal

pub returns : goal.returns
unfolding point1
returns c = c.heaviest.ensures squared_length (λ k. true) (record { each = λ x y e. search rules }) (record { each = λ x y e. search rules })
