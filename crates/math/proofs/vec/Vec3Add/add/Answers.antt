-- `math::vec::Vec3Add::add` meets its contract. Assumes nothing.
use Rattle.std.proofs.Common.{refl}
use Rattle.math.specs.Vec.{◌+v◌}
use Rattle.math.proofs.vec.Vec3Add.add.Goals as goal

pub returns : goal.returns
unfolding ◌+v◌
returns c = refl
