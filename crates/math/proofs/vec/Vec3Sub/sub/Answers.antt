-- `math::vec::Vec3Sub::sub` meets its contract. Assumes nothing.
use Rattle.std.proofs.Common.{refl}
use Rattle.math.specs.Vec.{◌-v◌}
use Rattle.math.proofs.vec.Vec3Sub.sub.Goals as goal

pub returns : goal.returns
unfolding ◌-v◌
returns c = refl
