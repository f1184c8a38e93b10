-- `math::vec::Vec3MulF32::mul` meets its contract. Assumes nothing.
use Rattle.std.proofs.Common.{refl}
use Rattle.math.specs.Vec.{◌*v◌}
use Rattle.math.proofs.vec.Vec3MulF32.mul.Goals as goal

pub returns : goal.returns
unfolding ◌*v◌
returns c = refl
