-- `math::mat::Mat3::mul_vec3` meets its contract: what each call ensures, put together. Assumes nothing.
use Rattle.math.specs.Mat.{◌*m◌}
use Rattle.math.proofs.mat.Mat3.mul_vec3.Goals as goal

pub returns : goal.returns
unfolding ◌*m◌
returns c = cc
