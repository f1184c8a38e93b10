-- `step::lengths::rows_long` meets its contract. Assumes nothing.
use native.Mathlib.Omega.{arith}
use Rattle.data_structures.specs.BitVecLaws.{blocks_hold}
use Rattle.step.proofs.lengths.rows_long.Goals as goal

pub overflow_mul-count : goal.overflow_mul-count
overflow_mul-count c = omega (arith, c.blocks-count.ensures, (blocks_hold c.args.capacity).1, c.requires)
