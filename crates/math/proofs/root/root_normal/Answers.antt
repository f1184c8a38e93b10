-- `math::root::root_normal` meets its contract. Assumes nothing.
use Rattle.std.proofs.Common.{sym, arith}
use Rattle.math.proofs.ReducedLaws.{digits_bits}
use Rattle.math.proofs.root.root_normal.Goals as goal

pub returns : goal.returns
returns c = sym (digits_bits c.args.b c.root_digits.result c.root_digits.ensures 62 c.requires (omega arith))
