-- `math::root::root_subnormal` meets its contract. Assumes nothing.
use Rattle.std.proofs.Common.{ℕ, ◌*◌, ◌^◌, sym, ap, ◌∙◌, mul_assoc, arith}
use lib.Ieee.{binary32}
use Rattle.math.specs.Root.{nearest_root}
use Rattle.math.proofs.ReducedLaws.{digits_bits}
use Rattle.math.proofs.root.root_subnormal.Goals as goal

pub returns : goal.returns
returns c =
    let m = c.args.m in
    let b = c.normalised-b.ensures in
    sym (digits_bits c.normalised-b.result c.root_digits.result c.root_digits.ensures 50 b.0 (omega arith))
    ∙ ap (λ (z : ℕ). nearest_root binary32 (z * 2 ^ 125)) b.1
    ∙ ap (nearest_root binary32) (mul_assoc m (2 ^ 24) (2 ^ 125))
