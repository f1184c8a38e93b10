-- `math::root::normalised` meets its contract. Assumes nothing.
use Rattle.std.proofs.Common.{◌≡◌, ℕ, ◌+◌, ◌-◌, ◌*◌, ◌/◌, ◌^◌, sym, subst, arith}
use Rattle.math.specs.Estimate.{IsNormal, leading}
use Rattle.math.proofs.ReducedLaws.{up, zeros_ge, up_whole, up_normal, up_value}
use Rattle.math.proofs.root.normalised.Goals as goal

pub overflow_sub-places : goal.overflow_sub-places
overflow_sub-places c = zeros_ge c.args.m c.requires.0 c.requires.1

pub overflow_add-result : goal.overflow_add-result
overflow_add-result c =
    let e = up_whole c.args.m c.requires.0 c.requires.1 in
    let n = (up_normal c.args.m c.requires.0 c.requires.1).1 in
    omega arith

pub returns : goal.returns
returns c =
    let m = c.args.m in
    let u = up m c.requires.0 c.requires.1 in
    subst (λ (z : ℕ). let r = (24 - u) * 2 ^ 23 + z in IsNormal r × (leading r * 2 ^ (r / 2 ^ 23 - 1) ≡ m * 2 ^ 24)) (sym (up_whole m c.requires.0 c.requires.1))
    (up_normal m c.requires.0 c.requires.1, up_value m c.requires.0 c.requires.1)
