-- `update_pass::standing::join` meets its contract: after w parts. Assumes nothing.
use mathlib.Core.Path.{◌≡◌, ap, ◌∙◌}
use mathlib.Core.List.{List}
use Prim.Native.Nat.{ℕ, ◌+◌, ◌-◌, ◌*◌}
use native.Mathlib.Omega.{arith}
use lib.ListN.{length}
use Rattle.manifold_records.specs.ListLaws.{length_zeros}
use Rattle.update_pass.specs.JoinLaws.{part_length, join_next}
use Rattle.update_pass.specs.Share.{joined_parts}
use borrow.Author.Rules.{rules}
use Rattle.update_pass.proofs.standing.join.Goals as goal

pub loop-w-init : goal.loop-w-init
unfolding joined_parts
loop-w-init c = (search rules, c.requires.2, search rules)

pub or-requires : goal.or-requires
or-requires c =
    let from = c.loop-w.w * c.args.count in
    let n : from + c.args.count - from ≡ c.args.count = omega arith in
    let e = ap (λ (x : List ℕ). length x) c.requires.2 ∙ length_zeros c.args.count in
    let f = part_length c.args.count c.args.bits.now c.requires.0 c.loop-w.w _ c.loop-w-test.true n in
    let k = c.loop-w.invariant.2 in
    omega (arith, e, f, k)

pub loop-w-preserved : goal.loop-w-preserved
loop-w-preserved c =
    let from = c.loop-w.w * c.args.count in
    let n : from + c.args.count - from ≡ c.args.count = omega arith in
    (search rules, join_next c.args.count c.args.bits.now c.requires.0 c.loop-w.w _ n c.loop-w.invariant.1 c.or.ensures, search rules)
