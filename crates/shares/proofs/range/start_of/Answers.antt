-- `shares::range::start_of` meets its contract: the counts passed are added. Assumes nothing.
use mathlib.Core.Path.{◌≡◌, refl, sym, ap, ◌∙◌}
use Prim.Native.Nat.{◌+◌}
use native.Mathlib.Omega.{arith}
use native.Mathlib.Numerals.{add-one}
use Rattle.shares.specs.Shares.{start_of}
use borrow.Author.Rules.{rules}
use Rattle.shares.proofs.range.start_of.Goals as goal

pub loop-w-init : goal.loop-w-init
unfolding start_of
loop-w-init c = (search rules, search rules, refl)

pub overflow_add-total : goal.overflow_add-total
overflow_add-total c = omega (arith, c.loop-w.invariant.0, c.loop-w.invariant.1, c.requires.0, c.load-total.ensures, c.type_inv.shares (1 + c.loop-w.w))

pub loop-w-preserved : goal.loop-w-preserved
unfolding start_of
loop-w-preserved c =
    let w = c.loop-w in
    (search rules, omega (arith, w.invariant.1, c.load-total.ensures, c.type_inv.shares (1 + w.w)), (λ i. w.invariant.2 i + c.load-total.ensures i) ∙ ap (start_of _) (sym (add-one w.w)))

pub returns : goal.returns
returns c =
    let w = c.loop-w in
    let e : w.w ≡ c.args.worker = search rules in
    rw e at w.invariant.2
