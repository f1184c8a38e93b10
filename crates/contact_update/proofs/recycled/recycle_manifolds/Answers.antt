-- `contact_update::recycled::recycle_manifolds` meets its contract: the first k manifolds are recycled, and the rest is as it was. Assumes nothing.
use mathlib.Core.Path.{refl}
use Prim.Native.Nat.{◌<◌}
use native.Mathlib.Omega.{arith}
use Rattle.words.specs.Words.{word_at}
use Rattle.layout.specs.Contact.{contact_manifolds}
use Rattle.contact_update.specs.After.{manifolds_put}
use Rattle.contact_update.specs.ManifoldTurnLaws.{manifolds_turn, manifolds_all, left_turn}
use borrow.Author.Rules.{rules}
use Rattle.contact_update.proofs.recycled.recycle_manifolds.Goals as goal

pub loop-k-init : goal.loop-k-init
unfolding manifolds_put
loop-k-init c = (search rules, refl, record { after = λ j l. refl }, refl)

pub loop-k-preserved : goal.loop-k-preserved
loop-k-preserved c =
    let w = c.loop-k in
    let l : w.k < word_at c.args.words.now contact_manifolds = omega (arith, c.load-n.ensures, c.loop-k-test.true) in
    let n = c.load-count.ensures in
    let normal = c.load-normal.ensures in
    let p = c.recycle_points.ensures in
    (search rules, search rules, left_turn _ _ _ w.k l c.requires w.invariant.2 n normal p, manifolds_turn _ _ _ w.k l c.requires w.invariant.2 n normal p w.invariant.3)

pub returns : goal.returns
returns c =
    let w = c.loop-k in
    manifolds_all _ _ w.k w.invariant.3 (omega (arith, c.load-n.ensures, c.loop-k-test.false))
