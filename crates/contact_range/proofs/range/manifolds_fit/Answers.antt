-- `contact_range::range::manifolds_fit` meets its contract: each counted manifold has few points. Assumes nothing.
use mathlib.Core.Path.{refl}
use Prim.Native.Nat.{◌+◌, ◌*◌}
use lib.Dec.{leb}
use borrow.Author.Tests.{le-leb}
use borrow.Author.Rules.{rules}
use Rattle.words.specs.Words.{word_at}
use Rattle.rules.specs.Limits.{pair_manifolds, stored_points}
use Rattle.layout.specs.Contact.{contact_manifolds}
use Rattle.layout.specs.Manifold.{manifold_size}
use Rattle.rule_laws.specs.AllLaws.{every_from_all}
use Rattle.contact_range.specs.Range.{manifolds_fit}
use Rattle.contact_range.proofs.range.manifolds_fit.Goals as goal

pub returns-then-count-le-MANIFOLDS : goal.returns-then-count-le-MANIFOLDS
unfolding manifolds_fit
returns-then-count-le-MANIFOLDS c =
    let a = c.args in
    let all = every_from_all (λ k. leb (word_at a.graph.now (a.at + contact_manifolds + 1 + k * manifold_size)) stored_points) c.load-count.result _ _ c.all.result c.all.ensures.ran refl (λ x b q k. search rules) in
    let few = le-leb c.load-count.result pair_manifolds c.if-count-le-MANIFOLDS.true in
    rw (← c.load-count.ensures, few, ← all)
