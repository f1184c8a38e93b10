-- `proposals::proposal::proposal_fits` meets its contract. Assumes nothing.
use mathlib.Core.Path.{refl}
use Prim.Native.Nat.{◌+◌, ◌*◌}
use lib.Dec.{leb}
use borrow.Author.Tests.{le-leb}
use Rattle.words.specs.Words.{word_at}
use Rattle.rules.specs.Limits.{pair_manifolds, proposed_points}
use Rattle.layout.specs.Proposal.{proposal_manifolds, proposed_manifold_size}
use Rattle.rule_laws.specs.AllLaws.{every_from_all}
use Rattle.proposals.specs.Range.{proposal_fits}
use borrow.Author.Rules.{rules}
use Rattle.proposals.proofs.proposal.proposal_fits.Goals as goal

pub returns-then-count-le-MANIFOLDS : goal.returns-then-count-le-MANIFOLDS
unfolding proposal_fits
returns-then-count-le-MANIFOLDS c =
    let a = c.args in
    let all = every_from_all (λ k. leb (word_at a.words.now (a.at + proposal_manifolds + k * proposed_manifold_size)) proposed_points) c.load-count.result _ _ c.all.result c.all.ensures.ran refl (λ x b q k. search rules) in
    let few = le-leb c.load-count.result pair_manifolds c.if-count-le-MANIFOLDS.true in
    rw (← c.load-count.ensures, few, ← all)
