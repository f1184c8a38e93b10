-- `step::numbers::proposals_fit` meets its contract: the pairs passed fit. Assumes nothing.
use mathlib.Core.Path.{subst}
use Prim.Native.Nat.{ℕ, ◌<◌, ◌*◌}
use native.Mathlib.Omega.{arith}
use Rattle.std.proofs.lemmas.Iterator.{serves_from_Range}
use Rattle.layout.specs.Proposal.{proposal_size}
use Rattle.contact_range.specs.Recorded.{listed_count, listed_at}
use Rattle.proposals.specs.Range.{proposal_fits}
use Rattle.rule_laws.specs.AllLaws.{every_from_all}
use Rattle.step.specs.Step.{proposals_fit}
use Rattle.step.specs.TestLaws.{pair_places}
use borrow.Author.Rules.{rules}
use Rattle.step.proofs.numbers.proposals_fit.Goals as goal

pub load-listed-requires : goal.load-listed-requires
load-listed-requires c = let right = c.requires.0.right in omega (arith, right.size)

pub all-requires-clause-callable : goal.all-requires-clause-callable
all-requires-clause-callable c = serves_from_Range (λ x q r. search rules) (λ x low below.
    let listed = subst (λ (n : ℕ). x < n) c.load-listed.ensures below in
    let place = pair_places c.requires.0 x listed c.requires.1 in
    let room = place.room in
    search rules)

pub returns : goal.returns
unfolding proposals_fit
returns c =
    every_from_all (λ p. proposal_fits c.args.proposals.now (listed_at c.args.graph.now p * proposal_size)) (listed_count c.args.graph.now) _ _ c.all.result c.all.ensures.ran (search rules) (λ x b q k. search rules)
