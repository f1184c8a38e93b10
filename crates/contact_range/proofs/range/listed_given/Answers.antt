-- `contact_range::range::listed_given` meets its contract: the ids passed were given. Assumes nothing.
use Rattle.std.proofs.lemmas.Iterator.{serves_from_Range}
use Rattle.rule_laws.specs.AllLaws.{every_from_all}
use lib.Dec.{ltb}
use Rattle.contact_range.specs.Recorded.{listed_at, listed_count, given_of}
use Rattle.contact_range.specs.Range.{listed_given}
use borrow.Author.Rules.{rules}
use Rattle.contact_range.proofs.range.listed_given.Goals as goal

pub all-requires-clause-callable : goal.all-requires-clause-callable
all-requires-clause-callable c = serves_from_Range (λ x q r. search rules) (λ x low below. search rules)

pub returns : goal.returns
unfolding listed_given
returns c =
    every_from_all (λ p. ltb (listed_at c.args.graph.now p) (given_of c.args.graph.now)) (listed_count c.args.graph.now) _ _ c.all.result c.all.ensures.ran (search rules) (λ x b q k. search rules)
