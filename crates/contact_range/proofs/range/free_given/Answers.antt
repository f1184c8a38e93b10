-- `contact_range::range::free_given` meets its contract: the ids passed were given. Assumes nothing.
use Rattle.std.proofs.lemmas.Iterator.{serves_from_Range}
use Rattle.rule_laws.specs.AllLaws.{every_from_all}
use lib.Dec.{ltb}
use Rattle.contact_range.specs.Recorded.{free_at, free_count, given_of}
use Rattle.contact_range.specs.Range.{free_given}
use borrow.Author.Rules.{rules}
use Rattle.contact_range.proofs.range.free_given.Goals as goal

pub all-requires-clause-callable : goal.all-requires-clause-callable
all-requires-clause-callable c = serves_from_Range (λ x q r. search rules) (λ x low below. search rules)

pub returns : goal.returns
unfolding free_given
returns c =
    every_from_all (λ k. ltb (free_at c.args.graph.now k) (given_of c.args.graph.now)) (free_count c.args.graph.now) _ _ c.all.result c.all.ensures.ran (search rules) (λ x b q k. search rules)
