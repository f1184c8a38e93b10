-- `contact_range::range::given_known` meets its contract: the ids passed stand or are free. Assumes nothing.
use Rattle.std.proofs.lemmas.Iterator.{serves_from_Range}
use Rattle.rule_laws.specs.AllLaws.{every_from_all}
use mathlib.Core.Bool.{◌||◌}
use Rattle.contact_range.specs.Recorded.{given_of}
use Rattle.contact_range.specs.Range.{stands, is_free, given_known}
use borrow.Author.Rules.{rules}
use Rattle.contact_range.proofs.range.given_known.Goals as goal

pub all-requires-clause-callable : goal.all-requires-clause-callable
all-requires-clause-callable c = serves_from_Range (λ x q r. search rules) (λ x low below. search rules)

pub returns : goal.returns
unfolding given_known
returns c =
    every_from_all (λ id. stands c.args.graph.now id || is_free c.args.graph.now id) (given_of c.args.graph.now) _ _ c.all.result c.all.ensures.ran (search rules) (λ x b q k. search rules)
