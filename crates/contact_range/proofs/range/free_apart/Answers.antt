-- `contact_range::range::free_apart` meets its contract: the ids passed do not stand. Assumes nothing.
use Rattle.std.proofs.lemmas.Iterator.{serves_from_Range}
use Rattle.rule_laws.specs.AllLaws.{every_from_all}
use mathlib.Core.Bool.{not}
use Rattle.contact_range.specs.Recorded.{free_at, free_count}
use Rattle.contact_range.specs.Range.{free_apart, stands}
use Rattle.contact_range.specs.RangeLaws.{freed_at}
use borrow.Author.Rules.{rules}
use Rattle.contact_range.proofs.range.free_apart.Goals as goal

pub all-requires-clause-callable : goal.all-requires-clause-callable
all-requires-clause-callable c = serves_from_Range (λ x q r. search rules) (λ x low below. let small = freed_at c.args.graph.now x c.requires.1 (search rules) in search rules)

pub returns : goal.returns
unfolding free_apart
returns c =
    every_from_all (λ k. not (stands c.args.graph.now (free_at c.args.graph.now k))) (free_count c.args.graph.now) _ _ c.all.result c.all.ensures.ran (search rules) (λ x b q k. search rules)
