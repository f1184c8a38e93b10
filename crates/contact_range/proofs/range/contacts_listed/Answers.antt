-- `contact_range::range::contacts_listed` meets its contract: the contacts passed name their places and are in range. Assumes nothing.
use mathlib.Core.Path.{◌∙◌}
use Prim.Native.Nat.{ℕ}
use Rattle.std.proofs.lemmas.Iterator.{serves_from_Range}
use Rattle.rule_laws.specs.AllLaws.{every_from_all}
use mathlib.Core.Bool.{Bool, ◌&&◌}
use mathlib.Core.List.{List}
use lib.Dec.{eqb}
use Rattle.contact_range.specs.Recorded.{listed_at, listed_count, contact_at}
use Rattle.rule_laws.specs.NumberLaws.{every_both}
use Rattle.contact_range.specs.Conditions.{index_at}
use Rattle.contact_range.specs.Range.{contact_fits, names_back, contacts_fit}
use borrow.Author.Rules.{rules}
use Rattle.contact_range.proofs.range.contacts_listed.Goals as goal

abbrev back : List ℕ → ℕ → Bool
back graph p = eqb (index_at graph (listed_at graph p)) p

abbrev fit : List ℕ → ℕ → Bool
fit graph p = contact_fits graph (contact_at graph (listed_at graph p))

pub all-requires-clause-callable : goal.all-requires-clause-callable
all-requires-clause-callable c = serves_from_Range (λ x q r. search rules) (λ x low below. search rules)

pub returns : goal.returns
unfolding names_back contacts_fit
returns c =
    every_from_all (λ p. back c.args.graph.now p && fit c.args.graph.now p) (listed_count c.args.graph.now) _ _ c.all.result c.all.ensures.ran (search rules) (λ x b q k. search rules)
    ∙ every_both (back c.args.graph.now) (fit c.args.graph.now) (listed_count c.args.graph.now)
