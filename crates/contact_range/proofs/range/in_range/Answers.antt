-- `contact_range::range::in_range` meets its contract: what each part shows for the later ones. Assumes nothing.
use mathlib.Core.Path.{sym, ◌∙◌}
use Rattle.contact_range.specs.RangeLaws.{right_length_lem}
use Rattle.contact_range.specs.RangeStepLaws.{in_range_parts, listed_standing, contacts_known}
use borrow.Author.Rules.{rules}
use Rattle.contact_range.proofs.range.in_range.Goals as goal

pub listed_fit-requires : goal.listed_fit-requires
listed_fit-requires c = right_length_lem c.requires

pub pairs_once-requires : goal.pairs_once-requires
pairs_once-requires c =
    let e = sym c.listed_fit.ensures ∙ c.if-listed_fit.true in
    ((listed_standing (right_length_lem c.requires) e).listed, contacts_known _ e)

pub free_fit-requires : goal.free_fit-requires
free_fit-requires c = listed_standing (right_length_lem c.requires) (search rules)

pub returns-then-pairs_once : goal.returns-then-pairs_once
returns-then-pairs_once c = let parts = in_range_parts c.args.graph.now in search rules

pub returns-else-pairs_once : goal.returns-else-pairs_once
returns-else-pairs_once c = let parts = in_range_parts c.args.graph.now in search rules
