-- `contact_range::range::is_standing` meets its contract: the record says where the list names the id. Assumes nothing.
use mathlib.Core.Path.{◌∙◌}
use borrow.Author.Tests.{le-ltb}
use Rattle.contact_range.specs.RangeStepLaws.{index_of, standing_past, standing_read}
use Rattle.contact_range.proofs.range.is_standing.Goals as goal

pub returns-else-index-load : goal.returns-else-index-load
returns-else-index-load c =
    let g = c.args.graph.now in
    rw (le-ltb _ _ c.if-index-load.false)
    (standing_past g c.args.id.0 c.requires.0.back (index_of g c.contact_at-at.ensures c.load-index.ensures) c.load.ensures c.if-index-load.false)

pub returns-then-index-load : goal.returns-then-index-load
returns-then-index-load c =
    let g = c.args.graph.now in
    c.eq.ensures ∙ standing_read g c.args.id.0 c.requires.0.back (index_of g c.contact_at-at.ensures c.load-index.ensures) c.load.ensures c.if-index-load.true c.id_at.ensures
