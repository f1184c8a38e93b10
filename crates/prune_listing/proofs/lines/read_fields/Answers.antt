-- `prune_listing::lines::read_fields` meets its contract. Assumes nothing.
use Rattle.std.proofs.lemmas.List.{length-replicate}
use Rattle.prune_listing.specs.LineLaws.{fields_begin, fields_next}
use Rattle.prune_listing.proofs.lines.read_fields.Goals as goal

pub loop-k-init : goal.loop-k-init
loop-k-init g c = fields_begin g.row.N _ _ _ (length-replicate g.row.N 0)

pub loop-k-preserved : goal.loop-k-preserved
loop-k-preserved g c = fields_next g.row.N _ _ _ _ c.loop-k.invariant _ c.loop-k-test.true c.in_ok-words.ensures
