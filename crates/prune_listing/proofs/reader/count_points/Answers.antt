-- `prune_listing::reader::count_points` meets its contract. Assumes nothing.
use Rattle.prune_listing.specs.LoopLaws.{count_none}
use Rattle.prune_listing.proofs.reader.count_points.Goals as goal

pub loop-k-init : goal.loop-k-init
loop-k-init c = count_none c.args.text.now
