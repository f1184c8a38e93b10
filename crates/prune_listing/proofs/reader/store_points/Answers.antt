-- `prune_listing::reader::store_points` meets its contract. Assumes nothing.
use Rattle.std.proofs.Common.{rules}
use Rattle.prune_listing.specs.LoopLaws.{store_none, store_stop, store_next, store_full}
use Rattle.prune_listing.proofs.reader.store_points.Goals as goal

pub loop-k-init : goal.loop-k-init
loop-k-init c = store_none _ _ c.requires.1

pub returns-in_default : goal.returns-in_default
returns-in_default c = store_stop _ _ _ _ c.loop-k.invariant c.in_default.ensures

pub loop-k-preserved : goal.loop-k-preserved
loop-k-preserved c = store_next _ _ _ _ _ _ c.loop-k.invariant (search rules) c.in-Some.ensures (search rules) c.store_words.ensures

pub returns : goal.returns
returns c = store_full _ _ _ _ c.loop-k.invariant (search rules)
