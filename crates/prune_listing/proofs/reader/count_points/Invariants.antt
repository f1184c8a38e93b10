-- What the loop of `prune_listing::reader::count_points` keeps: k lines are counted, and what is left is to be.
use Rattle.prune_listing.specs.LoopLaws.{Counted}
use Rattle.prune_listing.proofs.reader.count_points.Given as goal

abbrev pub invariant-loop-k : goal.invariant-loop-k
invariant-loop-k l = Counted l.text l.k
