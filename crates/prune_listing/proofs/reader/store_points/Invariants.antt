-- What the loop of `prune_listing::reader::store_points` keeps: k points are stored, and what is left to store gives the whole.
use Rattle.prune_listing.specs.LoopLaws.{Stored}
use Rattle.prune_listing.proofs.reader.store_points.Given as goal

abbrev pub invariant-loop-k : goal.invariant-loop-k
invariant-loop-k l = Stored l.text l.initial.points l.k l.points
