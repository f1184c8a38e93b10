-- `contact_types::prune::load_points` meets its contract: one more point is loaded. Assumes nothing.
use Rattle.std.proofs.Common.{arith, rules}
use Rattle.contact_types.specs.PruneLoadLaws.{loaded_step}
use Rattle.contact_types.proofs.prune.load_points.Goals as goal

pub loop-k-preserved : goal.loop-k-preserved
loop-k-preserved c = (search rules, loaded_step _ _ c.loop-k.k (omega arith) c.loop-k.invariant.1 c.load.ensures)
