-- `contact_update::recycled::recycle_points` meets its contract: all penetrations are put. Assumes nothing.
use Rattle.contact_update.specs.PointLaws.{points_all}
use borrow.Author.Rules.{rules}
use Rattle.contact_update.proofs.recycled.recycle_points.Goals as goal

pub returns : goal.returns
returns c = let w = c.loop-k in points_all _ _ _ _ _ w.k w.invariant.2 (search rules)
