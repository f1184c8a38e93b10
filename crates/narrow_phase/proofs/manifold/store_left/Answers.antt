-- `narrow_phase::manifold::store_left` meets its contract. Assumes nothing.
use Rattle.narrow_phase.specs.StoringLaws.{listed_stored}
use Rattle.narrow_phase.proofs.manifold.store_left.Goals as goal

pub returns : goal.returns
returns c = listed_stored _ c.kept_points-left.result c.kept_points-left.ensures c.store_listed.ensures
