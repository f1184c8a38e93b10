-- `contact_graph::remove::store_counts` meets its contract: two stores side by side. Assumes nothing.
use mathlib.Core.Path.{refl}
use Rattle.rows.specs.Laws.{put_next}
use Rattle.contact_graph.proofs.remove.store_counts.Goals as goal

pub returns : goal.returns
returns c = rw (c.store-2.ensures, c.store.ensures) (put_next _ 2 _ _ 1 refl)
