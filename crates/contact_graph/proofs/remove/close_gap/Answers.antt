-- `contact_graph::remove::close_gap` meets its contract: what each call ensures, put together. Assumes nothing.
use Rattle.contact_graph.proofs.remove.close_gap.Goals as goal

pub returns : goal.returns
returns c = rw (c.store-2.ensures, c.store.ensures)
