-- `contact_graph::look_up::load_edge` meets its contract: what each call ensures, put together. Assumes nothing.
use Rattle.std.specs.Prelude.{ℕ}
use Rattle.std.proofs.Common.{ap, arith, ◌∙◌}
use Rattle.words.specs.Words.{mark_at}
use Rattle.contact_graph.specs.LookUpLaws.{edge_made}
use Rattle.contact_graph.proofs.look_up.load_edge.Goals as goal

pub returns : goal.returns
returns c = edge_made _ _ _ c.load.ensures c.load-2.ensures c.load-3.ensures c.load-4.ensures c.load-5.ensures c.load-6.ensures (c.load-7.ensures ∙ ap (λ (k : ℕ). mark_at c.args.graph.now k) (omega arith))
