-- `contact_graph::lay_out::clear` meets its contract: the words passed are 0. Assumes nothing.
use Rattle.std.proofs.Common.{length, ◌∙◌}
use Rattle.manifold_records.specs.ListLaws.{zeros_replicate}
use Rattle.contact_graph.proofs.lay_out.clear.Goals as goal

pub returns : goal.returns
returns c = c.fill.ensures.after (λ y e. e) ∙ zeros_replicate (length c.args.words.now)
