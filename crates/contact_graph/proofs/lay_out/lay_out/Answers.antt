-- `contact_graph::lay_out::lay_out` meets its contract: the tests in their order, then the words. Assumes nothing.
use mathlib.Core.Path.{sym, ap, ◌∙◌}
use borrow.Author.Rules.{rules}
use lib.ListN.{length, length-set}
use Rattle.manifold_records.specs.ListLaws.{length_zeros}
use Rattle.contact_graph.specs.LayOutLaws.{lay_out_none, lay_out_many, lay_out_length, lay_out_done, laid_out_lem, lay_out_refused, lay_out_kept}
use Rattle.contact_graph.proofs.lay_out.lay_out.Goals as goal

pub returns-then-capacity-eq0 : goal.returns-then-capacity-eq0
returns-then-capacity-eq0 c = lay_out_refused _ _ (lay_out_none _ _ c.if-capacity-eq0.true)

pub returns-then-capacity-gt-MOST_CONTACTS : goal.returns-then-capacity-gt-MOST_CONTACTS
returns-then-capacity-gt-MOST_CONTACTS c = lay_out_refused _ _ (lay_out_many _ _ c.if-capacity-gt-MOST_CONTACTS.true)

pub returns-then-graph-graph_length : goal.returns-then-graph-graph_length
returns-then-graph-graph_length c =
    lay_out_refused _ _ (lay_out_length _ _ (search rules) (search rules) (λ e. c.if-graph-graph_length.true (e ∙ sym c.graph_length.ensures)))

pub shape_of-graph : goal.shape_of-graph
shape_of-graph c = simp length-set (ap length c.clear.ensures ∙ length_zeros _)

pub returns : goal.returns
returns c =
    let at = c in
    let e = at.if-graph-graph_length.false ∙ at.graph_length.ensures in
    lay_out_kept _ _ (lay_out_done _ _ (search rules) (search rules) e) (laid_out_lem at.args.graph.now _ e c.clear.ensures)
