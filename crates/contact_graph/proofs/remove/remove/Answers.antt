-- `contact_graph::remove::remove` meets its contract: the tests in their order, then the removal. Assumes nothing.
use Rattle.contact_graph.specs.CallLaws.{graph_checked, graph_refused, remove_refused_length, remove_refused_range, remove_refused_none, remove_kept}
use Rattle.contact_graph.specs.Promises.{Removed}
use Rattle.contact_range.specs.RangeStepLaws.{refused_by, passed_by}
use Rattle.contact_graph.proofs.remove.remove.Goals as goal

pub returns-in_err-check_graph : goal.returns-in_err-check_graph
returns-in_err-check_graph c = graph_refused (Removed _ _ _) _ c.from_residual.ensures.1 c.in_err-check_graph.ensures (remove_refused_length _ _) (remove_refused_range _ _)

pub has_contact-requires : goal.has_contact-requires
has_contact-requires c = graph_checked c.in_ok-check_graph.ensures

pub returns-then-not-has_contact : goal.returns-then-not-has_contact
returns-then-not-has_contact c =
    let t = c.in_ok-check_graph.ensures.is in
    remove_refused_none _ _ t.0 t.1 (refused_by c.has_contact.ensures c.if-not-has_contact.true)

pub remove_standing-requires : goal.remove_standing-requires
remove_standing-requires c =
    let t = c.in_ok-check_graph.ensures.is in
    (graph_checked c.in_ok-check_graph.ensures, passed_by c.has_contact.ensures c.if-not-has_contact.false)

pub returns : goal.returns
returns c =
    let t = c.in_ok-check_graph.ensures.is in
    remove_kept _ _ t.0 t.1 (passed_by c.has_contact.ensures c.if-not-has_contact.false) c.remove_standing.ensures
