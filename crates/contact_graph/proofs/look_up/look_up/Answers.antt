-- `contact_graph::look_up::look_up` meets its contract: the tests in their order, then the edge. Assumes nothing.
use Rattle.contact_graph.specs.CallLaws.{graph_checked, graph_refused}
use Rattle.contact_graph.specs.LookUpLaws.{look_up_length, look_up_range, look_up_none, look_up_found}
use Rattle.contact_range.specs.RangeLaws.{standing_below}
use Rattle.contact_graph.specs.Promises.{LookedUp}
use Rattle.contact_range.specs.RangeStepLaws.{refused_by, passed_by}
use Rattle.contact_graph.proofs.look_up.look_up.Goals as goal

pub returns-in_err-check_graph : goal.returns-in_err-check_graph
returns-in_err-check_graph c = graph_refused (LookedUp _ _) _ c.from_residual.ensures.1 c.in_err-check_graph.ensures (look_up_length _ _) (look_up_range _ _)

pub has_contact-requires : goal.has_contact-requires
has_contact-requires c = graph_checked c.in_ok-check_graph.ensures

pub returns-then-not-has_contact : goal.returns-then-not-has_contact
returns-then-not-has_contact c = let t = c.in_ok-check_graph.ensures.is in look_up_none _ _ t.0 t.1 (refused_by c.has_contact.ensures c.if-not-has_contact.true)

pub contact_at-at-requires : goal.contact_at-at-requires
contact_at-at-requires c =
    let t = c.in_ok-check_graph.ensures.is in
    let k = graph_checked c.in_ok-check_graph.ensures in
    (k.right, standing_below k.range _ (passed_by c.has_contact.ensures c.if-not-has_contact.false))

pub returns : goal.returns
returns c =
    let t = c.in_ok-check_graph.ensures.is in
    look_up_found _ _ t.0 t.1 (passed_by c.has_contact.ensures c.if-not-has_contact.false) c.contact_at-at.ensures.place c.load_edge.ensures
