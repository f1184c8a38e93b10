-- `contact_graph::add::add` meets its contract: the tests in their order, then the addition. Assumes nothing.
use Rattle.std.proofs.Common.{sym, ◌∙◌, arith}
use Rattle.contact_graph.specs.AddLaws.{refused_length, refused_range, refused_request, refused_same, refused_stands, refused_full, add_kept}
use Rattle.contact_graph.specs.CallLaws.{graph_checked, graph_refused}
use Rattle.contact_range.specs.RangeLaws.{counts}
use Rattle.contact_graph.specs.Promises.{Added}
use Rattle.contact_range.specs.RangeStepLaws.{refused_by, passed_by}
use Rattle.contact_graph.proofs.add.add.Goals as goal

pub returns-in_err-check_graph : goal.returns-in_err-check_graph
returns-in_err-check_graph c = graph_refused (Added _ _ _) _ c.from_residual.ensures.1 c.in_err-check_graph.ensures (refused_length _ _) (refused_range _ _)

pub returns-then-not-request_fits : goal.returns-then-not-request_fits
returns-then-not-request_fits c =
    let t = c.in_ok-check_graph.ensures.is in
    refused_request _ _ t.0 t.1 (refused_by c.request_fits.ensures c.if-not-request_fits.true)

pub returns-then-a : goal.returns-then-a
returns-then-a c =
    let t = c.in_ok-check_graph.ensures.is in
    refused_same _ _ t.0 t.1 (passed_by c.request_fits.ensures c.if-not-request_fits.false) c.if-a.true

pub load-requires : goal.load-requires
load-requires c = let r = (graph_checked c.in_ok-check_graph.ensures).right in omega (arith, r.size)

pub load-requires-2 : goal.load-requires-2
load-requires-2 c = let r = (graph_checked c.in_ok-check_graph.ensures).right in omega (arith, r.size)

pub pair_stands-requires : goal.pair_stands-requires
pair_stands-requires c = graph_checked c.in_ok-check_graph.ensures

pub returns-then-pair_stands : goal.returns-then-pair_stands
returns-then-pair_stands c =
    let t = c.in_ok-check_graph.ensures.is in
    refused_stands _ _ t.0 t.1 (passed_by c.request_fits.ensures c.if-not-request_fits.false) c.if-a.false (sym c.pair_stands.ensures ∙ c.if-pair_stands.true)

pub returns-then-full : goal.returns-then-full
returns-then-full c =
    let t = c.in_ok-check_graph.ensures.is in
    refused_full _ _ t.0 t.1 (passed_by c.request_fits.ensures c.if-not-request_fits.false) c.if-a.false
    (sym c.pair_stands.ensures ∙ c.if-pair_stands.false) (sym c.load.ensures ∙ c.if-full.true ∙ c.load-2.ensures)

pub add_new-requires : goal.add_new-requires
add_new-requires c =
    let k = graph_checked c.in_ok-check_graph.ensures in
    let n = counts k.range in
    (k, passed_by c.request_fits.ensures c.if-not-request_fits.false, omega (arith, c.load.ensures, c.load-2.ensures, c.if-full.false))

pub returns : goal.returns
returns c =
    let t = c.in_ok-check_graph.ensures.is in
    add_kept _ _ t.0 t.1 (passed_by c.request_fits.ensures c.if-not-request_fits.false) c.if-a.false
    (sym c.pair_stands.ensures ∙ c.if-pair_stands.false) (λ e. c.if-full.false (c.load.ensures ∙ e ∙ sym c.load-2.ensures)) c.add_new.ensures
