-- `status_pass::pass::pass` meets its contract: after k visits the rows are as the pass over the first k leaves them. Assumes nothing.
use Rattle.status_pass.specs.Pass.{pass_words}
use Rattle.status_pass.specs.VisitLaws.{left_none, visit_ready, visit_left}
use Rattle.status_pass.proofs.pass.pass.Goals as goal

pub loop-id-init : goal.loop-id-init
unfolding pass_words
loop-id-init c = left_none c.args.graph.now c.args.events.now c.args.changes.now

pub visit-counts-requires : goal.visit-counts-requires
visit-counts-requires c =
    let a = c.args in
    visit_ready a.graph.now a.events.now a.changes.now a.ids.now c.requires c.loop-id.id-index c.loop-id-test.true c.loop-id.invariant

pub loop-id-preserved : goal.loop-id-preserved
loop-id-preserved c =
    let a = c.args in
    visit_left a.graph.now a.events.now a.changes.now a.ids.now c.requires c.loop-id.id-index c.loop-id-test.true c.loop-id.invariant c.visit-counts.ensures
