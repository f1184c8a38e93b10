-- `trace_steps::worker::list_active` meets its contract: the contacts passed are listed. Assumes nothing.
use mathlib.Core.Path.{refl, ap, ◌∙◌}
use native.Mathlib.Omega.{arith}
use borrow.Author.Rules.{rules}
use lib.ListN.{length-set}
use lib.Seq.{take_all}
use Rattle.rows.specs.Rows.{put}
use Rattle.layout.specs.Shares.{shares_entries}
use Rattle.update_pass.specs.Shared.{active_of}
use Rattle.trace_steps.specs.ActiveLaws.{active_length, list_step}
use Rattle.trace_steps.proofs.worker.list_active.Goals as goal

pub loop-p-init : goal.loop-p-init
unfolding put
loop-p-init c = (search rules, refl, refl)

pub loop-p-preserved : goal.loop-p-preserved
loop-p-preserved c =
    let s = c.args in
    let n = c.load-listed.ensures in
    (search rules, simp length-set (search rules), list_step s.graph.now s.shares.now c.loop-p.p c.loop-p.invariant.2 (omega (arith, n, c.loop-p-test.true)))

pub returns : goal.returns
returns c =
    let s = c.args in
    let n = c.load-listed.ensures in
    c.loop-p.invariant.2 ∙ ap (put s.shares.now shares_entries) (take_all c.loop-p.p (active_of s.graph.now) (omega (arith, n, active_length s.graph.now, c.loop-p-test.false)))
