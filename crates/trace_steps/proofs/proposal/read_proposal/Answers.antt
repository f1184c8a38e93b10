-- `trace_steps::proposal::read_proposal` meets its contract: what is left to read makes the whole. Assumes nothing.
use mathlib.Core.Path.{ap}
use Rattle.trace_steps.specs.LoopLaws.{proposal_begun, proposal_next, proposal_done}
use Rattle.trace_steps.specs.Stretch.{lines_of}
use Rattle.trace_steps.proofs.proposal.read_proposal.Goals as goal

pub loop-kind-init : goal.loop-kind-init
loop-kind-init c = proposal_begun (lines_of c.args.stretch) _ _ (ap lines_of c.lines-lines.ensures) c.requires

pub loop-kind-preserved : goal.loop-kind-preserved
loop-kind-preserved c = let t = rw c.in-Some.is at c.next.ensures in proposal_next c.loop-kind.invariant t.left t.letter t.held c.take_line-counts.ensures

pub returns : goal.returns
returns c = proposal_done c.loop-kind.invariant (rw c.in_default.is at c.next.ensures)
