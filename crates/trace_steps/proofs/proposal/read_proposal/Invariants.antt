-- What the loop of `trace_steps::proposal::read_proposal` keeps, and how far there is still to go.
use lib.ListN.{length}
use Rattle.trace_steps.specs.LoopLaws.{ProposalRead}
use Rattle.trace_steps.specs.Stretch.{lines_of}
use Rattle.trace_steps.proofs.proposal.read_proposal.Given as goal

abbrev pub invariant-loop-kind : goal.invariant-loop-kind
invariant-loop-kind l = ProposalRead (lines_of l.stretch) (lines_of l.lines.left) l.pair.collider1 l.pair.collider2 l.row l.counts

abbrev pub decreases-loop-kind : goal.decreases-loop-kind
decreases-loop-kind l = length (lines_of l.lines.left)
