-- What the loop of `trace_steps::records::read_rows` keeps, and how far there is still to go.
use lib.ListN.{length}
use Rattle.trace_steps.specs.LoopLaws.{RowsRead}
use Rattle.trace_steps.specs.Stretch.{lines_of}
use Rattle.trace_steps.proofs.records.read_rows.Given as goal

abbrev pub invariant-loop-kind : goal.invariant-loop-kind
invariant-loop-kind l = RowsRead (lines_of l.stretch) (lines_of l.lines.left) l.settings l.colliders l.bodies

abbrev pub decreases-loop-kind : goal.decreases-loop-kind
decreases-loop-kind l = length (lines_of l.lines.left)
