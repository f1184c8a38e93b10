-- `trace_steps::records::read_rows` meets its contract: what is left to read makes the whole. Assumes nothing.
use mathlib.Core.Path.{ap}
use Rattle.trace_steps.specs.LoopLaws.{rows_begun, rows_next, rows_done}
use Rattle.trace_steps.specs.Stretch.{lines_of}
use Rattle.trace_steps.proofs.records.read_rows.Goals as goal

pub loop-kind-init : goal.loop-kind-init
loop-kind-init c = rows_begun (lines_of c.args.stretch) (ap lines_of c.lines-lines.ensures) c.requires.0 c.requires.1 c.requires.2

pub loop-kind-preserved : goal.loop-kind-preserved
loop-kind-preserved c = let t = rw c.in-Some.is at c.next.ensures in rows_next c.loop-kind.invariant t.left t.letter t.held c.take_line.ensures

pub returns : goal.returns
returns c = rows_done c.loop-kind.invariant (rw c.in_default.is at c.next.ensures)
