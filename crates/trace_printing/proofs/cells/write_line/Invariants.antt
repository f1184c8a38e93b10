-- What the loop of `trace_printing::cells::write_line` keeps: the letter and the cells passed are written.
use Rattle.std.proofs.Common.{◌≡◌, map}
use Rattle.trace_printing.specs.Cells.{cell_of}
use Rattle.trace_printing.specs.LineLaws.{CellsWritten}
use Rattle.trace_printing.proofs.cells.write_line.Given as goal

abbrev pub invariant-loop-cell : goal.invariant-loop-cell
invariant-loop-cell l = CellsWritten l.fn.lines.row.now l.fn.lines.at l.letter (map cell_of l.cells) l.cell-index l.lines.row.now l.lines.at × (l.lines.row.ghost_name ≡ l.fn.lines.row.ghost_name)
