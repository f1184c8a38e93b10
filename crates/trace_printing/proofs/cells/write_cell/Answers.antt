-- `trace_printing::cells::write_cell` meets its contract. Assumes nothing.
use Rattle.text.specs.WrittenLaws.{written_then}
use Rattle.trace_rules.specs.Printed.{cell_text}
use Rattle.trace_printing.proofs.cells.write_cell.Goals as goal

pub returns-in-Number-clause-written : goal.returns-in-Number-clause-written
unfolding cell_text
returns-in-Number-clause-written c = rw c.in-Number.is (written_then _ _ c.write_byte.ensures.written c.write_decimal.ensures.written)

pub returns-in-Negative-clause-written : goal.returns-in-Negative-clause-written
unfolding cell_text
returns-in-Negative-clause-written c =
    rw c.in-Negative.is (written_then _ _ c.write_byte.ensures.written (written_then _ _ c.write_byte-in-Negative.ensures.written c.write_decimal-in-Negative.ensures.written))

pub returns-in-Absent-clause-written : goal.returns-in-Absent-clause-written
unfolding cell_text
returns-in-Absent-clause-written c = rw c.in-Absent.is (written_then _ _ c.write_byte.ensures.written c.write_byte-in-Absent.ensures.written)
