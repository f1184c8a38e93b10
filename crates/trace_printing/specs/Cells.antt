-- A printed line's cells, as the code has them. Definitions only.
use Rattle.trace_rules.specs.Printed as printed
use Rattle.trace_printing.specs.declared.cells.Cell.{Cell}
use Rattle.trace_printing.specs.declared.cells.Cell.TheVariants as cell

abbrev pub cell_of : Cell → printed.Cell
cell_of (cell.Number n) = printed.number n
cell_of (cell.Negative n) = printed.negative n
cell_of cell.Absent = printed.absent
