-- How long a cell is at most. Assumes nothing.
use Rattle.std.specs.Prelude.{◌≤◌, length}
use Rattle.std.proofs.Common.{arith}
use Rattle.text.specs.SpelledLaws.{length_decimal}
use Rattle.trace_rules.specs.Printed.{Cell, number, negative, absent, cell_text}
use Rattle.trace_printing.specs.Lines.{cell_room}

pub length_cell : (x : Cell) → length (cell_text x) ≤ cell_room
unfolding cell_text
length_cell (number n) = let h = length_decimal n in omega (arith, h)
length_cell (negative n) = let h = length_decimal n in omega (arith, h)
length_cell absent = omega arith
