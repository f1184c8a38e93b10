-- `trace_printing::cells::write_line` meets its contract. Assumes nothing.
use Rattle.std.proofs.Common.{rules, ◌≡◌, sym, arith, length, map}
use Rattle.std.proofs.lemmas.List.{get_or-map}
use Rattle.std.proofs.lemmas.List.{length-map}
use Rattle.trace_printing.specs.Cells.{cell_of}
use Rattle.trace_printing.specs.LineLaws.{cells_room, cells_next, cells_ended}
use Rattle.trace_printing.proofs.cells.write_line.Goals as goal

pub write_cell-requires : goal.write_cell-requires
write_cell-requires c =
    let n : length (map cell_of c.args.cells.now) ≡ length c.args.cells.now = length-map c.args.cells.now cell_of in
    let r = cells_room (map cell_of c.args.cells.now) c.loop-cell.cell-index c.loop-cell.invariant.0 (omega arith) in
    omega arith

pub loop-cell-preserved : goal.loop-cell-preserved
loop-cell-preserved c =
    let n : length (map cell_of c.args.cells.now) ≡ length c.args.cells.now = length-map c.args.cells.now cell_of in
    (cells_next (map cell_of c.args.cells.now) c.loop-cell.cell-index _ c.loop-cell.invariant.0 (omega arith) (sym (get_or-map cell_of c.args.cells.now c.loop-cell.cell-index _ _ c.loop-cell-test.true)) c.write_cell.ensures.written, search rules)

pub write_byte-requires-2 : goal.write_byte-requires-2
write_byte-requires-2 c =
    let n : length (map cell_of c.args.cells.now) ≡ length c.args.cells.now = length-map c.args.cells.now cell_of in
    let r = cells_room (map cell_of c.args.cells.now) c.loop-cell.cell-index c.loop-cell.invariant.0 (omega arith) in
    omega arith

pub returns-clause-written : goal.returns-clause-written
returns-clause-written c =
    let n : length (map cell_of c.args.cells.now) ≡ length c.args.cells.now = length-map c.args.cells.now cell_of in
    cells_ended (map cell_of c.args.cells.now) c.loop-cell.invariant.0 (omega arith) c.write_byte-2.ensures.written
