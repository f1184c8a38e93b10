-- `trace_printing::cells::write_refused` meets its contract. Assumes nothing.
use Rattle.std.proofs.Common.{rules, arith}
use Rattle.text.specs.WrittenLaws.{written_then, written_kept}
use Rattle.text.specs.SpelledLaws.{length_decimal}
use Rattle.trace_rules.specs.Printed.{refused_text}
use Rattle.trace_printing.proofs.cells.write_refused.Goals as goal

pub write_byte-requires : goal.write_byte-requires
write_byte-requires c =
    let w = c.write_decimal.ensures.written in
    let h = length_decimal c.args.n in
    omega (arith, c.new-line.ensures.at, w.count, h, c.requires)

pub returns : goal.returns
unfolding refused_text
returns c =
    let w = written_then _ _ c.write_decimal.ensures.written c.write_byte.ensures.written in
    written_kept _ _ (search rules) (rw (c.new-line.ensures.row, c.new-line.ensures.at, ← c.place.ensures) at w)
