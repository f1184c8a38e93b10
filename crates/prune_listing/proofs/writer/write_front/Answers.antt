-- `prune_listing::writer::write_front` meets its contract. Assumes nothing.
use Rattle.std.proofs.Common.{rules, arith}
use Rattle.text.specs.SpelledLaws.{length_decimal}
use Rattle.text.specs.WrittenLaws.{written_kept}
use Rattle.prune_listing.specs.LinesLaws.{line_written}
use Rattle.prune_listing.proofs.writer.write_front.Goals as goal

pub write_byte-requires : goal.write_byte-requires
write_byte-requires c =
    omega (arith, c.write_decimal.ensures.written.count, c.write_bytes.ensures.written.count, c.new-line.ensures.at, length_decimal c.args.n)

pub returns : goal.returns
returns c =
    let w = line_written c.args.letter c.args.n c.requires c.write_bytes.ensures.written c.write_decimal.ensures.written c.write_byte.ensures.written in
    written_kept _ _ (search rules) (rw (c.new-line.ensures.row, c.new-line.ensures.at, ← c.place.ensures) at w)
