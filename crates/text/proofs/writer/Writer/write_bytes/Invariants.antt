-- What the loop of `text::writer::Writer::write_bytes` keeps: the first bytes are written, into the same row.
use Rattle.std.proofs.Common.{◌≡◌}
use Rattle.text.specs.WrittenLaws.{Writing}
use Rattle.text.proofs.writer.Writer.write_bytes.Given as goal

abbrev pub invariant-loop-b : goal.invariant-loop-b
invariant-loop-b l = (l.self.row.ghost_name ≡ l.initial.self.row.ghost_name) × Writing l.initial.self.row.now l.initial.self.at l.bytes l.self.row.now l.self.at l.b-index
