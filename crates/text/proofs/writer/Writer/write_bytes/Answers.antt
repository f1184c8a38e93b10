-- `text::writer::Writer::write_bytes` meets its contract. Assumes nothing.
use Rattle.std.proofs.Common.{rules, refl}
use Rattle.text.specs.WrittenLaws.{writing_none, writing_next}
use Rattle.text.proofs.writer.Writer.write_bytes.Goals as goal

pub loop-b-init : goal.loop-b-init
loop-b-init c = (refl, writing_none _ _ _)

pub loop-b-preserved : goal.loop-b-preserved
loop-b-preserved c = (search rules, writing_next _ _ _ c.loop-b.self.row.now _ c.loop-b.self.at c.loop-b.b-index _ c.loop-b.invariant.1 (search rules) c.write_byte.ensures.written)
