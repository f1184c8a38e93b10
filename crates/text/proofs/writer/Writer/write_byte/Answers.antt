-- `text::writer::Writer::write_byte` meets its contract. Assumes nothing.
use mathlib.Core.Path.{refl, sym}
use borrow.Author.Rules.{rules}
use lib.Seq.{set_out}
use Rattle.rows.specs.Rows.{put}
use Rattle.text.proofs.writer.Writer.write_byte.Goals as goal
use Rattle.text.proofs.writer.Writer.write_byte.Goals.{then-self, else-self}

pub returns-clause-written : goal.returns-clause-written
unfolding put
returns-clause-written c = elim c.if-self.branch [
  | then-self w ↦ rw w.self-is (record { count = refl; stored = refl })
  | else-self w ↦ rw w.self-is (record { count = refl; stored = sym (set_out _ _ _ (search rules)) })
]
