-- What the loop of `text::writer::spell` keeps, and how far there is still to go.
use Rattle.text.specs.SpelledLaws.{Spelling}
use Rattle.text.proofs.writer.spell.Given as goal

abbrev pub invariant-loop-rest : goal.invariant-loop-rest
invariant-loop-rest l = Spelling l.n l.row l.i l.rest

abbrev pub decreases-loop-rest : goal.decreases-loop-rest
decreases-loop-rest l = l.rest
