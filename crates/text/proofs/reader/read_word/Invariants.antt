-- What the loop of `text::reader::read_word` keeps.
use Rattle.text.proofs.WordLaws.{WordTo}
use Rattle.text.proofs.reader.read_word.Given as goal

abbrev pub invariant-loop-b : goal.invariant-loop-b
invariant-loop-b l = WordTo l.text l.at l.b-index l.value
