-- What the loop of `text::reader::read_decimal` keeps: the digits up to the place are read, and make the value.
use Rattle.std.specs.Prelude.{◌≡◌}
use Rattle.text.specs.Answers.{ended_at}
use Rattle.text.specs.NumberLaws.{NumberTo}
use Rattle.text.proofs.reader.read_decimal.Given as goal

abbrev pub invariant-loop-i : goal.invariant-loop-i
invariant-loop-i l = NumberTo l.text l.at l.i l.value × (l.number ≡ ended_at l.at l.i l.value)
