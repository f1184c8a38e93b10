-- What the loop of `prune_answer::answer::write_all_kept` keeps: the lines of so many numbers are written.
use Rattle.prune_answer.specs.WriteLaws.{LinesTo}
use Rattle.prune_answer.proofs.answer.write_all_kept.Given as goal

abbrev pub invariant-loop-n : goal.invariant-loop-n
invariant-loop-n l = LinesTo l.initial.out l.numbers l.out l.at l.n-index
