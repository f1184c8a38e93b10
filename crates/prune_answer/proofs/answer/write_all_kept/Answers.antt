-- `prune_answer::answer::write_all_kept` meets its contract. Assumes nothing.
use Rattle.std.proofs.Common.{rules}
use Rattle.prune_answer.specs.WriteLaws.{lines_next}
use Rattle.prune_answer.proofs.answer.write_all_kept.Goals as goal

pub loop-n-preserved : goal.loop-n-preserved
loop-n-preserved c = lines_next _ c.args.numbers.now _ _ _ c.loop-n.invariant (search rules) c.write_kept-at.ensures
