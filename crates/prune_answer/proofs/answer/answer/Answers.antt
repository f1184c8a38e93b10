-- `prune_answer::answer::answer` meets its contract. Assumes nothing.
use Rattle.std.specs.Prelude.{Err, Ok}
use Rattle.std.proofs.Common.{rules}
use Rattle.prune_listing.specs.Listing.{listing}
use Rattle.prune_answer.proofs.CallLaws.{answered, kept_small}
use Rattle.prune_answer.proofs.answer.answer.Goals as goal

pub write_all_kept-requires-clause-small : goal.write_all_kept-requires-clause-small
write_all_kept-requires-clause-small c = kept_small (listing c.args.text.now) _ c.in-Ok.ensures.answer

pub returns-in-Ok : goal.returns-in-Ok
returns-in-Ok c = answered _ c.args.out.now (Ok c.in-Ok.kept) (search rules) c.in-Ok.ensures.answer c.write_all_kept.ensures

pub returns-in-Err : goal.returns-in-Err
returns-in-Err c = answered _ c.args.out.now (Err c.in-Err.refusal) (search rules) c.in-Err.ensures.answer (rw c.number.ensures at c.write_refused.ensures)
