-- `prune_answer::answer::prune_text` meets its contract. Assumes nothing.
use Rattle.prune_answer.proofs.CallLaws.{unreadable_refused}
use Rattle.prune_answer.proofs.answer.prune_text.Goals as goal

pub returns-in_err-header-clause-answer : goal.returns-in_err-header-clause-answer
returns-in_err-header-clause-answer c =
    let e = c.in_err-header.ensures in
    unreadable_refused c.args.text.now c.in_err-header.field-0.0 c.from_residual.result c.read_listing.ensures e.ok_part e.value c.from_residual.ensures.1
