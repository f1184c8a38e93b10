-- `contact_api::prune_call::prune_called` meets its contract. Assumes nothing.
use Rattle.std.proofs.Common.{refl}
use Rattle.std.proofs.lemmas.Result.{err_from_is_err_and}
use Rattle.contact_api.specs.CallLaws.{prune_normal_long, prune_answer_long, prune_kept, prune_refused}
use Rattle.contact_api.proofs.prune_call.prune_called.Goals as goal

pub returns-then-normal-ne-PRUNE_NORMAL_LENGTH : goal.returns-then-normal-ne-PRUNE_NORMAL_LENGTH
returns-then-normal-ne-PRUNE_NORMAL_LENGTH c = prune_normal_long _ _ _ _ c.if-normal-ne-PRUNE_NORMAL_LENGTH.true

pub returns-then-answer-ne-PRUNE_ANSWER_LENGTH : goal.returns-then-answer-ne-PRUNE_ANSWER_LENGTH
returns-then-answer-ne-PRUNE_ANSWER_LENGTH c = prune_answer_long _ _ _ _ c.if-normal-ne-PRUNE_NORMAL_LENGTH.false c.if-answer-ne-PRUNE_ANSWER_LENGTH.true

pub returns : goal.returns
returns c =
    prune_kept _ _ _ _ c.if-normal-ne-PRUNE_NORMAL_LENGTH.false c.if-answer-ne-PRUNE_ANSWER_LENGTH.false _ c.load-n.ensures _ c.in_ok-kept.ensures _ _ refl c.store_words.ensures

pub returns-in_err-kept : goal.returns-in_err-kept
returns-in_err-kept c =
    let p = err_from_is_err_and c.from_residual.result c.from_residual.ensures.1 in
    rw (p.1, p.2) (prune_refused _ _ _ _ c.if-normal-ne-PRUNE_NORMAL_LENGTH.false c.if-answer-ne-PRUNE_ANSWER_LENGTH.false _ c.load-n.ensures _ c.in_err-kept.ensures _ _ refl refl)
