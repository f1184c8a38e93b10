-- `contact_api::step_call::step_called` meets its contract. Assumes nothing.
use Rattle.std.proofs.Common.{refl}
use Rattle.std.proofs.lemmas.Result.{err_from_is_err_and}
use Rattle.contact_api.specs.CallLaws.{step_answer_long, step_done, step_refused}
use Rattle.contact_api.proofs.step_call.step_called.Goals as goal

pub returns-then-answer-ne-STEP_ANSWER_LENGTH : goal.returns-then-answer-ne-STEP_ANSWER_LENGTH
returns-then-answer-ne-STEP_ANSWER_LENGTH c = step_answer_long _ _ _ _ c.if-answer-ne-STEP_ANSWER_LENGTH.true

pub returns : goal.returns
returns c = step_done _ _ _ _ c.if-answer-ne-STEP_ANSWER_LENGTH.false _ _ _ c.in_ok-report.ensures _ _ refl c.store_words.ensures

pub returns-in_err-report : goal.returns-in_err-report
returns-in_err-report c =
    let p = err_from_is_err_and c.from_residual.result c.from_residual.ensures.1 in
    rw (p.1, p.2) (step_refused _ _ _ _ c.if-answer-ne-STEP_ANSWER_LENGTH.false _ _ _ c.in_err-report.ensures _ _ refl refl)
