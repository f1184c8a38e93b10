-- `contact_api::graph_calls::add_called` meets its contract. Assumes nothing.
use Rattle.std.proofs.Common.{refl}
use Rattle.std.proofs.lemmas.Result.{err_from_is_err_and}
use Rattle.contact_api.specs.CallLaws.{add_request_long, add_answer_long, add_done, add_refused}
use Rattle.contact_api.proofs.graph_calls.add_called.Goals as goal

pub returns-then-request-ne-REQUEST_LENGTH : goal.returns-then-request-ne-REQUEST_LENGTH
returns-then-request-ne-REQUEST_LENGTH c = add_request_long _ _ _ c.if-request-ne-REQUEST_LENGTH.true

pub returns-then-answer-ne-ADD_ANSWER_LENGTH : goal.returns-then-answer-ne-ADD_ANSWER_LENGTH
returns-then-answer-ne-ADD_ANSWER_LENGTH c = add_answer_long _ _ _ c.if-request-ne-REQUEST_LENGTH.false c.if-answer-ne-ADD_ANSWER_LENGTH.true

pub returns : goal.returns
returns c = add_done _ _ _ c.if-request-ne-REQUEST_LENGTH.false c.if-answer-ne-ADD_ANSWER_LENGTH.false _ c.load_request-a.ensures _ _ c.in_ok-id.ensures _ _ refl c.store.ensures

pub returns-in_err-id : goal.returns-in_err-id
returns-in_err-id c =
    let p = err_from_is_err_and c.from_residual.result c.from_residual.ensures.1 in
    rw (p.1, p.2) (add_refused _ _ _ c.if-request-ne-REQUEST_LENGTH.false c.if-answer-ne-ADD_ANSWER_LENGTH.false _ c.load_request-a.ensures _ _ c.in_err-id.ensures _ _ refl refl)
