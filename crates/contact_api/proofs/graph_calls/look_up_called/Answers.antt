-- `contact_api::graph_calls::look_up_called` meets its contract. Assumes nothing.
use Rattle.std.proofs.Common.{refl, rules}
use Rattle.std.proofs.lemmas.Result.{err_from_is_err_and}
use Rattle.contact_api.specs.CallLaws.{look_up_answer_long, look_up_found, look_up_refused}
use Rattle.contact_api.proofs.graph_calls.look_up_called.Goals as goal

pub returns-then-answer-ne-LOOK_UP_ANSWER_LENGTH : goal.returns-then-answer-ne-LOOK_UP_ANSWER_LENGTH
returns-then-answer-ne-LOOK_UP_ANSWER_LENGTH c = look_up_answer_long _ _ _ c.if-answer-ne-LOOK_UP_ANSWER_LENGTH.true

pub returns : goal.returns
returns c = look_up_found _ _ _ c.if-answer-ne-LOOK_UP_ANSWER_LENGTH.false _ c.in_ok-edge.ensures _ _ _ refl c.edge_words-words.ensures (search rules) c.store_words.ensures

pub returns-in_err-edge : goal.returns-in_err-edge
returns-in_err-edge c =
    let p = err_from_is_err_and c.from_residual.result c.from_residual.ensures.1 in
    rw (p.1, p.2) (look_up_refused _ _ _ c.if-answer-ne-LOOK_UP_ANSWER_LENGTH.false _ c.in_err-edge.ensures _ _ refl refl)
