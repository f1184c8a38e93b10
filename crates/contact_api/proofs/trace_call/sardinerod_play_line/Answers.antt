-- `contact_api::trace_call::sardinerod_play_line` meets its contract. Assumes nothing.
use Rattle.contact_range.specs.RangeStepLaws.{refused_by, passed_by}
use Rattle.contact_api.specs.TraceCallLaws.{own_lengths, own_refused, line_called, played_for}
use Rattle.contact_api.proofs.trace_call.sardinerod_play_line.Goals as goal

pub returns-then-not-own_rows : goal.returns-then-not-own_rows
returns-then-not-own_rows c = let a = c.args in rw c.number.ensures (own_refused _ a.player.now _ a.answer.now (refused_by c.own_rows.ensures c.if-not-own_rows.true))

pub load_player-requires : goal.load_player-requires
load_player-requires c = let a = c.args in (own_lengths a.player.now a.answer.now (passed_by c.own_rows.ensures c.if-not-own_rows.false)).0

pub tell-requires : goal.tell-requires
tell-requires c = let a = c.args in own_lengths a.player.now a.answer.now (passed_by c.own_rows.ensures c.if-not-own_rows.false)

pub returns : goal.returns
returns c =
    let a = c.args in
    rw c.done_number.ensures
    (line_called _ a.player.now _ a.answer.now _ _ _ _ _ (passed_by c.own_rows.ensures c.if-not-own_rows.false) (played_for c.load_player.ensures c.play_line-r.ensures) c.tell.ensures)
