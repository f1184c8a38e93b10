-- `trace_player::play::play_line` meets its contract. Assumes nothing.
use Rattle.contact_range.specs.RangeStepLaws.{refused_by, passed_by}
use Rattle.trace_player.specs.CallLaws.{lengths_refused, past_end, line_played, fit_lengths}
use Rattle.trace_player.proofs.play.play_line.Goals as goal

pub returns-then-not-lent_fit : goal.returns-then-not-lent_fit
returns-then-not-lent_fit c = lengths_refused _ c.args.player _ (refused_by c.lent_fit.ensures c.if-not-lent_fit.true)

pub returns-then-player-trace : goal.returns-then-player-trace
returns-then-player-trace c = past_end _ c.args.player _ (passed_by c.lent_fit.ensures c.if-not-lent_fit.false) c.if-player-trace.true

pub play_asked-requires : goal.play_asked-requires
play_asked-requires c = fit_lengths _ _ _ _ (passed_by c.lent_fit.ensures c.if-not-lent_fit.false)

pub returns : goal.returns
returns c = line_played _ c.args.player _ _ _ (passed_by c.lent_fit.ensures c.if-not-lent_fit.false) c.if-player-trace.false c.play_asked.ensures
