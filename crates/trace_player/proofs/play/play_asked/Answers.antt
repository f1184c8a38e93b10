-- `trace_player::play::play_asked` meets its contract. Assumes nothing.
use mathlib.Core.Path.{◌∙◌}
use native.Mathlib.Omega.{arith}
use Rattle.trace_player.specs.AskedLaws.{not_go, not_addition}
use Rattle.trace_player.specs.CallLaws.{go_played, addition_played, other_played, request_words_lem}
use Rattle.trace_player.proofs.play.play_asked.Goals.{in-Go, in-Addition, in_default-kind}
use Rattle.trace_player.proofs.play.play_asked.Goals as goal

pub returns : goal.returns
returns c =
    let i = rw c.in-Some.is at c.next_line.ensures in
    let kind = c.in-Some.line.kind in
    elim c.match-line.branch [
      | in-Go w ↦
          rw (w.graph-is, w.settings-is, w.colliders-is, w.bodies-is, w.proposals-is, w.shares-is, w.bits-is, w.events-is, w.changes-is, w.distances-is, w.out-is, w.written-is)
          (go_played _ c.args.player _ _ _ i.line _ _ (rw w.in-Go.is) w.play_go-written.ensures)
      | in-Addition w ↦
          rw (w.graph-is, w.settings-is, w.colliders-is, w.bodies-is, w.proposals-is, w.shares-is, w.bits-is, w.events-is, w.changes-is, w.distances-is, w.out-is, w.written-is)
          (addition_played _ c.args.player _ _ _ i.line _ _ _ _ (rw w.in-Addition.is (λ e. omega (arith, e))) (rw w.in-Addition.is)
          (w.request_words.ensures ∙ request_words_lem _ _ _ _ _ i (rw w.in-Addition.is) (omega arith)) w.play_addition-written.ensures)
      | in_default-kind w ↦
          rw (w.graph-is, w.settings-is, w.colliders-is, w.bodies-is, w.proposals-is, w.shares-is, w.bits-is, w.events-is, w.changes-is, w.distances-is, w.out-is, w.written-is)
          (other_played _ c.args.player _ _ _ i.line (not_go kind w.in_default-kind.not-Go) (not_addition kind w.in_default-kind.not-Addition))
    ]
