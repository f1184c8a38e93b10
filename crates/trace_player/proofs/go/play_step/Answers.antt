-- `trace_player::go::play_step` meets its contract. Assumes nothing.
use Rattle.trace_player.specs.PlayLaws.{step_room, step_made}
use Rattle.trace_player.proofs.go.play_step.Goals as goal

pub print_answer-requires : goal.print_answer-requires
print_answer-requires c = step_room _ _ _ _ _ _ c.step-answer.ensures

pub returns : goal.returns
returns c = step_made _ _ _ _ _ _ _ _ _ c.step-answer.ensures c.print_answer.ensures
