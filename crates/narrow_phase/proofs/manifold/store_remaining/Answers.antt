-- `narrow_phase::manifold::store_remaining` meets its contract. Assumes nothing.
use mathlib.Core.Path.{ap}
use Rattle.std.specs.Prelude.{not}
use Rattle.proposals.specs.Recorded.{hook_at}
use Rattle.narrow_phase.specs.StoringLaws.{hook_no, hook_unmarked, hook_yes}
use Rattle.narrow_phase.proofs.manifold.store_remaining.Goals as goal
use Rattle.narrow_phase.proofs.manifold.store_remaining.Goals.{else-modify-via-then-modify+else-not-answer, else-modify-via-else-modify}

pub returns-then-not-answer : goal.returns-then-not-answer
unfolding hook_at
returns-then-not-answer c = hook_no _ _ _ _ _ _ _ _ c.load-answer.ensures c.if-modify.true (ap not c.if-not-answer.true)

pub returns : goal.returns
unfolding hook_at
returns c =
    elim c.else-modify.branch [
      | else-modify-via-then-modify+else-not-answer z ↦ hook_yes _ _ _ _ _ _ _ _ c.load-answer.ensures c.store_new.ensures z.if-modify.true (ap not z.if-not-answer.false)
      | else-modify-via-else-modify z ↦ hook_unmarked _ _ _ _ _ _ _ _ c.load-answer.ensures c.store_new.ensures z.if-modify.false
    ]
