-- A generating pair has to name both its bodies: where body 2 is not named, no stop is written when the touch ends, so the replay still holds
-- the contact. The other proviso holds along the list. Assumes nothing.
use Rattle.std.specs.Prelude.{◌≡◌, refl, List, [], ◌∷◌, map, pos, None, Some}
use Rattle.std.proofs.Common.{ap, ◌∙◌}
use Rattle.rules.specs.Graph.{Graph, empty_graph}
use Rattle.rules.specs.Runs.{After, plain_graph, held_in}
use Rattle.rule_laws.specs.Replayed.{replay_answers}
use Rattle.rules.specs.Status.{plain_step}
use Rattle.contact_graph.specs.Calls.{laid_out}
use Rattle.step.specs.Step.{inputs}
use Rattle.contact_runs.specs.Claim.{plain_of, replay_told}
use Rattle.contact_runs.specs.Runs.{Outcomes, Promised, Run}
use Rattle.contact_runs.specs.Refusals.{plain_add_refusal, plain_step_refusal}
use Rattle.proviso_examples.specs.Alone.{NamesBoth, KeepsGenerating, Alone}
use Rattle.proviso_examples.specs.AloneLaws.{Each}
use Rattle.proviso_examples.specs.Calls.{given, rows, request, unnamed}
use Rattle.proviso_examples.specs.CallLaws.{added, touched, opened, touch_run, told_plain, touch_graph, after_added, after_stepped, touch_answers, touch_alone, alone_first_step}

pub unnamed_run : (os : Outcomes unnamed) × Run Promised (laid_out 1) unnamed os
unnamed_run = touch_run 0 (given 0 0)

addition_accepted : plain_add_refusal (request 0) (empty_graph 1) ≡ 0
unfolding opened
addition_accepted = refl

second_accepted : plain_step_refusal (given 0 0) rows (touched 0) ≡ 0
unfolding opened
second_accepted = refl

-- ---- the provisos
-- in the first step the contact generates, with body 2 not named
pub first_breaks : Each (NamesBoth (inputs (given 0 1))) (added 0).pairs → ⊥
unfolding opened Each
first_breaks k = (k.0 tt).1

pub unnamed_breaks : Alone NamesBoth (map plain_of unnamed) (empty_graph 1) → ⊥
unnamed_breaks k = first_breaks (alone_first_step 0 (given 0 0) addition_accepted second_accepted NamesBoth k)

first_keeps : Each (KeepsGenerating (inputs (given 0 1))) (added 0).pairs
unfolding opened Each
first_keeps = ((λ t u. tt), tt)

second_keeps : Each (KeepsGenerating (inputs (given 0 0))) (touched 0).pairs
unfolding opened Each
second_keeps = ((λ t u. tt), tt)

pub unnamed_keeps : Alone KeepsGenerating (map plain_of unnamed) (empty_graph 1)
unnamed_keeps = touch_alone 0 (given 0 0) addition_accepted second_accepted KeepsGenerating first_keeps second_keeps

-- ---- the replay and the graph
answers_replayed : replay_answers (after_added 0 ∷ after_stepped (given 0 1) (added 0) ∷ after_stepped (given 0 0) (touched 0) ∷ []) (λ _. None) 0 ≡ Some (pos 1)
unfolding opened
answers_replayed = refl

pub unnamed_replayed : (os : Outcomes unnamed) → Run Promised (laid_out 1) unnamed os → replay_told os (λ _. None) 0 ≡ Some (pos 1)
unnamed_replayed os k =
    told_plain unnamed os k 0 ∙ ap (λ (as' : List After). replay_answers as' (λ _. None) 0) (touch_answers 0 (given 0 0) addition_accepted second_accepted) ∙ answers_replayed

graph_held : held_in (plain_step (inputs (given 0 0)) (touched 0)).graph.pairs 0 ≡ None
unfolding opened
graph_held = refl

pub unnamed_held : held_in (plain_graph (map plain_of unnamed) (empty_graph 1)).pairs 0 ≡ None
unnamed_held = ap (λ (g : Graph). held_in g.pairs 0) (touch_graph 0 (given 0 0) addition_accepted second_accepted) ∙ graph_held
