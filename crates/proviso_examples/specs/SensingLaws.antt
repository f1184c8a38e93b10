-- A touching pair may not turn from generating to not: where a collider becomes a sensor, no stop is written, so the replay still holds
-- the contact. The other proviso holds along the list. Assumes nothing.
use Rattle.std.specs.Prelude.{◌≡◌, refl, List, [], ◌∷◌, map, pos, None, Some}
use Rattle.std.proofs.Common.{ap, ◌∙◌}
use Rattle.rules.specs.Graph.{Graph, empty_graph}
use Rattle.rules.specs.Runs.{After, plain_graph, held_in}
use Rattle.rule_laws.specs.Replayed.{replay_answers}
use Rattle.rules.specs.Status.{plain_step}
use Rattle.contact_graph.specs.Calls.{laid_out}
use Rattle.step.specs.Step.{inputs}
use Rattle.contact_runs.specs.Claim.{plain_of, replay_told}
use Rattle.contact_runs.specs.Runs.{Outcomes, Promised, Run}
use Rattle.contact_runs.specs.Refusals.{plain_add_refusal, plain_step_refusal}
use Rattle.proviso_examples.specs.Alone.{NamesBoth, KeepsGenerating, Alone}
use Rattle.proviso_examples.specs.AloneLaws.{Each}
use Rattle.proviso_examples.specs.Calls.{given, rows, request, sensing}
use Rattle.proviso_examples.specs.CallLaws.{added, touched, opened, touch_run, told_plain, touch_graph, after_added, after_stepped, touch_answers, touch_alone, alone_second_step}

pub sensing_run : (os : Outcomes sensing) × Run Promised (laid_out 1) sensing os
sensing_run = touch_run 1 (given 1 1)

addition_accepted : plain_add_refusal (request 1) (empty_graph 1) ≡ 0
unfolding opened
addition_accepted = refl

second_accepted : plain_step_refusal (given 1 1) rows (touched 1) ≡ 0
unfolding opened
second_accepted = refl

-- ---- the provisos
-- in the second step the contact, which touches and generates, no longer generates
pub second_breaks : Each (KeepsGenerating (inputs (given 1 1))) (touched 1).pairs → ⊥
unfolding opened Each
second_breaks k = k.0 tt tt

pub sensing_breaks : Alone KeepsGenerating (map plain_of sensing) (empty_graph 1) → ⊥
sensing_breaks k = second_breaks (alone_second_step 1 (given 1 1) addition_accepted second_accepted KeepsGenerating k)

first_keeps : Each (NamesBoth (inputs (given 0 1))) (added 1).pairs
unfolding opened Each
first_keeps = ((λ t. (tt, tt)), tt)

second_keeps : Each (NamesBoth (inputs (given 1 1))) (touched 1).pairs
unfolding opened Each
second_keeps = ((λ t. (tt, tt)), tt)

pub sensing_keeps : Alone NamesBoth (map plain_of sensing) (empty_graph 1)
sensing_keeps = touch_alone 1 (given 1 1) addition_accepted second_accepted NamesBoth first_keeps second_keeps

-- ---- the replay and the graph
answers_replayed : replay_answers (after_added 1 ∷ after_stepped (given 0 1) (added 1) ∷ after_stepped (given 1 1) (touched 1) ∷ []) (λ _. None) 0 ≡ Some (pos 1)
unfolding opened
answers_replayed = refl

pub sensing_replayed : (os : Outcomes sensing) → Run Promised (laid_out 1) sensing os → replay_told os (λ _. None) 0 ≡ Some (pos 1)
sensing_replayed os k =
    told_plain sensing os k 0 ∙ ap (λ (as' : List After). replay_answers as' (λ _. None) 0) (touch_answers 1 (given 1 1) addition_accepted second_accepted) ∙ answers_replayed

graph_held : held_in (plain_step (inputs (given 1 1)) (touched 1)).graph.pairs 0 ≡ None
unfolding opened
graph_held = refl

pub sensing_held : held_in (plain_graph (map plain_of sensing) (empty_graph 1)).pairs 0 ≡ None
sensing_held = ap (λ (g : Graph). held_in g.pairs 0) (touch_graph 1 (given 1 1) addition_accepted second_accepted) ∙ graph_held
