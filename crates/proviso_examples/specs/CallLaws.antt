-- Both lists have a run, and what the calls of any run have written, replayed, is what the answers of the plain run give.
-- In the plain run no call is refused, so it is known by the graphs before its steps. Assumes nothing.
use Rattle.std.specs.Prelude.{ℕ, ◌≡◌, refl, List, [], ◌∷◌, map, Ok, None}
use Rattle.std.proofs.Math.Path.{ap}
use Rattle.std.proofs.Common.{◌∙◌}
use Rattle.rules.specs.Graph.{Graph, empty_graph, new_id, plain_add, pair_index}
use Rattle.rules.specs.Runs as rules
use Rattle.rules.specs.Runs.{unless_refused, plain_call, plain_run, plain_graph, Held, manifolds_of, replay_one, replay, held_in}
use Rattle.rule_laws.specs.Replayed.{replay_answer, replay_answers}
use Rattle.rules.specs.Status.{visit_at, visit_found, visit, visit_all, bit_of, standing_bits, plain_step}
use Rattle.manifold_records.specs.Written.{zeros}
use Rattle.math.specs.Fit.{FitFloat}
use Rattle.contact_graph.specs.Calls.{addition_of, laid_out}
use Rattle.contact_graph.specs.Promises.{LaidOut}
use Rattle.step.specs.Step.{Given, inputs}
use Rattle.contact_runs.specs.Claim.{plain_of, replay_told}
use Rattle.contact_runs.specs.Runs.{Entry, addition, stepping, Outcomes, Promised, Run, AllFit}
use Rattle.contact_runs.specs.DemandLaws.{laid_checked, laid_plain}
use Rattle.contact_runs.specs.OnlyLaws.{run_of}
use Rattle.contact_runs.specs.Refusals.{all_pairs, some_pair, plain_add_refusal, plain_hooks_fit, plain_proposals_fit, plain_shares_fit, plain_step_refusal}
use Rattle.contact_runs.specs.ReplayLaws.{run_replays}
use Rattle.proviso_examples.specs.Alone.{Proviso, Alone}
use Rattle.proviso_examples.specs.AloneLaws.{Each, step_alone, alone_step, alone_then, alone_rest, alone_first}
use Rattle.proviso_examples.specs.Calls.{collider_words, colliders, body_words, bodies, settings, proposals, given, rows, request, touch_then}
use Rattle.contact_run_examples.specs.Opened.{opened_floats, opened_vectors, opened_filtering, opened_matching, opened_recycling, opened_update, opened_colliders, opened_proposals, opened_records, opened_calls, opened_range, opened_updates, opened_pass, opened_step}

-- ---- the plain graph after the addition, and after the first step
unfoldable pub added : ℕ → Graph
added named = plain_add (addition_of (request named)) (empty_graph 1)

unfoldable pub touched : ℕ → Graph
touched named = (plain_step (inputs (given 0 1)) (added named)).graph

-- ---- all that the lists are computed by
unfoldable opened_rules : ℕ
unfolding opened_floats opened_vectors opened_filtering opened_matching opened_recycling opened_update opened_colliders opened_proposals
opened_rules = 0

unfoldable opened_words : ℕ
unfolding opened_records opened_calls opened_range opened_updates opened_pass opened_step
opened_words = 0

-- the plain run, and the replay
unfoldable opened_plain : ℕ
unfolding new_id plain_add pair_index visit_at visit_found visit visit_all bit_of standing_bits plain_step all_pairs some_pair plain_add_refusal plain_hooks_fit plain_proposals_fit plain_shares_fit plain_step_refusal plain_call plain_run plain_graph manifolds_of replay_one replay replay_answer replay_answers held_in
opened_plain = 0

unfoldable pub opened : ℕ
unfolding opened_rules opened_words opened_plain collider_words colliders body_words bodies settings proposals given rows request added touched
opened = 0

-- ---- a newly laid out graph of capacity 1
pub laid : LaidOut (zeros 529) 1 (laid_out 1) (Ok tt)
unfolding opened
laid = record { answer = refl; graph = refl }

-- ---- a run
small : (named : ℕ) → FitFloat (request named).speculative_distance
unfolding opened
small named = refl

pub touch_run : (named : ℕ) (x : Given) → (os : Outcomes (touch_then named x)) × Run Promised (laid_out 1) (touch_then named x) os
unfolding AllFit
touch_run named x = run_of (laid_out 1) (touch_then named x) (small named, (tt, (tt, tt)))

-- ---- the replay of any run
pub told_plain : (es : List Entry) (os : Outcomes es) → Run Promised (laid_out 1) es os → (id : ℕ)
    → replay_told os (λ _. None) id ≡ replay_answers (plain_run (map plain_of es) (empty_graph 1)) (λ _. None) id
told_plain es os k id =
    ap (λ (h : Held). h id) (run_replays (laid_out 1) (laid_checked (zeros 529) 1 (laid_out 1) (Ok tt) laid refl) es os k (λ _. None))
    ∙ ap (λ (g : Graph). replay_answers (plain_run (map plain_of es) g) (λ _. None) id) (laid_plain (zeros 529) 1 (laid_out 1) (Ok tt) laid refl)

-- ---- the plain run, where no call is refused
-- no refusal asks for the bodies that a contact names
first_accepted : (named : ℕ) → plain_step_refusal (given 0 1) rows (added named) ≡ 0
unfolding opened
first_accepted named = refl

abbrev pub after_added : ℕ → rules.After
after_added named = record { graph = added named; answer = rules.added (new_id (empty_graph 1)) }

abbrev pub after_stepped : Given → Graph → rules.After
after_stepped x g = record { graph = (plain_step (inputs x) g).graph; answer = rules.stepped (plain_step (inputs x) g) }

stepped_call : (x : Given) (g : Graph) → plain_step_refusal x rows g ≡ 0 → plain_call (plain_of (stepping x rows)) g ≡ after_stepped x g
unfolding plain_call
stepped_call x g e = ap (λ (n : ℕ). unless_refused n g (after_stepped x g)) e

module _ (named : ℕ) (x : Given) (a : plain_add_refusal (request named) (empty_graph 1) ≡ 0) (s : plain_step_refusal x rows (touched named) ≡ 0) where
  added_call : plain_call (plain_of (addition (request named))) (empty_graph 1) ≡ after_added named
  unfolding plain_call added
  added_call = ap (λ (n : ℕ). unless_refused n (empty_graph 1) (after_added named)) a

  added_graph : (plain_call (plain_of (addition (request named))) (empty_graph 1)).graph ≡ added named
  added_graph = ap (λ (c : rules.After). c.graph) added_call

  touched_call : plain_call (plain_of (stepping (given 0 1) rows)) (added named) ≡ after_stepped (given 0 1) (added named)
  touched_call = stepped_call (given 0 1) (added named) (first_accepted named)

  touched_graph : (plain_call (plain_of (stepping (given 0 1) rows)) (added named)).graph ≡ touched named
  unfolding touched
  touched_graph = ap (λ (c : rules.After). c.graph) touched_call

  pub touch_graph : plain_graph (map plain_of (touch_then named x)) (empty_graph 1) ≡ (plain_step (inputs x) (touched named)).graph
  unfolding plain_graph
  touch_graph =
      ap (plain_graph (map plain_of (stepping (given 0 1) rows ∷ stepping x rows ∷ []))) added_graph
      ∙ ap (plain_graph (map plain_of (stepping x rows ∷ []))) touched_graph
      ∙ ap (λ (c : rules.After). c.graph) (stepped_call x (touched named) s)

  pub touch_answers : plain_run (map plain_of (touch_then named x)) (empty_graph 1) ≡ after_added named ∷ after_stepped (given 0 1) (added named) ∷ after_stepped x (touched named) ∷ []
  unfolding plain_run touched
  touch_answers =
      ap (λ (c : rules.After). c ∷ plain_run (map plain_of (stepping (given 0 1) rows ∷ stepping x rows ∷ [])) c.graph) added_call
      ∙ ap (λ (c : rules.After). after_added named ∷ c ∷ plain_run (map plain_of (stepping x rows ∷ [])) c.graph) touched_call
      ∙ ap (λ (c : rules.After). after_added named ∷ after_stepped (given 0 1) (added named) ∷ c ∷ []) (stepped_call x (touched named) s)

  -- ---- a proviso along the list, by the pairs of the graph before each step
  module _ (P : Proviso) where
    pub touch_alone : Each (P (inputs (given 0 1))) (added named).pairs → Each (P (inputs x)) (touched named).pairs → Alone P (map plain_of (touch_then named x)) (empty_graph 1)
    unfolding Alone
    touch_alone k l =
        alone_then P (plain_of (addition (request named))) (map plain_of (stepping (given 0 1) rows ∷ stepping x rows ∷ [])) (empty_graph 1) (added named) added_graph tt
        (alone_then P (plain_of (stepping (given 0 1) rows)) (map plain_of (stepping x rows ∷ [])) (added named) (touched named) touched_graph
        (step_alone P (plain_step_refusal (given 0 1) rows) (inputs (given 0 1)) (added named) k)
        (step_alone P (plain_step_refusal x rows) (inputs x) (touched named) l, tt))

    alone_touched : Alone P (map plain_of (touch_then named x)) (empty_graph 1) → Alone P (map plain_of (stepping (given 0 1) rows ∷ stepping x rows ∷ [])) (added named)
    alone_touched k = alone_rest P (plain_of (addition (request named))) _ (empty_graph 1) (added named) added_graph k

    pub alone_first_step : Alone P (map plain_of (touch_then named x)) (empty_graph 1) → Each (P (inputs (given 0 1))) (added named).pairs
    alone_first_step k =
        alone_step P (plain_step_refusal (given 0 1) rows) (inputs (given 0 1)) (added named) (first_accepted named)
        (alone_first P (plain_of (stepping (given 0 1) rows)) (map plain_of (stepping x rows ∷ [])) (added named) (alone_touched k))

    pub alone_second_step : Alone P (map plain_of (touch_then named x)) (empty_graph 1) → Each (P (inputs x)) (touched named).pairs
    alone_second_step k =
        alone_step P (plain_step_refusal x rows) (inputs x) (touched named) s
        (alone_first P (plain_of (stepping x rows)) [] (touched named)
        (alone_rest P (plain_of (stepping (given 0 1) rows)) (map plain_of (stepping x rows ∷ [])) (added named) (touched named) touched_graph (alone_touched k)))
