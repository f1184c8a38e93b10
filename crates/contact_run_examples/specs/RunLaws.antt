-- The list of `Calls` has a run, and the claim speaks of it: what its calls answer and leave is computed, they do and tell what the plain run has,
-- and its changes, replayed, hold what the plain run holds. Assumes nothing.
use Rattle.std.specs.Prelude.{ℕ, zero, suc, ◌-◌, ◌*◌, ◌≡◌, refl, Bool, true, false, cond, List, [], map, eqb, pos, Ok, None, Some}
use Rattle.std.proofs.Common.{arith, sym, ap, subst, ◌∙◌}
use Rattle.rules.specs.Graph.{Graph, empty_graph}
use Rattle.rules.specs.Runs.{Provisos, plain_run, plain_graph, held_in}
use Rattle.layout.specs.Collider.{collider_size, colliders_length}
use Rattle.layout.specs.Graph.{graph_length}
use Rattle.collider.specs.Recorded.{collider_at, body_at}
use Rattle.manifold_records.specs.Written.{zeros}
use Rattle.math.specs.Fit.{FitFloat}
use Rattle.contact_range.specs.Recorded.{graph_of}
use Rattle.contact_graph.specs.Calls.{laid_out}
use Rattle.contact_graph.specs.Promises.{LaidOut}
use Rattle.contact_update.specs.After.{inputs_of}
use Rattle.step.specs.Step as step
use Rattle.step.specs.Step.{Rows}
use Rattle.contact_runs.specs.Claim.{plain_of, AsPlain, replay_told}
use Rattle.contact_runs.specs.Runs.{Entry, Outcomes, Promised, Ordered, Run, AllFit}
use Rattle.contact_runs.specs.DemandLaws.{demand3, laid_checked, laid_plain}
use Rattle.contact_run_examples.specs.AnswerLaws.{opened, length_colliders, first_added, first_id, first_words_lem, second_added, second_id, second_words_lem, third_refused, fourth_added, fourth_id, fourth_words, solved_words, touching_accepted, recycling_accepted, repeated_refused, doubling_accepted, parting_accepted, meeting_accepted, leaving_accepted, touching_pass, recycling_pass, doubling_pass, parting_pass, meeting_pass, leaving_pass, touching_report, recycling_report, doubling_report, parting_report, meeting_report, leaving_report}
use Rattle.contact_run_examples.specs.Calls.{three_colliders, colliders, bodies, one_worker, given_as, recycle, resting, anew, together, leaving, rows, request, aside, calls_then, later_then, last, earlier, middle, calls, first, second, solved, rested, doubled, parted, readded, met, calls_seen, later_seen, last_seen}
use Rattle.contact_run_examples.specs.NextLaws.{added_next, unadded_next, stepped_next, unstepped_next, Comes, done, by, run_seen, last_graph, last_plain}
use Rattle.contact_run_examples.specs.PastLaws.{collider_past}
use Rattle.contact_run_examples.specs.Seen.{Seen, seen}
use Rattle.contact_runs.specs.ProvisoLaws.{Solid, AllSolid, AllKeeping, provisos_hold}

-- ---- the list has a run, and so have two lists that it begins with
small : (a b : ℕ) → FitFloat (request a b).speculative_distance
unfolding opened
small a b = refl

calls_fit : (shares : List ℕ) (l : Rows) (es : List Entry) → AllFit es → AllFit (calls_then shares l es)
unfolding AllFit calls_then
calls_fit shares l es f = (small 0 1, (small 1 2, (small 0 2, (tt, (tt, (tt, (tt, (tt, f))))))))

later_fit : (es : List Entry) → AllFit es → AllFit (later_then es)
unfolding AllFit later_then
later_fit es f = (tt, (small 0 2, (tt, f)))

last_fit : AllFit last
unfolding AllFit last
last_fit = (tt, tt)

pub all_fit : (shares : List ℕ) (l : Rows) → AllFit (calls_then shares l (later_then last))
all_fit shares l = calls_fit shares l (later_then last) (later_fit last last_fit)

pub earlier_run : (os : Outcomes earlier) × Run Promised (laid_out 2) earlier os
unfolding AllFit
earlier_run = demand3.runs (laid_out 2) earlier (calls_fit (one_worker 2) rows [] tt)

pub middle_run : (os : Outcomes middle) × Run Promised (laid_out 2) middle os
unfolding AllFit
middle_run = demand3.runs (laid_out 2) middle (calls_fit (one_worker 2) rows (later_then []) (later_fit [] tt))

pub calls_run : (os : Outcomes calls) × Run Promised (laid_out 2) calls os
calls_run = demand3.runs (laid_out 2) calls (all_fit (one_worker 2) rows)

-- it is among those in which each accepted step has an order of its own
pub calls_ordered : Run Ordered (laid_out 2) calls calls_run.0
calls_ordered = demand3.ordered (laid_out 2) calls calls_run.0 calls_run.1

-- ---- what its calls answer, and the graph's words after each
calls_come : (es : List Entry) (ss : List Seen) → Comes doubled es ss → Comes (laid_out 2) (calls_then (one_worker 2) rows es) (calls_seen ss)
unfolding calls_then calls_seen
calls_come es ss r =
    by (added_next (laid_out 2) (request 0 1) 0 first_added first_id first_words_lem)
    (by (added_next first (request 1 2) 1 second_added second_id second_words_lem)
    (by (unadded_next second (request 0 2) 4 third_refused)
    (by (stepped_next (resting 0 (one_worker 2)) second rows touching_accepted touching_pass touching_report)
    (by (refl, solved_words)
    (by (stepped_next (resting aside (one_worker 1)) solved rows recycling_accepted recycling_pass recycling_report)
    (by (unstepped_next (resting 0 (one_worker 2)) rested rows 6 repeated_refused)
    (by (stepped_next (anew 2) rested rows doubling_accepted doubling_pass doubling_report) r)))))))

later_come : (es : List Entry) (ss : List Seen) → Comes met es ss → Comes doubled (later_then es) (later_seen ss)
unfolding later_then later_seen
later_come es ss r =
    by (stepped_next (anew 0) doubled rows parting_accepted parting_pass parting_report)
    (by (added_next parted (request 0 2) 1 fourth_added fourth_id fourth_words)
    (by (stepped_next together readded rows meeting_accepted meeting_pass meeting_report) r))

last_come : Comes met last last_seen
unfolding last last_seen
last_come = by (stepped_next leaving met rows leaving_accepted leaving_pass leaving_report) done

earlier_seen : seen earlier_run.0 ≡ calls_seen []
earlier_seen = run_seen (laid_out 2) earlier earlier_run.0 earlier_run.1 (calls_come [] [] done)

middle_seen : seen middle_run.0 ≡ calls_seen (later_seen [])
middle_seen = run_seen (laid_out 2) middle middle_run.0 middle_run.1 (calls_come (later_then []) (later_seen []) (later_come [] [] done))

pub calls_seen_lem : seen calls_run.0 ≡ calls_seen (later_seen last_seen)
calls_seen_lem = run_seen (laid_out 2) calls calls_run.0 calls_run.1 (calls_come (later_then last) (later_seen last_seen) (later_come last last_seen last_come))

-- ---- they keep to the provisos
module _ (at : ℕ) (away1 away2 : Bool) where
  present : Solid (body_at (bodies at)) (collider_at (colliders away1 away2) 0)
      × Solid (body_at (bodies at)) (collider_at (colliders away1 away2) 1)
      × Solid (body_at (bodies at)) (collider_at (colliders away1 away2) 2)
  unfolding opened
  present = ((refl, refl), (refl, refl), (refl, refl))

  solid : (n : ℕ) → Solid (body_at (bodies at)) (collider_at (colliders away1 away2) n)
  solid zero = present.0
  solid (suc zero) = present.1
  solid (suc (suc zero)) = present.2
  solid (suc (suc (suc n))) =
      subst (Solid (body_at (bodies at)))
      (sym (collider_past (three_colliders away1 away2) (colliders_length - 3 * collider_size) (suc (suc (suc n))) (omega (arith, length_colliders away1 away2)))) tt

  given_solid : (distance manifolds0 manifolds1 : ℕ) (shares : List ℕ) → AllSolid (step.inputs (given_as distance at away1 away2 manifolds0 manifolds1 shares))
  unfolding given_as inputs_of
  given_solid distance manifolds0 manifolds1 shares = solid

resting_solid : (at : ℕ) (shares : List ℕ) → AllSolid (step.inputs (resting at shares))
unfolding resting
resting_solid at shares = given_solid at false true recycle 1 0 shares

anew_solid : (count : ℕ) → AllSolid (step.inputs (anew count))
unfolding anew
anew_solid count = given_solid 0 false true 0 count 0 (one_worker 1)

together_solid : AllSolid (step.inputs together)
unfolding together
together_solid = given_solid 0 false false 0 2 1 (one_worker 2)

leaving_solid : AllSolid (step.inputs leaving)
unfolding leaving
leaving_solid = given_solid 0 true false recycle 2 1 (one_worker 2)

calls_keep : (es : List Entry) → AllKeeping es → AllKeeping (calls_then (one_worker 2) rows es)
unfolding AllKeeping calls_then request
calls_keep es k =
    ((refl, refl), ((refl, refl), ((refl, refl), (resting_solid 0 (one_worker 2), (tt, (resting_solid aside (one_worker 1), (resting_solid 0 (one_worker 2), (anew_solid 2, k))))))))

later_keep : (es : List Entry) → AllKeeping es → AllKeeping (later_then es)
unfolding AllKeeping later_then request
later_keep es k = (anew_solid 0, ((refl, refl), (together_solid, k)))

last_keep : AllKeeping last
unfolding AllKeeping last
last_keep = (leaving_solid, tt)

pub earlier_provisos : Provisos (map plain_of earlier) (empty_graph 2)
unfolding AllKeeping
earlier_provisos = provisos_hold earlier 2 (calls_keep [] tt)

pub middle_provisos : Provisos (map plain_of middle) (empty_graph 2)
unfolding AllKeeping
middle_provisos = provisos_hold middle 2 (calls_keep (later_then []) (later_keep [] tt))

pub calls_provisos : Provisos (map plain_of calls) (empty_graph 2)
calls_provisos = provisos_hold calls 2 (calls_keep (later_then last) (later_keep last last_keep))

-- ---- so the claim speaks of them
pub laid : LaidOut (zeros (graph_length 2)) 2 (laid_out 2) (Ok tt)
unfolding opened
laid = record { answer = refl; graph = refl }

pub calls_plain : AsPlain calls calls_run.0 (plain_run (map plain_of calls) (empty_graph 2))
calls_plain = demand3.plain (zeros (graph_length 2)) 2 (laid_out 2) (Ok tt) calls calls_run.0 laid refl calls_ordered

abbrev Replays : (es : List Entry) → Outcomes es → Type 0
Replays es os = (id : ℕ) → replay_told os (λ _. None) id ≡ held_in (plain_graph (map plain_of es) (empty_graph 2)).pairs id

run_replays : (es : List Entry) (os : Outcomes es) → Run Promised (laid_out 2) es os → Provisos (map plain_of es) (empty_graph 2) → Replays es os
run_replays es os r p = demand3.replay (zeros (graph_length 2)) 2 (laid_out 2) (Ok tt) es os laid refl (demand3.ordered (laid_out 2) es os r) p

pub calls_replay : Replays calls calls_run.0
calls_replay = run_replays calls calls_run.0 calls_run.1 calls_provisos

-- ---- what the replay holds: contact 0 with two manifolds, once it has been counted anew; both contacts, once they have met; and contact 1 alone
run_held : (es : List Entry) (os : Outcomes es) (ss : List Seen) → Run Promised (laid_out 2) es os → seen os ≡ ss → Provisos (map plain_of es) (empty_graph 2) → (id : ℕ)
    → replay_told os (λ _. None) id ≡ held_in (graph_of (last_graph (laid_out 2) ss)).pairs id
run_held es os ss r e p id =
    let before = zeros (graph_length 2) in
    run_replays es os r p id ∙ ap (λ (g : Graph). held_in (plain_graph (map plain_of es) g).pairs id) (sym (laid_plain before 2 (laid_out 2) (Ok tt) laid refl))
    ∙ ap (λ (g : Graph). held_in g.pairs id) (last_plain (laid_out 2) (laid_checked before 2 (laid_out 2) (Ok tt) laid refl) es os r)
    ∙ ap (λ (s : List Seen). held_in (graph_of (last_graph (laid_out 2) s)).pairs id) e

doubled_held : (id : ℕ) → held_in (graph_of (last_graph (laid_out 2) (calls_seen []))).pairs id ≡ cond (eqb 0 id) (Some (pos 2)) None
unfolding opened graph_of held_in last_graph calls_seen
doubled_held id = refl

met_held : (id : ℕ) → held_in (graph_of (last_graph (laid_out 2) (calls_seen (later_seen [])))).pairs id ≡ cond (eqb 0 id) (Some (pos 2)) (cond (eqb 1 id) (Some (pos 1)) None)
unfolding opened graph_of held_in last_graph calls_seen later_seen
met_held id = refl

left_held : (id : ℕ) → held_in (graph_of (last_graph (laid_out 2) (calls_seen (later_seen last_seen)))).pairs id ≡ cond (eqb 1 id) (Some (pos 1)) None
unfolding opened graph_of held_in last_graph calls_seen later_seen last_seen
left_held id = refl

pub earlier_held : (id : ℕ) → replay_told earlier_run.0 (λ _. None) id ≡ cond (eqb 0 id) (Some (pos 2)) None
earlier_held id = run_held earlier earlier_run.0 (calls_seen []) earlier_run.1 earlier_seen earlier_provisos id ∙ doubled_held id

pub middle_held : (id : ℕ) → replay_told middle_run.0 (λ _. None) id ≡ cond (eqb 0 id) (Some (pos 2)) (cond (eqb 1 id) (Some (pos 1)) None)
middle_held id = run_held middle middle_run.0 (calls_seen (later_seen [])) middle_run.1 middle_seen middle_provisos id ∙ met_held id

pub calls_held : (id : ℕ) → replay_told calls_run.0 (λ _. None) id ≡ cond (eqb 1 id) (Some (pos 1)) None
calls_held id = run_held calls calls_run.0 (calls_seen (later_seen last_seen)) calls_run.1 calls_seen_lem calls_provisos id ∙ left_held id
