-- The calls of `Calls`, computed: the table's numbers, the graph's words after each call and the steps' reports. Assumes nothing.
use Rattle.std.specs.Prelude.{ℕ, ◌-◌, ◌*◌, ◌≡◌, refl, Bool, true, false, List, [], ◌∷◌, pos, length, Some}
use Rattle.std.proofs.Common.{arith}
use Rattle.rules.specs.Limits as limit
use Rattle.rules.specs.Numbers.{every}
use Rattle.rules.specs.Records.{Names}
use Rattle.rules.specs.Status.{Event, started, ended, Change, start, stop, count}
use Rattle.layout.specs.Body.{bodies_length, body_size}
use Rattle.layout.specs.Collider.{collider_size, colliders_length}
use Rattle.collider.specs.Range.{collider_fits, colliders_fit, body_fits, bodies_fit}
use Rattle.contact_graph.specs.Calls.{laid_out, add_refusal, new_id_of, added_words}
use Rattle.status_pass.specs.Pass.{Passing}
use Rattle.update_pass.specs.Shared.{active_of, recycled_of}
use Rattle.step.specs.Step as step
use Rattle.step.specs.Step.{step_refusal, made_of, pass_of, answer_of}
use Rattle.contact_runs.specs.Solver.{write_words}
use Rattle.contact_run_examples.specs.Calls.{three_colliders, colliders, three_bodies, bodies, one_worker, given_as, resting, anew, together, leaving, rows, request, solving, aside, first, second, touched, solved, rested, doubled, parted, readded, met, left, opened_words}
use Rattle.contact_run_examples.specs.NextLaws.{report_by, refusal_if, refusal_by}
use Rattle.contact_run_examples.specs.PastLaws.{every_from, collider_fits_past, body_fits_past}
use Rattle.contact_run_examples.specs.Opened.{opened_steps}

-- all that the following is computed by
unfoldable pub opened : ℕ
unfolding opened_steps opened_words
opened = 0

-- ---- additions: the third finds the graph full, and later id 1 is given again
pub first_added : add_refusal (laid_out 2) (request 0 1) ≡ 0
unfolding opened
first_added = refl

pub first_id : new_id_of (laid_out 2) ≡ 0
unfolding opened
first_id = refl

pub first_words_lem : added_words (laid_out 2) (request 0 1) ≡ first
unfolding opened
first_words_lem = refl

pub second_added : add_refusal first (request 1 2) ≡ 0
unfolding opened
second_added = refl

pub second_id : new_id_of first ≡ 1
unfolding opened
second_id = refl

pub second_words_lem : added_words first (request 1 2) ≡ second
unfolding opened
second_words_lem = refl

pub third_refused : add_refusal second (request 0 2) ≡ 5
unfolding opened
third_refused = refl

pub fourth_added : add_refusal parted (request 0 2) ≡ 0
unfolding opened
fourth_added = refl

pub fourth_id : new_id_of parted ≡ 1
unfolding opened
fourth_id = refl

pub fourth_words : added_words parted (request 0 2) ≡ readded
unfolding opened
fourth_words = refl

-- ---- a solver's writes
pub solved_words : write_words touched solving ≡ solved
unfolding opened
solved_words = refl

-- ---- the steps' numbers: the first one's shares list contact 1, which then stands no more
pub length_colliders : (away1 away2 : Bool) → length (three_colliders away1 away2) ≡ 3 * collider_size
unfolding opened
length_colliders away1 away2 = refl

length_bodies : (at : ℕ) → length (three_bodies at) ≡ 3 * body_size
unfolding opened
length_bodies at = refl

three_colliders_lem : (away1 away2 : Bool) → every (λ n. collider_fits (colliders away1 away2) (n * collider_size)) 3 ≡ true
unfolding opened
three_colliders_lem away1 away2 = refl

three_bodies_lem : (at : ℕ) → every (λ n. body_fits (bodies at) (n * body_size)) 3 ≡ true
unfolding opened
three_bodies_lem at = refl

colliders_fit_lem : (away1 away2 : Bool) → colliders_fit (colliders away1 away2) ≡ true
unfolding colliders_fit
colliders_fit_lem away1 away2 =
    every_from (λ n. collider_fits (colliders away1 away2) (n * collider_size)) 3 (three_colliders_lem away1 away2)
    (λ n l. collider_fits_past (three_colliders away1 away2) (colliders_length - 3 * collider_size) (n * collider_size) (omega (arith, length_colliders away1 away2))) limit.colliders

bodies_fit_lem : (at : ℕ) → bodies_fit (bodies at) ≡ true
unfolding bodies_fit
bodies_fit_lem at =
    every_from (λ n. body_fits (bodies at) (n * body_size)) 3 (three_bodies_lem at)
    (λ n l. body_fits_past (three_bodies at) (bodies_length - 3 * body_size) (n * body_size) (omega (arith, length_bodies at))) limit.bodies

touching_number : refusal_if (resting 0 (one_worker 2)) second rows true true ≡ 0
unfolding opened
touching_number = refl

recycling_number : refusal_if (resting aside (one_worker 1)) solved rows true true ≡ 0
unfolding opened
recycling_number = refl

repeated_number : refusal_if (resting 0 (one_worker 2)) rested rows true true ≡ 7
unfolding opened
repeated_number = refl

doubling_number : refusal_if (anew 2) rested rows true true ≡ 0
unfolding opened
doubling_number = refl

parting_number : refusal_if (anew 0) doubled rows true true ≡ 0
unfolding opened
parting_number = refl

meeting_number : refusal_if together readded rows true true ≡ 0
unfolding opened
meeting_number = refl

leaving_number : refusal_if leaving met rows true true ≡ 0
unfolding opened
leaving_number = refl

pub touching_accepted : step_refusal (resting 0 (one_worker 2)) second rows ≡ 0
unfolding resting given_as
touching_accepted = refusal_by (resting 0 (one_worker 2)) second rows 0 (colliders_fit_lem false true) (bodies_fit_lem 0) touching_number

pub recycling_accepted : step_refusal (resting aside (one_worker 1)) solved rows ≡ 0
unfolding resting given_as
recycling_accepted = refusal_by (resting aside (one_worker 1)) solved rows 0 (colliders_fit_lem false true) (bodies_fit_lem aside) recycling_number

pub repeated_refused : step_refusal (resting 0 (one_worker 2)) rested rows ≡ 7
unfolding resting given_as
repeated_refused = refusal_by (resting 0 (one_worker 2)) rested rows 7 (colliders_fit_lem false true) (bodies_fit_lem 0) repeated_number

pub doubling_accepted : step_refusal (anew 2) rested rows ≡ 0
unfolding anew given_as
doubling_accepted = refusal_by (anew 2) rested rows 0 (colliders_fit_lem false true) (bodies_fit_lem 0) doubling_number

pub parting_accepted : step_refusal (anew 0) doubled rows ≡ 0
unfolding anew given_as
parting_accepted = refusal_by (anew 0) doubled rows 0 (colliders_fit_lem false true) (bodies_fit_lem 0) parting_number

pub meeting_accepted : step_refusal together readded rows ≡ 0
unfolding together given_as
meeting_accepted = refusal_by together readded rows 0 (colliders_fit_lem false false) (bodies_fit_lem 0) meeting_number

pub leaving_accepted : step_refusal leaving met rows ≡ 0
unfolding leaving given_as
leaving_accepted = refusal_by leaving met rows 0 (colliders_fit_lem true false) (bodies_fit_lem 0) leaving_number

-- ---- their passes: the graph's words, the events and the changes
abbrev names_of : ℕ → ℕ → ℕ → Names
names_of id a b = record { id = id; collider1 = a; collider2 = b; body1 = Some a; body2 = Some b }

abbrev passing : List ℕ → List Event → List Change → Passing
passing g es cs = record { graph = g; events = es; changes = cs }

pub touching_pass : pass_of (resting 0 (one_worker 2)) second ≡ passing touched (started (names_of 0 0 1) ∷ []) (start 0 ∷ [])
unfolding opened
touching_pass = refl

pub recycling_pass : pass_of (resting aside (one_worker 1)) solved ≡ passing rested [] []
unfolding opened
recycling_pass = refl

pub doubling_pass : pass_of (anew 2) rested ≡ passing doubled [] (count 0 0 1 (pos 1) ∷ [])
unfolding opened
doubling_pass = refl

pub parting_pass : pass_of (anew 0) doubled ≡ passing parted (ended (names_of 0 0 1) ∷ []) (stop 0 0 1 ∷ [])
unfolding opened
parting_pass = refl

pub meeting_pass : pass_of together readded ≡ passing met (started (names_of 0 0 1) ∷ started (names_of 1 0 2) ∷ []) (start 0 ∷ start 1 ∷ [])
unfolding opened
meeting_pass = refl

pub leaving_pass : pass_of leaving met ≡ passing left (ended (names_of 0 0 1) ∷ []) (stop 0 0 1 ∷ [])
unfolding opened
leaving_pass = refl

-- ---- their reports: events, changes, recycled contacts
touching_recycled : recycled_of (made_of (resting 0 (one_worker 2)) second) (active_of second) ≡ 0
unfolding opened
touching_recycled = refl

recycling_recycled : recycled_of (made_of (resting aside (one_worker 1)) solved) (active_of solved) ≡ 1
unfolding opened
recycling_recycled = refl

doubling_recycled : recycled_of (made_of (anew 2) rested) (active_of rested) ≡ 0
unfolding opened
doubling_recycled = refl

parting_recycled : recycled_of (made_of (anew 0) doubled) (active_of doubled) ≡ 0
unfolding opened
parting_recycled = refl

meeting_recycled : recycled_of (made_of together readded) (active_of readded) ≡ 0
unfolding opened
meeting_recycled = refl

leaving_recycled : recycled_of (made_of leaving met) (active_of met) ≡ 1
unfolding opened
leaving_recycled = refl

pub touching_report : answer_of (resting 0 (one_worker 2)) second ≡ step.stepped 1 1 0
touching_report = report_by (resting 0 (one_worker 2)) second rows (passing touched (started (names_of 0 0 1) ∷ []) (start 0 ∷ [])) 0 touching_pass touching_recycled

pub recycling_report : answer_of (resting aside (one_worker 1)) solved ≡ step.stepped 0 0 1
recycling_report = report_by (resting aside (one_worker 1)) solved rows (passing rested [] []) 1 recycling_pass recycling_recycled

pub doubling_report : answer_of (anew 2) rested ≡ step.stepped 0 1 0
doubling_report = report_by (anew 2) rested rows (passing doubled [] (count 0 0 1 (pos 1) ∷ [])) 0 doubling_pass doubling_recycled

pub parting_report : answer_of (anew 0) doubled ≡ step.stepped 1 1 0
parting_report = report_by (anew 0) doubled rows (passing parted (ended (names_of 0 0 1) ∷ []) (stop 0 0 1 ∷ [])) 0 parting_pass parting_recycled

pub meeting_report : answer_of together readded ≡ step.stepped 2 2 0
meeting_report =
    report_by together readded rows (passing met (started (names_of 0 0 1) ∷ started (names_of 1 0 2) ∷ []) (start 0 ∷ start 1 ∷ [])) 0 meeting_pass meeting_recycled

pub leaving_report : answer_of leaving met ≡ step.stepped 1 1 1
leaving_report = report_by leaving met rows (passing left (ended (names_of 0 0 1) ∷ []) (stop 0 0 1 ∷ [])) 1 leaving_pass leaving_recycled
