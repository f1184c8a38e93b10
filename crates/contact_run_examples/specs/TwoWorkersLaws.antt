-- The list of `Calls`, and the same list with two workers for one in its first step and other bit words before it: the same words after every call. Assumes nothing.
use Rattle.std.specs.Prelude.{refl}
use Rattle.std.proofs.Common.{inr}
use Rattle.data_structures.specs.BitVec.{blocks_of}
use Rattle.manifold_records.specs.Written.{zeros}
use Rattle.contact_graph.specs.Calls.{laid_out}
use Rattle.contact_runs.specs.Claim.{Allowed, AlikeSteps, alike_same, alike_steps, AllAlike, AllSame}
use Rattle.contact_runs.specs.Runs.{Outcomes, Promised, Ordered, Run}
use Rattle.contact_runs.specs.DemandLaws.{demand3}
use Rattle.contact_run_examples.specs.AnswerLaws.{opened, first_added, first_id, first_words_lem, second_added, second_id, second_words_lem, third_refused}
use Rattle.contact_run_examples.specs.Calls.{one_worker, two_workers, given_as, resting, rows, used_rows, request, calls_then, calls, others, first, second}
use Rattle.contact_run_examples.specs.NextLaws.{added_next, unadded_next, from_then, from_same, all_alike}
use Rattle.contact_run_examples.specs.RunLaws.{all_fit, calls_run, calls_ordered}

pub others_run : (os : Outcomes others) × Run Promised (laid_out 2) others os
others_run = demand3.runs (laid_out 2) others (all_fit two_workers used_rows)

pub others_ordered : Run Ordered (laid_out 2) others others_run.0
others_ordered = demand3.ordered (laid_out 2) others others_run.0 others_run.1

-- both shares are allowed
one_allowed : Allowed second (one_worker 2)
unfolding opened
one_allowed = (refl, refl)

two_allowed : Allowed second two_workers
unfolding opened
two_allowed = (refl, refl)

steps_alike : AlikeSteps second (resting 0 (one_worker 2)) rows (resting 0 two_workers) used_rows
unfolding resting given_as rows used_rows zeros blocks_of
steps_alike =
    record {
      settings = refl;
      colliders = refl;
      bodies = refl;
      proposals = refl;
      shares = inr (one_allowed, two_allowed);
      bits = refl;
      events = refl;
      changes = refl;
      distances = refl;
    }

pub others_alike : AllAlike (laid_out 2) calls calls_run.0 others
unfolding calls_then
others_alike =
    all_alike (laid_out 2) calls others calls_run.0 calls_run.1
    (from_then alike_same (added_next (laid_out 2) (request 0 1) 0 first_added first_id first_words_lem).1
    (from_then alike_same (added_next first (request 1 2) 1 second_added second_id second_words_lem).1
    (from_then alike_same (unadded_next second (request 0 2) 4 third_refused).1 (from_then (alike_steps steps_alike) refl (from_same _ _)))))

pub two_workers_lem : AllSame calls others calls_run.0 others_run.0
two_workers_lem = demand3.bytes (laid_out 2) calls others calls_run.0 others_run.0 calls_ordered others_ordered others_alike
