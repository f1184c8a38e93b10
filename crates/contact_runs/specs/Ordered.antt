-- A step whose active contacts are updated in an order of its own, whichever worker has them: each update on the graph that the ones before have left,
-- its status bit set in its worker's part of the bit words; then the status pass over the parts joined. Definitions only.
use Rattle.std.specs.Prelude.{ℕ, zero, suc, ◌+◌, ◌≡◌, cond, ◌&&◌, List, [], ◌∷◌, ◌++◌, length, Result}
use Rattle.rows.specs.Rows.{put, each}
use Rattle.rows.specs.Slots.{Distinct, SameMembers}
use Rattle.rules.specs.Update.{is_recycled}
use Rattle.words.specs.Words.{float_word}
use Rattle.data_structures.specs.BitVec.{blocks_of, marked, joined, set_bits}
use Rattle.manifold_records.specs.Written.{zeros}
use Rattle.contact_range.specs.Recorded.{capacity_of}
use Rattle.collider.specs.Recorded.{settings_of}
use Rattle.contact_update.specs.After.{graph_after}
use Rattle.rules.specs.Limits.{most_workers}
use Rattle.status_pass.specs.Pass.{Passing, begun, pass_words}
use Rattle.status_pass.specs.EventsAndChanges.{event_words, change_words}
use Rattle.step.specs.Step as step
use Rattle.step.specs.Step.{Given, Rows, step_refusal, made_of, plain_answer}
use Rattle.update_pass.specs.ListsLaws.{listed_in}
use Rattle.update_pass.specs.Shared.{active_of, share_of}
use Rattle.step.specs.declared.answer.StepReport.{StepReport}
use Rattle.contact_types.specs.declared.refusal.Refusal.{Refusal}

-- what the updates made so far have left: the graph, each worker's part of the bit words, the distances, and how many contacts were recycled
pub record Stage : Type 0 where
  pub graph : List ℕ
  pub part : ℕ → List ℕ
  pub distances : List ℕ
  pub recycled : ℕ

-- no bit set, every distance +0
abbrev pub stage_at : List ℕ → Stage
stage_at g = record { graph = g; part = λ w. zeros (blocks_of (capacity_of g)); distances = zeros (capacity_of g); recycled = 0 }

-- one contact more, as the rules make it of the graph that the updates before have left; its bit is set in the part of the worker that has it
unfoldable pub update_one : Given → Stage → ℕ → Stage
update_one x s id =
    let u = made_of x s.graph id in
    record {
      graph = graph_after (settings_of x.settings) x.colliders x.bodies x.proposals s.graph id;
      part = λ w. cond (listed_in (share_of x.shares w) id && u.bit) (marked (s.part w) id) (s.part w);
      distances = put s.distances id (float_word u.max_contact_distance ∷ []);
      recycled = s.recycled + cond (is_recycled u.way) 1 0;
    }

unfoldable pub update_each : Given → Stage → List ℕ → Stage
update_each x s [] = s
update_each x s (id ∷ ids) = update_each x (update_one x s id) ids

-- the parts of the first n workers, one after another, and joined by or
unfoldable pub parts_row : (ℕ → List ℕ) → ℕ → List ℕ
parts_row part zero = []
parts_row part (suc n) = parts_row part n ++ part n

unfoldable pub parts_joined : ℕ → (ℕ → List ℕ) → ℕ → List ℕ
parts_joined blocks part zero = zeros blocks
parts_joined blocks part (suc n) = joined (parts_joined blocks part n) (part n)

module _ (g : List ℕ) (s : Stage) where
  -- the status pass, over the standing bits, ascending
  unfoldable pub pass_after : Passing
  pass_after = pass_words (begun s.graph) (set_bits (parts_joined (blocks_of (capacity_of g)) s.part most_workers))

  unfoldable pub rows_after : Rows → Rows
  rows_after l =
      record {
        bits = parts_row s.part most_workers;
        events = put l.events 0 (each event_words pass_after.events);
        changes = put l.changes 0 (each change_words pass_after.changes);
        distances = s.distances;
      }

  unfoldable pub answer_after : step.Answer
  answer_after = step.stepped (length pass_after.events) (length pass_after.changes) s.recycled

-- an accepted step that updates the active contacts in that order, each once
pub record InOrder (x : Given) (g : List ℕ) (l : Rows) (ids : List ℕ) (g' : List ℕ) (l' : Rows) (r : Result StepReport Refusal) : Type 0 where
  pub accepted : step_refusal x g l ≡ 0
  pub once : Distinct ids
  pub active : SameMembers ids (active_of g)
  pub answer : plain_answer r ≡ answer_after g (update_each x (stage_at g) ids)
  pub graph : g' ≡ (pass_after g (update_each x (stage_at g) ids)).graph
  pub rows : l' ≡ rows_after g (update_each x (stage_at g) ids) l
