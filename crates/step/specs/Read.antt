-- Events and changes from their words: what stands in the rows after a step, read back. Definitions only.
use Rattle.std.specs.Prelude.{ℕ, ◌+◌, ◌*◌, cond, List, [], map, eqb, Err, Ok, Result}
use Rattle.rows.specs.Slots.{upto}
use Rattle.rules.specs.Records.{Names}
use Rattle.rules.specs.Status.{Event, started, ended, Change, start, stop, count}
use Rattle.words.specs.Words.{word_at}
use Rattle.contact_records.specs.Recorded.{int_of}
use Rattle.contact_graph.specs.Calls.{optional}
use Rattle.layout.specs.Change.{change_body1, change_body2, change_contact, change_count, change_size}
use Rattle.layout.specs.Event.{event_body1, event_body2, event_collider1, event_collider2, event_contact, event_size}
use Rattle.step.specs.declared.answer.StepReport.{StepReport}
use Rattle.contact_types.specs.declared.refusal.Refusal.{Refusal}

-- ---- an event: its kind, the contact's id, its colliders, and its bodies (a mark and a number each)
abbrev pub names_at : List ℕ → ℕ → Names
names_at row at =
    record {
      id = word_at row (at + event_contact);
      collider1 = word_at row (at + event_collider1);
      collider2 = word_at row (at + event_collider2);
      body1 = optional (word_at row (at + event_body1)) (word_at row (at + (event_body1 + 1)));
      body2 = optional (word_at row (at + event_body2)) (word_at row (at + (event_body2 + 1)));
    }

unfoldable pub event_at : List ℕ → ℕ → Event
event_at row at = cond (eqb (word_at row at) 0) (started (names_at row at)) (ended (names_at row at))

-- ---- a change: its kind, the contact's id, its bodies, the change of the count
unfoldable pub change_at : List ℕ → ℕ → Change
change_at row at =
    cond (eqb (word_at row at) 0) (start (word_at row (at + change_contact)))
    (cond (eqb (word_at row at) 1) (stop (word_at row (at + change_contact)) (word_at row (at + change_body1)) (word_at row (at + change_body2)))
    (count (word_at row (at + change_contact)) (word_at row (at + change_body1)) (word_at row (at + change_body2)) (int_of (word_at row (at + change_count)))))

-- ---- as many as the report says, from the row's start on
abbrev pub events_of : Result StepReport Refusal → List ℕ → List Event
events_of (Ok r) row = map (λ k. event_at row (k * event_size)) (upto r.events)
events_of (Err r) row = []

abbrev pub changes_of : Result StepReport Refusal → List ℕ → List Change
changes_of (Ok r) row = map (λ k. change_at row (k * change_size)) (upto r.changes)
changes_of (Err r) row = []
