-- Which event and which change a visit lists, and where it writes them. Definitions only.
use Rattle.std.specs.Prelude.{ℕ, ◌+◌, ◌*◌, ◌≡◌, List, [], ◌∷◌, length, Some, None, Option}
use Rattle.rows.specs.Rows.{put, each}
use Rattle.rules.specs.Records.{Names}
use Rattle.rules.specs.Status.{Event, started, ended, Change, start, stop, count, changes_for, events_for}
use Rattle.words.specs.Words.{word_at}
use Rattle.layout.specs.Change.{change_size}
use Rattle.layout.specs.Contact.{contact_body1, contact_body2, contact_count_change}
use Rattle.layout.specs.Event.{event_size}
use Rattle.contact_records.specs.Recorded.{int_of, names_at, pair_at}
use Rattle.status_pass.specs.EventsAndChanges.{event_words, change_words}
use Rattle.status_pass.specs.Verdicts.{plain_verdict}
use Rattle.status_pass.specs.declared.verdict.Verdict.{Verdict}
use Rattle.status_pass.specs.declared.events.EventKind.{EventKind}
use Rattle.status_pass.specs.declared.events.EventKind.TheVariants as event
use Rattle.status_pass.specs.declared.changes.ContactStatusChange.{ContactStatusChange}
use Rattle.status_pass.specs.declared.changes.ContactStatusChange.TheVariants as change

abbrev pub event_number : EventKind → ℕ
event_number event.Started = 0
event_number event.Ended = 1

abbrev pub event_by : EventKind → Names → Event
event_by event.Started n = started n
event_by event.Ended n = ended n

abbrev pub events_by : Option EventKind → Names → List Event
events_by None n = []
events_by (Some k) n = event_by k n ∷ []

abbrev pub body1_at : List ℕ → ℕ
body1_at w = word_at w (contact_body1 + 1)

abbrev pub body2_at : List ℕ → ℕ
body2_at w = word_at w (contact_body2 + 1)

abbrev pub change_by : ContactStatusChange → List ℕ → ℕ → Change
change_by change.StartedGeneratingConstraints w id = start id
change_by change.StoppedGeneratingConstraints w id = stop id (body1_at w) (body2_at w)
change_by change.ManifoldCountChanged w id = count id (body1_at w) (body2_at w) (int_of (word_at w contact_count_change))

abbrev pub changes_by : Option ContactStatusChange → List ℕ → ℕ → List Change
changes_by None w id = []
changes_by (Some k) w id = change_by k w id ∷ []

-- The promises of `event_of` and `change_of`, under whatever id.
pub record EventIs (w : List ℕ) (v : Verdict) (r : Option EventKind) : Type 0 where
  pub under : (id : ℕ) → events_by r (names_at w 0 id) ≡ events_for (plain_verdict v) (pair_at w 0 id)

pub record ChangeIs (w : List ℕ) (v : Verdict) (r : Option ContactStatusChange) : Type 0 where
  pub under : (id : ℕ) → changes_by r w id ≡ changes_for (plain_verdict v) (pair_at w 0 id)

-- n elements are written in the row, of that many words each, and these after them: it is left as row', and r are written then
pub record Appended {A : Type 0} (words : A → List ℕ) (size : ℕ) (row : List ℕ) (n : ℕ) (xs : List A) (row' : List ℕ) (r : ℕ) : Type 0 where
  pub stored : row' ≡ put row (n * size) (each words xs)
  pub count : r ≡ n + length xs

-- The promises of `record_event` and `record_change`.
abbrev pub EventsWritten : List ℕ → ℕ → List Event → List ℕ → ℕ → Type 0
EventsWritten row n es row' r = Appended event_words event_size row n es row' r

abbrev pub ChangesWritten : List ℕ → ℕ → List Change → List ℕ → ℕ → Type 0
ChangesWritten row n cs row' r = Appended change_words change_size row n cs row' r
