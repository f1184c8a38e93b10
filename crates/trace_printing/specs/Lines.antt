-- Events and changes as they stand in their rows, and how long their lines are at most. Definitions only.
use Rattle.std.specs.Prelude.{ℕ, ◌+◌, ◌*◌, ◌≡◌, List, map}
use Rattle.rows.specs.Slots.{upto}
use Rattle.rules.specs.Status.{Event, Change}
use Rattle.layout.specs.Change.{change_size}
use Rattle.layout.specs.Event.{event_size}
use Rattle.step.specs.Read.{event_at, change_at}
use Rattle.status_pass.specs.declared.changes.ContactStatusChange.{ContactStatusChange}
use Rattle.status_pass.specs.declared.changes.ContactStatusChange.TheVariants as change

-- the first n of a row
abbrev pub events_in : List ℕ → ℕ → List Event
events_in row n = map (λ k. event_at row (k * event_size)) (upto n)

abbrev pub changes_in : List ℕ → ℕ → List Change
changes_in row n = map (λ k. change_at row (k * change_size)) (upto n)

-- the number of a change's kind, as `change_at` reads it
abbrev pub ChangeNumbered : ℕ → ContactStatusChange → Type 0
ChangeNumbered w change.StartedGeneratingConstraints = w ≡ 0
ChangeNumbered w change.StoppedGeneratingConstraints = w ≡ 1
ChangeNumbered w change.ManifoldCountChanged = (w ≡ 0 → ⊥) × (w ≡ 1 → ⊥)

-- a tab, a sign and ten digits
abbrev pub cell_room : ℕ
cell_room = 12

-- six cells and five, between a letter and the line's end
abbrev pub event_room : ℕ
event_room = 6 * cell_room + 2

abbrev pub change_room : ℕ
change_room = 5 * cell_room + 2

-- room for an event's line and a change's
abbrev pub printed_size : ℕ
printed_size = event_room + change_room
