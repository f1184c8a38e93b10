-- The status pass on the graph's words, with the events and changes that it lists, and what it asks and promises of the lent rows. Definitions only.
use Rattle.std.specs.Prelude.{ℕ, ◌+◌, ◌*◌, ◌≤◌, ◌<◌, ◌≡◌, true, List, [], ◌∷◌, ◌++◌, length, get_or}
use Rattle.rows.specs.Rows.{part, put}
use Rattle.rows.specs.Slots.{Distinct}
use Rattle.rules.specs.Records.{Pair}
use Rattle.rules.specs.Status.{Event, Change, Pass, Verdict, vanishes, starts, stops, generates, recounts, persists, verdict, changes_for, events_for}
use Rattle.layout.specs.Change.{change_size}
use Rattle.layout.specs.Contact.{contact_size}
use Rattle.layout.specs.Event.{event_size}
use Rattle.contact_records.specs.Recorded.{pair_at}
use Rattle.contact_graph.specs.Calls.{removed_words}
use Rattle.contact_range.specs.Checked.{Checked}
use Rattle.contact_range.specs.Range as range
use Rattle.contact_range.specs.Recorded.{contact_at, graph_of}
use Rattle.status_pass.specs.Listed.{EventsWritten, ChangesWritten}
use Rattle.status_pass.specs.Settled.{settled_words}
use Rattle.status_pass.specs.declared.visit.WrittenCounts.{WrittenCounts}

-- the contact's record written anew
unfoldable pub settled_graph : Verdict → ℕ → List ℕ → List ℕ
settled_graph v id g = put g (contact_at g id) (settled_words v (part g (contact_at g id) contact_size))

-- a disjoint contact is removed; of any other the record is written anew
unfoldable pub visited_graph : Verdict → ℕ → List ℕ → List ℕ
visited_graph vanishes id g = removed_words g id
visited_graph starts id g = settled_graph starts id g
visited_graph stops id g = settled_graph stops id g
visited_graph generates id g = settled_graph generates id g
visited_graph recounts id g = settled_graph recounts id g
visited_graph persists id g = settled_graph persists id g

-- what the pass has so far: the graph in words
pub record Passing : Type 0 where
  pub graph : List ℕ
  pub events : List Event
  pub changes : List Change

-- the contact as the graph records it
abbrev pub visited_pair : List ℕ → ℕ → Pair
visited_pair g id = pair_at g (contact_at g id) id

-- nothing listed yet
abbrev pub begun : List ℕ → Passing
begun g = record { graph = g; events = []; changes = [] }

unfoldable pub visit_words : Passing → ℕ → Passing
visit_words s id =
    let p = visited_pair s.graph id in
    let v = verdict p in
    record { graph = visited_graph v id s.graph; events = s.events ++ events_for v p; changes = s.changes ++ changes_for v p }

unfoldable pub pass_words : Passing → List ℕ → Passing
pass_words s [] = s
pass_words s (id ∷ ids) = pass_words (visit_words s id) ids

-- what it records
abbrev pub plain_pass : Passing → Pass
plain_pass s = record { graph = graph_of s.graph; events = s.events; changes = s.changes }

-- the graph passes refusals 1 and 2, and every contact of the list stands in it, once each
pub record PassReady (s : Passing) (ids : List ℕ) : Type 0 where
  pub checked : Checked s.graph
  pub standing : (k : ℕ) → k < length ids → range.stands s.graph (get_or ids k 0) ≡ true
  pub distinct : Distinct ids

-- ---- the lent rows
-- a contact that stands, and room for one more event and change
pub record VisitReady (g es cs : List ℕ) (id n m : ℕ) : Type 0 where
  pub checked : Checked g
  pub standing : range.stands g id ≡ true
  pub event_room : n * event_size + event_size ≤ length es
  pub change_room : m * change_size + change_size ≤ length cs

-- The promise of `visit`.
pub record VisitDone (g es cs : List ℕ) (id n m : ℕ) (g' es' cs' : List ℕ) (r : WrittenCounts) : Type 0 where
  pub graph : g' ≡ visited_graph (verdict (visited_pair g id)) id g
  pub events : EventsWritten es n (events_for (verdict (visited_pair g id)) (visited_pair g id)) es' r.events
  pub changes : ChangesWritten cs m (changes_for (verdict (visited_pair g id)) (visited_pair g id)) cs' r.changes

-- the list's contacts, and room for an event and a change of each
pub record RowsReady (g es cs ids : List ℕ) : Type 0 where
  pub ready : PassReady (begun g) ids
  pub event_room : length ids * event_size ≤ length es
  pub change_room : length ids * change_size ≤ length cs

-- The rows that the pass leaves, from what it has: the graph's words, and the events and changes from the start of their rows on.
pub record Left (s : Passing) (es cs g' es' cs' : List ℕ) (r : WrittenCounts) : Type 0 where
  pub graph : g' ≡ s.graph
  pub events : EventsWritten es 0 s.events es' r.events
  pub changes : ChangesWritten cs 0 s.changes cs' r.changes

-- The promise of `pass`.
abbrev pub PassDone : List ℕ → List ℕ → List ℕ → List ℕ → List ℕ → List ℕ → List ℕ → WrittenCounts → Type 0
PassDone g es cs ids g' es' cs' r = Left (pass_words (begun g) ids) es cs g' es' cs' r
