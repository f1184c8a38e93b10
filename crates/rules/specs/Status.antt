-- The status pass over the standing status bits, and the plain step: the specification, 'Status pass'. Definitions only.
use Rattle.std.specs.Prelude.{ℕ, zero, suc, ◌+◌, Bool, true, false, cond, ◌&&◌, List, [], ◌∷◌, map, ◌++◌, eqb, get_or, set, ℤ, pos, Float, Option, None, Some}
use Rattle.math.specs.Constants.{zero_f}
use Rattle.rules.specs.Graph.{Graph, pair_index, removed_at}
use Rattle.rules.specs.Inputs.{Inputs}
use Rattle.rules.specs.Records.{PairFlags, Names, Pair}
use Rattle.rules.specs.Update.{is_recycled, Updated, updated, non_zero}

-- a contact event, with what the contact names
pub data Event : Type 0 where
  started : Names → Event
  ended : Names → Event

-- ContactStatusChange
pub data Change : Type 0 where
  start : ℕ → Change
  stop : ℕ → ℕ → ℕ → Change
  count : ℕ → ℕ → ℕ → ℤ → Change

-- what the pass has so far
pub record Pass : Type 0 where
  pub graph : Graph
  pub events : List Event
  pub changes : List Change

-- an end or a start event, where the edge has CONTACT_EVENTS
abbrev pub event_if : Bool → Event → List Event
event_if true e = e ∷ []
event_if false e = []

-- a stop, and a count change, name both bodies
abbrev pub stop_if : Bool → Names → List Change
stop_if false n = []
stop_if true n = both n.body1 n.body2
  where
    both : Option ℕ → Option ℕ → List Change
    both None o = []
    both (Some a) None = []
    both (Some a) (Some b) = stop n.id a b ∷ []

abbrev pub count_of : Names → ℤ → List Change
count_of n d = both n.body1 n.body2
  where
    both : Option ℕ → Option ℕ → List Change
    both None o = []
    both (Some a) None = []
    both (Some a) (Some b) = count n.id a b d ∷ []

-- the edge's TOUCHING, the pair's flags and its count change, set to these
abbrev pub with_status : Pair → Bool → PairFlags → ℤ → Pair
with_status p edge_touching f change = record {
  names = p.names;
  edge = record { touching = edge_touching; contact_events = p.edge.contact_events };
  flags = f;
  manifolds = p.manifolds;
  count_change = change;
  speculative = p.speculative;
  cache = p.cache;
}

-- STARTED_TOUCHING, STOPPED_TOUCHING and STARTED_GENERATING_CONSTRAINTS set to these, in this order
abbrev pub with_status_marks : PairFlags → Bool → Bool → Bool → PairFlags
with_status_marks f started_touching stopped_touching started_generating = record {
  touching = f.touching;
  disjoint_aabb = f.disjoint_aabb;
  started_touching = started_touching;
  stopped_touching = stopped_touching;
  generate_constraints = f.generate_constraints;
  started_generating = started_generating;
  static1 = f.static1;
  static2 = f.static2;
  modify_contacts = f.modify_contacts;
}

-- the pair at place i is written anew, with the events and changes that its visit lists
abbrev pub written : Pass → ℕ → Pair → List Event → List Change → Pass
written s i p es cs = record {
  graph = record { capacity = s.graph.capacity; given = s.graph.given; free = s.graph.free; pairs = set s.graph.pairs i p };
  events = s.events ++ es;
  changes = s.changes ++ cs;
}

-- removal swaps the last pair into the gap
abbrev pub removed : Pass → ℕ → Pair → List Event → List Change → Pass
removed s i p es cs = record {
  graph = removed_at s.graph i p;
  events = s.events ++ es;
  changes = s.changes ++ cs;
}

-- ---- one visit: the first of five cases that holds is taken
pub data Verdict : Type 0 where
  -- Disjoint
  vanishes : Verdict
  -- Started
  starts : Verdict
  -- Stopped
  stops : Verdict
  -- Started generating, touching
  generates : Verdict
  -- Touching, generating, count change not 0
  recounts : Verdict
  -- no case holds
  persists : Verdict

abbrev pub pick : Bool → Bool → Bool → Bool → Bool → Verdict
pick true b c d e = vanishes
pick false true c d e = starts
pick false false true d e = stops
pick false false false true e = generates
pick false false false false true = recounts
pick false false false false false = persists

abbrev pub verdict : Pair → Verdict
verdict p =
    pick p.flags.disjoint_aabb p.flags.started_touching p.flags.stopped_touching (p.flags.touching && p.flags.started_generating)
    (p.flags.touching && (p.flags.generate_constraints && non_zero p.count_change))

-- Disjoint: an end event if the edge has TOUCHING and CONTACT_EVENTS. Started: a start event if the edge has CONTACT_EVENTS. Stopped: an end event if CONTACT_EVENTS
abbrev pub events_for : Verdict → Pair → List Event
events_for vanishes p = event_if (p.edge.touching && p.edge.contact_events) (ended p.names)
events_for starts p = event_if p.edge.contact_events (started p.names)
events_for stops p = event_if p.edge.contact_events (ended p.names)
events_for generates p = []
events_for recounts p = []
events_for persists p = []

-- Disjoint: a stop if generating with both bodies named. Started: a start change if generating. Stopped: a stop as above. Started generating: a start change.
-- Count change not 0: it is written if both bodies are named
abbrev pub changes_for : Verdict → Pair → List Change
changes_for vanishes p = stop_if p.flags.generate_constraints p.names
changes_for starts p = cond p.flags.generate_constraints (start p.names.id ∷ []) []
changes_for stops p = stop_if p.flags.generate_constraints p.names
changes_for generates p = start p.names.id ∷ []
changes_for recounts p = count_of p.names p.count_change
changes_for persists p = []

-- Started: edge TOUCHING set, both STARTED marks cleared
abbrev pub start_settled : Pair → Pair
start_settled p = with_status p true (with_status_marks p.flags false p.flags.stopped_touching false) p.count_change

-- Stopped: edge TOUCHING and STOPPED_TOUCHING cleared
abbrev pub stop_settled : Pair → Pair
stop_settled p = with_status p false (with_status_marks p.flags p.flags.started_touching false p.flags.started_generating) p.count_change

-- Started generating: mark cleared
abbrev pub generating_settled : Pair → Pair
generating_settled p = with_status p p.edge.touching (with_status_marks p.flags p.flags.started_touching p.flags.stopped_touching false) p.count_change

-- Count change not 0: it becomes 0
abbrev pub count_settled : Pair → Pair
count_settled p = with_status p p.edge.touching p.flags (pos 0)

-- what becomes of the pair: a disjoint one is removed
abbrev pub next : Verdict → Pair → Option Pair
next vanishes p = None
next starts p = Some (start_settled p)
next stops p = Some (stop_settled p)
next generates p = Some (generating_settled p)
next recounts p = Some (count_settled p)
next persists p = Some p

abbrev pub visit_as : Pass → ℕ → Pair → Verdict → Pass
visit_as s i p vanishes = removed s i p (events_for vanishes p) (changes_for vanishes p)
visit_as s i p starts = written s i (start_settled p) (events_for starts p) (changes_for starts p)
visit_as s i p stops = written s i (stop_settled p) (events_for stops p) (changes_for stops p)
visit_as s i p generates = written s i (generating_settled p) (events_for generates p) (changes_for generates p)
visit_as s i p recounts = written s i (count_settled p) (events_for recounts p) (changes_for recounts p)
visit_as s i p persists = s

unfoldable pub visit_at : Pass → ℕ → Pair → Pass
visit_at s i p = visit_as s i p (verdict p)

unfoldable pub visit_found : Pass → Option ℕ → List Pair → Pass
visit_found s None ps = s
visit_found s (Some i) [] = s
visit_found s (Some i) (p ∷ ps) = visit_at s i (get_or (p ∷ ps) i p)

unfoldable pub visit : Pass → ℕ → Pass
visit s id = visit_found s (pair_index id s.graph.pairs) s.graph.pairs

unfoldable pub visit_all : Pass → List ℕ → Pass
visit_all s [] = s
visit_all s (id ∷ ids) = visit_all (visit s id) ids

-- whether the update of the pair with that id set its bit
unfoldable pub bit_of : ℕ → List Updated → Bool
bit_of id [] = false
bit_of id (u ∷ us) = cond (eqb u.pair.names.id id) u.bit (bit_of id us)

-- of the k ids from `from` on, those whose update set their bit, ascending
unfoldable pub standing_bits : ℕ → ℕ → List Updated → List ℕ
standing_bits from zero us = []
standing_bits from (suc k) us = cond (bit_of from us) (from ∷ standing_bits (suc from) k us) (standing_bits (suc from) k us)

-- the reported contact distance by contact id, +0 for any other id
unfoldable pub max_contact_distance_of : List Updated → ℕ → Float
max_contact_distance_of [] id = zero_f
max_contact_distance_of (u ∷ us) id = cond (eqb u.pair.names.id id) u.max_contact_distance (max_contact_distance_of us id)

unfoldable pub recycled_count : List Updated → ℕ
recycled_count [] = 0
recycled_count (u ∷ us) = cond (is_recycled u.way) 1 0 + recycled_count us

-- what a step answers
pub record StepResult : Type 0 where
  pub graph : Graph
  pub events : List Event
  pub changes : List Change
  pub max_contact_distance : ℕ → Float
  pub recycled : ℕ

-- each active pair alone, then the status pass
unfoldable pub plain_step : Inputs → Graph → StepResult
plain_step i g =
    let us = map (updated i) g.pairs in
    let g' : Graph = record { capacity = g.capacity; given = g.given; free = g.free; pairs = map (λ (u : Updated). u.pair) us } in
    let s = visit_all (record { graph = g'; events = []; changes = [] }) (standing_bits 0 g.capacity us) in
    record { graph = s.graph; events = s.events; changes = s.changes; max_contact_distance = max_contact_distance_of us; recycled = recycled_count us }
