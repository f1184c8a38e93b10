-- The replay of a plain run from its answers alone, and the room that an accepted addition finds: what the replay's proof speaks of. Definitions only.
use Rattle.std.specs.Prelude.{ℕ, ◌<◌, ◌≡◌, List, [], ◌∷◌, eqb, T, length, None}
use Rattle.rules.specs.Graph.{Graph, empty_graph}
use Rattle.rules.specs.Runs.{Entry, addition, stepping, impulses, Answer, refused, added, stepped, silent, After, plain_call, plain_run, plain_graph, Held, replay, held_in, Provisos}

-- of the answers of a run: the number of manifolds that a started contact then has is read in the graph that its step left
unfoldable pub replay_answer : Answer → Held → Held
unfolding replay
replay_answer (refused n) h = h
replay_answer (added id) h = h
replay_answer (stepped s) h = replay s.graph.pairs s.changes h
replay_answer silent h = h

unfoldable pub replay_answers : List After → Held → Held
unfolding replay_answer
replay_answers [] h = h
replay_answers (a ∷ as') h = replay_answers as' (replay_answer a.answer h)

-- an addition that is not refused finds room, at an entry and along a run: so the table's number 5 has it
unfoldable pub RoomAt : Entry → Graph → Type 0
RoomAt (addition r a) g = T (eqb (r g) 0) → length g.pairs < g.capacity
RoomAt (stepping r i) g = Unit {0}
RoomAt (impulses ws) g = Unit {0}

unfoldable pub Room : List Entry → Graph → Type 0
unfolding RoomAt plain_call
Room [] g = Unit {0}
Room (e ∷ es) g = RoomAt e g × Room es (plain_call e g).graph

-- the claim: what the replay holds is what the graph holds
abbrev pub AnswersReplayHolds : Type 0
AnswersReplayHolds =
    (n : ℕ) (es : List Entry) → Provisos es (empty_graph n) → Room es (empty_graph n) →
    (id : ℕ) → replay_answers (plain_run es (empty_graph n)) (λ _. None) id ≡ held_in (plain_graph es (empty_graph n)).pairs id
