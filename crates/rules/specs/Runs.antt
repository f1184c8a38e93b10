-- The plain run of a list of calls, the replay of its constraint changes, and what the two provisos of the replay say. Definitions only.
-- A call's arguments are words; here they are read already, and `refusal` gives the table's number for them on a graph, 0 for none.
use Rattle.std.specs.Prelude.{ℕ, zero, suc, Bool, true, false, cond, ◌&&◌, eqb, T, length, ℤ, pos, ◌+ℤ◌, Option, None, Some}
use mathlib.Core.List.{List, [], ◌∷◌, Memᴰ}
use Rattle.rules.specs.Inputs.{Inputs}
use Rattle.rules.specs.Records.{Pair}
use Rattle.rules.specs.Update.{updated}
use Rattle.rules.specs.Graph.{Graph, Addition, plain_add, new_id}
use Rattle.rules.specs.Solver.{Write, plain_writes}
use Rattle.rules.specs.Status.{Change, start, stop, count, StepResult, plain_step}

-- a call, or what a solver writes between two calls
pub data Entry : Type 0 where
  addition : (refusal : Graph → ℕ) → Addition → Entry
  stepping : (refusal : Graph → ℕ) → Inputs → Entry
  impulses : List Write → Entry

-- what a call answers
pub data Answer : Type 0 where
  refused : ℕ → Answer
  added : ℕ → Answer
  stepped : StepResult → Answer
  silent : Answer

pub record After : Type 0 where
  pub graph : Graph
  pub answer : Answer

abbrev pub unless_refused : ℕ → Graph → After → After
unless_refused zero g a = a
unless_refused (suc n) g a = record { graph = g; answer = refused (suc n) }

unfoldable pub plain_call : Entry → Graph → After
unfolding plain_add plain_step new_id plain_writes
plain_call (addition r a) g = unless_refused (r g) g (record { graph = plain_add a g; answer = added (new_id g) })
plain_call (stepping r i) g = unless_refused (r g) g (record { graph = (plain_step i g).graph; answer = stepped (plain_step i g) })
plain_call (impulses ws) g = record { graph = plain_writes ws g; answer = silent }

-- the graph and the answer after each entry
unfoldable pub plain_run : List Entry → Graph → List After
unfolding plain_call
plain_run [] g = []
plain_run (e ∷ es) g = plain_call e g ∷ plain_run es (plain_call e g).graph

unfoldable pub plain_graph : List Entry → Graph → Graph
unfolding plain_call
plain_graph [] g = g
plain_graph (e ∷ es) g = plain_graph es (plain_call e g).graph

-- ---- replay

-- what is held: for each contact id, its number of manifolds if it is held
abbrev pub Held : Type 0
Held = ℕ → Option ℤ

abbrev pub holding : Held → ℕ → Option ℤ → Held
holding h id v k = cond (eqb k id) v (h k)

-- the number of manifolds that a contact has in a graph, 0 where it is not there
unfoldable pub manifolds_of : ℕ → List Pair → ℤ
manifolds_of id [] = pos 0
manifolds_of id (p ∷ ps) = cond (eqb p.names.id id) (pos (length p.manifolds)) (manifolds_of id ps)

abbrev pub raised_by : Option ℤ → ℤ → Option ℤ
raised_by None d = None
raised_by (Some n) d = Some (n +ℤ d)

-- a start enters the contact with the number of manifolds that it then has; a stop strikes it; a count change adds, if it is held
unfoldable pub replay_one : List Pair → Change → Held → Held
unfolding manifolds_of
replay_one ps (start id) h = holding h id (Some (manifolds_of id ps))
replay_one ps (stop id a b) h = holding h id None
replay_one ps (count id a b d) h = holding h id (raised_by (h id) d)

unfoldable pub replay : List Pair → List Change → Held → Held
unfolding replay_one
replay ps [] h = h
replay ps (c ∷ cs) h = replay ps cs (replay_one ps c h)

-- ---- the two provisos, of every step of the run that is not refused

abbrev pub named : Option ℕ → Bool
named None = false
named (Some b) = true

-- a generating pair names both its bodies
abbrev pub names_both : Pair → Type 0
names_both p = T p.flags.generate_constraints → (T (named p.names.body1) × T (named p.names.body2))

-- a pair that touches at the step's start does not turn in it from generating to not
abbrev pub keeps_generating : Inputs → Pair → Type 0
keeps_generating i p = T p.flags.touching → T p.flags.generate_constraints → T (updated i p).pair.flags.generate_constraints

-- what the graph holds: the contacts that touch and generate, each with its manifold count
unfoldable pub held_in : List Pair → ℕ → Option ℤ
held_in [] id = None
held_in (p ∷ ps) id =
    cond (eqb p.names.id id)
    (cond (p.flags.touching && p.flags.generate_constraints) (Some (pos (length p.manifolds))) None)
    (held_in ps id)

-- the two provisos at an entry, and along a run
unfoldable pub ProvisosAt : Entry → Graph → Type 0
ProvisosAt (addition r a) g = Unit {0}
ProvisosAt (stepping r i) g =
    T (eqb (r g) 0) → (p : Pair) → Memᴰ p g.pairs → (names_both (updated i p).pair × keeps_generating i p)
ProvisosAt (impulses ws) g = Unit {0}

unfoldable pub Provisos : List Entry → Graph → Type 0
unfolding ProvisosAt plain_call
Provisos [] g = Unit {0}
Provisos (e ∷ es) g = ProvisosAt e g × Provisos es (plain_call e g).graph
