-- The two provisos of the replay apart, along a run, and the claim about the replay under one of them alone. Definitions only.
use Rattle.std.specs.Prelude.{ℕ, ◌≡◌, T, eqb, Result, ⊤, None}
use mathlib.Core.List.{List, [], ◌∷◌, map, Memᴰ}
use Rattle.rules.specs.Graph.{Graph, empty_graph}
use Rattle.rules.specs.Inputs.{Inputs}
use Rattle.rules.specs.Records.{Pair}
use Rattle.rules.specs.Runs.{Entry, addition, stepping, impulses, plain_call, plain_graph, names_both, keeps_generating, held_in}
use Rattle.rules.specs.Update.{updated}
use Rattle.contact_graph.specs.Promises as graph
use Rattle.contact_graph.specs.Promises.{LaidOut, done_answer}
use Rattle.contact_runs.specs.Runs as runs
use Rattle.contact_runs.specs.Claim.{plain_of, replay_told}
use Rattle.contact_runs.specs.Runs.{Outcomes, Run, Ordered}
use Rattle.contact_types.specs.declared.refusal.Refusal.{Refusal}

-- what is asked of each pair of the graph, at a step with these inputs
abbrev pub Proviso : Type 1
Proviso = Inputs → Pair → Type 0

-- a generating pair names both its bodies
abbrev pub NamesBoth : Proviso
NamesBoth i p = names_both (updated i p).pair

-- a pair that touches at the step's start does not turn in it from generating to not
abbrev pub KeepsGenerating : Proviso
KeepsGenerating i p = keeps_generating i p

-- the two together
abbrev pub Both : Proviso
Both i p = NamesBoth i p × KeepsGenerating i p

-- of every step of the run that is not refused
unfoldable pub AloneAt : Proviso → Entry → Graph → Type 0
AloneAt P (addition r a) g = Unit {0}
AloneAt P (stepping r i) g = T (eqb (r g) 0) → (p : Pair) → Memᴰ p g.pairs → P i p
AloneAt P (impulses ws) g = Unit {0}

unfoldable pub Alone : Proviso → List Entry → Graph → Type 0
unfolding AloneAt plain_call
Alone P [] g = Unit {0}
Alone P (e ∷ es) g = AloneAt P e g × Alone P es (plain_call e g).graph

-- the claim about the replay (`Demand3`, `replay`) under this proviso
abbrev pub ReplayUnder : Proviso → Type 0
ReplayUnder P =
    (before : List ℕ) (capacity : ℕ) (g : List ℕ) (r : Result ⊤ Refusal) (es : List runs.Entry) (os : Outcomes es)
    → LaidOut before capacity g r → done_answer r ≡ graph.done → Run Ordered g es os → Alone P (map plain_of es) (empty_graph capacity)
    → (id : ℕ) → replay_told os (λ _. None) id ≡ held_in (plain_graph (map plain_of es) (empty_graph capacity)).pairs id
