-- A list of calls, as they are made: what each is given, what it tells, and its run on the graph's words. Definitions only.
use Rattle.std.specs.Prelude.{ℕ, ◌≡◌, ◌≢◌, List, [], ◌∷◌, Result}
use Rattle.math.specs.Fit.{FitFloat}
use Rattle.contact_graph.specs.Promises.{Added}
use Rattle.contact_graph.specs.declared.call.Request.{Request}
use Rattle.step.specs.Step as step
use Rattle.step.specs.Step.{Given, Rows, Stepped, step_refusal, plain_answer}
use Rattle.contact_runs.specs.Ordered.{InOrder}
use Rattle.contact_runs.specs.Solver.{Write, write_words}
use Rattle.step.specs.declared.answer.StepReport.{StepReport}
use Rattle.contact_types.specs.declared.refusal.Refusal.{Refusal}
use Rattle.contact_types.specs.declared.contact_id.ContactId.{ContactId}

-- ---- entries and outcomes
-- what a call is given beside the graph; or what a solver writes into the graph between two calls
pub data Entry : Type 0 where
  addition : Request → Entry
  stepping : Given → Rows → Entry
  impulses : List Write → Entry

-- what it tells: its answer, with the rows that it was lent
pub data Told : Entry → Type 0 where
  added : {a : Request} → Result ContactId Refusal → Told (addition a)
  stepped : {x : Given} {l : Rows} → Result StepReport Refusal → Rows → Told (stepping x l)
  silent : {ws : List Write} → Told (impulses ws)

-- and the graph's words after it
pub record Outcome (e : Entry) : Type 0 where
  pub told : Told e
  pub graph : List ℕ

-- one for each entry of a list
pub data Outcomes : List Entry → Type 0 where
  end : Outcomes []
  ◌then◌ : {e : Entry} {es : List Entry} → Outcome e → Outcomes es → Outcomes (e ∷ es)

infixr 30 ◌then◌
-- ---- a call, and a run
-- a call on the graph's words: what it tells, and the words after it
abbrev pub Calling : Type 1
Calling = List ℕ → (e : Entry) → Told e → List ℕ → Type 0

-- By the promise that the call keeps. Floats here are of any format; `FitFloat` says that a request's is an f32, and every f32 of the code has it.
pub data Promised (g : List ℕ) : (e : Entry) → Told e → List ℕ → Type 0 where
  adds : {a : Request} {r : Result ContactId Refusal} {h : List ℕ} → FitFloat a.speculative_distance → Added g a h r → Promised g (addition a) (added r) h
  steps : {x : Given} {l l' : Rows} {r : Result StepReport Refusal} {h : List ℕ} → Stepped x g l h l' r → Promised g (stepping x l) (stepped r l') h
  writes : {ws : List Write} → Promised g (impulses ws) silent (write_words g ws)

-- the same, but for steps: a refused one changes nothing, an accepted one has an order of its own
pub data Ordered (g : List ℕ) : (e : Entry) → Told e → List ℕ → Type 0 where
  adds : {a : Request} {r : Result ContactId Refusal} {h : List ℕ} → FitFloat a.speculative_distance → Added g a h r → Ordered g (addition a) (added r) h
  refuses : {x : Given} {l : Rows} {r : Result StepReport Refusal} → step_refusal x g l ≢ 0 → plain_answer r ≡ step.refused (step_refusal x g l) → Ordered g (stepping x l) (stepped r l) g
  steps : {x : Given} {l l' : Rows} {r : Result StepReport Refusal} {h : List ℕ} (ids : List ℕ) → InOrder x g l ids h l' r → Ordered g (stepping x l) (stepped r l') h
  writes : {ws : List Write} → Ordered g (impulses ws) silent (write_words g ws)

-- each call gets the graph as the last one left it
unfoldable pub Run : Calling → List ℕ → (es : List Entry) → Outcomes es → Type 0
Run C g [] end = Unit {0}
Run C g (e ∷ es) (o then os) = C g e o.told o.graph × Run C o.graph es os

-- a request's float is an f32: every request of the code has that
abbrev pub Fits : Entry → Type 0
Fits (addition a) = FitFloat a.speculative_distance
Fits (stepping x l) = Unit {0}
Fits (impulses ws) = Unit {0}

unfoldable pub AllFit : List Entry → Type 0
AllFit [] = Unit {0}
AllFit (e ∷ es) = Fits e × AllFit es
