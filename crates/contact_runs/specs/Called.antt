-- A list of calls as a planner makes it through the C functions, and how it is a list of the public calls: a call whose request or answer row has a wrong length
-- answers 1, changes nothing and drops out, and every other one says what the public call tells. Definitions only.
use Rattle.std.specs.Prelude.{ℕ, ◌≡◌, Bool, true, false, ◌&&◌, List, [], ◌∷◌, Result}
use Rattle.contact_api.specs.Calls.{id_number, id_row, report_number, report_row, AddCalled, StepCalled}
use Rattle.contact_api.specs.Layout.{add_answer_length, step_answer_length}
use Rattle.layout.specs.Request.{request_length}
use Rattle.contact_graph.specs.Calls.{request_of}
use Rattle.contact_graph.specs.Promises.{add_answer}
use Rattle.step.specs.Step.{Given, Rows, long, plain_answer}
use Rattle.contact_runs.specs.Runs as runs
use Rattle.contact_runs.specs.Runs.{Told, Outcome, Outcomes, end, ◌then◌}
use Rattle.contact_runs.specs.Solver.{Write, write_words}
use Rattle.step.specs.declared.answer.StepReport.{StepReport}
use Rattle.contact_types.specs.declared.refusal.Refusal.{Refusal}
use Rattle.contact_types.specs.declared.contact_id.ContactId.{ContactId}

-- ---- a list of calls
-- what a function is given beside the graph, the row for its answer last; or what a solver writes
pub data CEntry : Type 0 where
  c_addition : (request lent : List ℕ) → CEntry
  c_stepping : Given → Rows → (lent : List ℕ) → CEntry
  c_impulses : List Write → CEntry

-- the number that it answers, the row for its answer, and a step's rows
pub data CTold : CEntry → Type 0 where
  c_added : {request lent : List ℕ} → (number : ℕ) (answer : List ℕ) → CTold (c_addition request lent)
  c_stepped : {x : Given} {l : Rows} {lent : List ℕ} → (number : ℕ) (answer : List ℕ) (rows : Rows) → CTold (c_stepping x l lent)
  c_silent : {ws : List Write} → CTold (c_impulses ws)

pub record COutcome (c : CEntry) : Type 0 where
  pub told : CTold c
  pub graph : List ℕ

pub data COutcomes : List CEntry → Type 0 where
  c_end : COutcomes []
  ◌before◌ : {c : CEntry} {cs : List CEntry} → COutcome c → COutcomes cs → COutcomes (c ∷ cs)

infixr 30 ◌before◌
-- by the promise that the function keeps
pub data Called (g : List ℕ) : (c : CEntry) → CTold c → List ℕ → Type 0 where
  c_adds : {request lent h lent' : List ℕ} {n : ℕ} → AddCalled g request lent h lent' n → Called g (c_addition request lent) (c_added n lent') h
  c_steps : {x : Given} {l l' : Rows} {lent h lent' : List ℕ} {n : ℕ} → StepCalled x g l lent h l' lent' n → Called g (c_stepping x l lent) (c_stepped n lent' l') h
  c_writes : {ws : List Write} → Called g (c_impulses ws) c_silent (write_words g ws)

unfoldable pub CRun : List ℕ → (cs : List CEntry) → COutcomes cs → Type 0
CRun g [] c_end = Unit {0}
CRun g (c ∷ cs) (r before rs) = Called g c r.told r.graph × CRun r.graph cs rs

-- ---- as a list of the public calls
-- the rows of a function's own, its request and the row for its answer, have their lengths
abbrev pub own_rows : CEntry → Bool
own_rows (c_addition request lent) = long request request_length && long lent add_answer_length
own_rows (c_stepping x l lent) = long lent step_answer_length
own_rows (c_impulses ws) = true

-- where they have not: 1, and every row as it was
pub data OwnRefusal : (c : CEntry) → CTold c → Type 0 where
  own_addition : {request lent lent' : List ℕ} {n : ℕ} → n ≡ 1 → lent' ≡ lent → OwnRefusal (c_addition request lent) (c_added n lent')
  own_step : {x : Given} {l l' : Rows} {lent lent' : List ℕ} {n : ℕ} → n ≡ 1 → lent' ≡ lent → l' ≡ l → OwnRefusal (c_stepping x l lent) (c_stepped n lent' l')

-- where they have: the number and the row for the answer are what the public call's answer says; a step's rows are the same
pub data Says : (c : CEntry) → CTold c → (e : runs.Entry) → Told e → Type 0 where
  says_added : {request lent lent' : List ℕ} {n : ℕ} {r : Result ContactId Refusal} → n ≡ id_number (add_answer r) → lent' ≡ id_row lent (add_answer r)
      → Says (c_addition request lent) (c_added n lent') (runs.addition (request_of request)) (runs.added r)
  says_stepped : {x : Given} {l l' : Rows} {lent lent' : List ℕ} {n : ℕ} {r : Result StepReport Refusal} → n ≡ report_number (plain_answer r) → lent' ≡ report_row lent (plain_answer r)
      → Says (c_stepping x l lent) (c_stepped n lent' l') (runs.stepping x l) (runs.stepped r l')
  says_nothing : {ws : List Write} → Says (c_impulses ws) c_silent (runs.impulses ws) runs.silent

pub data AsRun : List ℕ → (cs : List CEntry) → COutcomes cs → (es : List runs.Entry) → Outcomes es → Type 0 where
  as_end : {g : List ℕ} → AsRun g [] c_end [] end
  as_own : {g : List ℕ} {c : CEntry} {cs : List CEntry} {r : COutcome c} {rs : COutcomes cs} {es : List runs.Entry} {os : Outcomes es}
      → own_rows c ≡ false → OwnRefusal c r.told → r.graph ≡ g → AsRun r.graph cs rs es os → AsRun g (c ∷ cs) (r before rs) es os
  as_call : {g : List ℕ} {c : CEntry} {cs : List CEntry} {r : COutcome c} {rs : COutcomes cs} {e : runs.Entry} {o : Outcome e} {es : List runs.Entry} {os : Outcomes es}
      → own_rows c ≡ true → Says c r.told e o.told → o.graph ≡ r.graph → AsRun r.graph cs rs es os → AsRun g (c ∷ cs) (r before rs) (e ∷ es) (o then os)
