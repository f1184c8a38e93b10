-- A trace's entries as calls, made directly, and what each call's answer prints. Definitions only.
use Rattle.std.specs.Prelude.{ℕ, ◌≡◌, true, false, List, [], ◌∷◌, ◌++◌, Err, Ok, Result}
use Rattle.contact_types.specs.Refusals.{number_of}
use Rattle.contact_range.specs.Recorded.{capacity_of}
use Rattle.contact_graph.specs.Calls.{request_of}
use Rattle.step.specs.Step.{Rows}
use Rattle.contact_runs.specs.Runs as runs
use Rattle.contact_runs.specs.Runs.{Outcomes, end, ◌then◌}
use Rattle.trace_rules.specs.Play.{given_by, blank_rows}
use Rattle.trace_rules.specs.Printed.{refused_text}
use Rattle.trace_rules.specs.Records.{StepRecord, Entry, addition, stepping}
use Rattle.trace_player.specs.Played.{answer_text}
use Rattle.step.specs.declared.answer.StepReport.{StepReport}
use Rattle.contact_types.specs.declared.refusal.Refusal.{Refusal}
use Rattle.contact_types.specs.declared.contact_id.ContactId.{ContactId}

-- an addition that is made prints nothing, a refused one its number
abbrev pub addition_text : Result ContactId Refusal → List ℕ
addition_text (Ok id) = []
addition_text (Err r) = refused_text (number_of r)

-- On a graph, entries of a trace, calls with their outcomes, and the calls' texts one after another. Each entry is one call; but a go after a line with a number out of range
-- is none: it prints 2, and the graph is as it was. A step is given what the trace's lines say, and lent rows of zeros of the lengths for the graph.
pub data AsCalls : List ℕ → List Entry → (cs : List runs.Entry) → Outcomes cs → List ℕ → Type 0 where
  as_end : {g : List ℕ} → AsCalls g [] [] end []
  as_addition : {g h words text : List ℕ} {es : List Entry} {cs : List runs.Entry} {os : Outcomes cs} {r : Result ContactId Refusal} → AsCalls h es cs os text
      → AsCalls g (addition words ∷ es) (runs.addition (request_of words) ∷ cs) (record { told = runs.added r; graph = h } then os) (addition_text r ++ text)
  as_step : {g h text : List ℕ} {s : StepRecord} {es : List Entry} {cs : List runs.Entry} {os : Outcomes cs} {r : Result StepReport Refusal} {l : Rows} → s.fits ≡ true → AsCalls h es cs os text
      → AsCalls g (stepping s ∷ es) (runs.stepping (given_by s g) (blank_rows (capacity_of g)) ∷ cs) (record { told = runs.stepped r l; graph = h } then os)
      (answer_text r l.events l.changes ++ text)
  as_unfit : {g text : List ℕ} {s : StepRecord} {es : List Entry} {cs : List runs.Entry} {os : Outcomes cs} → s.fits ≡ false → AsCalls g es cs os text
      → AsCalls g (stepping s ∷ es) cs os (refused_text 2 ++ text)

-- the graph after the last call
unfoldable pub last_graph : {cs : List runs.Entry} → List ℕ → Outcomes cs → List ℕ
last_graph g end = g
last_graph g (o then os) = last_graph o.graph os
