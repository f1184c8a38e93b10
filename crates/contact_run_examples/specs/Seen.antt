-- What is seen of a list's calls beside the rows: what each answers, and the graph's words after it. Definitions only.
use Rattle.std.specs.Prelude.{ℕ, List, [], ◌∷◌}
use Rattle.contact_graph.specs.Promises as graph
use Rattle.contact_graph.specs.Promises.{add_answer}
use Rattle.step.specs.Step as step
use Rattle.step.specs.Step.{plain_answer}
use Rattle.contact_runs.specs.Runs.{Entry, Told, added, stepped, silent, Outcomes, end, ◌then◌}

pub data Answer : Type 0 where
  of_addition : graph.IdAnswer → Answer
  of_step : step.Answer → Answer
  of_writes : Answer

pub record Seen : Type 0 where
  pub answer : Answer
  pub graph : List ℕ

abbrev pub told_answer : {e : Entry} → Told e → Answer
told_answer (added r) = of_addition (add_answer r)
told_answer (stepped r l) = of_step (plain_answer r)
told_answer silent = of_writes

unfoldable pub seen : {es : List Entry} → Outcomes es → List Seen
seen end = []
seen (o then os) = record { answer = told_answer o.told; graph = o.graph } ∷ seen os
