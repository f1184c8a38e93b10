-- The step's answer by its refusal. Assumes nothing.
use Rattle.std.specs.Prelude.{ℕ, ◌≡◌, true, ◌&&◌, List, Err, Ok}
use Rattle.contact_graph.specs.CallLaws.{checked}
use Rattle.contact_range.specs.Checked.{Checked}
use Rattle.contact_range.specs.Range.{right_length}
use Rattle.contact_range.specs.RangeLaws.{first_of_lem, rest_of}
use Rattle.contact_range.specs.Recorded.{capacity_of}
use Rattle.contact_types.specs.Refusals.{number_of}
use Rattle.contact_types.specs.RefusalLaws.{some_number}
use Rattle.contact_types.specs.declared.refusal.Refusal.{Refusal}
use Rattle.step.specs.AcceptedLaws.{GivenWords, given_words, number_tests}
use Rattle.step.specs.Step.{Given, Rows, given_long, rows_long, lengths_fit, numbers_fit, step_refusal, StepDone, Stepped}
use Rattle.step.specs.declared.answer.StepReport.{StepReport}

module _ (x : Given) (g : List ℕ) (l : Rows) where
  pub step_refused : (r : Refusal) → step_refusal x g l ≡ number_of r → Stepped x g l g l (Err r)
  step_refused r e = let z = some_number r in record { answer = rw (e, z); graph = rw (e, z); rows = rw (e, z) }

  pub step_kept : {g' : List ℕ} {l' : Rows} {r : StepReport} → step_refusal x g l ≡ 0 → StepDone x g l g' l' r → Stepped x g l g' l' (Ok r)
  step_kept e d = record { answer = rw e d.answer; graph = rw e d.graph; rows = rw e d.rows }

  -- ---- what the tests before tell
  pub lengths_right : lengths_fit x g l ≡ true → right_length g ≡ true
  unfolding lengths_fit
  lengths_right e = first_of_lem (right_length g) (given_long x (capacity_of g) && rows_long l (capacity_of g)) e

  pub lengths_given : lengths_fit x g l ≡ true → GivenWords x (capacity_of g)
  unfolding lengths_fit
  lengths_given e =
      given_words x (capacity_of g)
      (first_of_lem (given_long x (capacity_of g)) (rows_long l (capacity_of g)) (rest_of (right_length g) (given_long x (capacity_of g) && rows_long l (capacity_of g)) e))

  pub numbers_checked : lengths_fit x g l ≡ true → numbers_fit x g ≡ true → Checked g
  numbers_checked e f = checked (lengths_right e) (number_tests x g f).range
