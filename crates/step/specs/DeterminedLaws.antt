-- The step's promise has one outcome, and no other: the answer itself and every lent word. Assumes nothing.
use Rattle.std.specs.Prelude.{ℕ, ◌≡◌, Bool, cond, not, List, eqb, Err, Ok, Result}
use Rattle.std.proofs.Math.Path.{refl}
use Rattle.std.proofs.Common.{sym, ap, ◌∙◌}
use Rattle.std.proofs.Math.Logic.{inl, inr}
use Rattle.std.proofs.Math.Bool.{true, false}
use Rattle.std.proofs.Math.ListN.{length}
use Rattle.contact_types.specs.RefusalLaws.{same_by, refusal_for, refusal_for_lem, Numbered, answered_by}
use Rattle.contact_types.specs.declared.refusal.Refusal.TheVariants.{WrongLength, OutOfRange, ProposalTooLarge, InvalidShares}
use Rattle.shares.specs.Shares.{shares_fit}
use Rattle.update_pass.specs.Shared.{active_of, recycled_of}
use Rattle.step.specs.Step.{Given, Rows, lengths_fit, numbers_fit, proposals_fit, step_refusal, made_of, pass_of, rows_of, Answer, refused, stepped, plain_answer, answer_of, Stepped}
use Rattle.step.specs.declared.answer.StepReport.{StepReport}
use Rattle.contact_types.specs.declared.refusal.Refusal.{Refusal}

abbrev step_of : Answer → Result StepReport Refusal
step_of (stepped events changes recycled) = Ok (record { events = events; changes = changes; recycled = recycled })
step_of (refused n) = Err (refusal_for n)

step_of_lem : (r : Result StepReport Refusal) → step_of (plain_answer r) ≡ r
step_of_lem (Ok r) = refl
step_of_lem (Err r) = ap Err (refusal_for_lem r)

module _ (x : Given) (g : List ℕ) (l : Rows) where
  step_numbered : Numbered (step_refusal x g l)
  unfolding step_refusal
  step_numbered = tests (lengths_fit x g l) (numbers_fit x g) (proposals_fit x.proposals g) (shares_fit x.shares g)
    where
      tests : (a b c d : Bool) → Numbered (cond (not a) 1 (cond (not b) 2 (cond (not c) 6 (cond (not d) 7 0))))
      tests false b c d = inr (WrongLength, refl)
      tests true false c d = inr (OutOfRange, refl)
      tests true true false d = inr (ProposalTooLarge, refl)
      tests true true true false = inr (InvalidShares, refl)
      tests true true true true = inl refl

  pub step_determined : {g' g'' : List ℕ} {l' l'' : Rows} {r r' : Result StepReport Refusal} → Stepped x g l g' l' r → Stepped x g l g'' l'' r' → (r' ≡ r) × (g'' ≡ g') × (l'' ≡ l')
  step_determined p q = (same_by plain_answer step_of step_of_lem p.answer q.answer, q.graph ∙ sym p.graph, q.rows ∙ sym p.rows)

  pub step_answered : (r : Result StepReport Refusal) × Stepped x g l (cond (eqb (step_refusal x g l) 0) (pass_of x g).graph g) (cond (eqb (step_refusal x g l) 0) (rows_of x g l) l) r
  unfolding answer_of
  step_answered =
      let events = length (pass_of x g).events in
      let changes = length (pass_of x g).changes in
      let recycled = recycled_of (made_of x g) (active_of g) in
      let a = answered_by plain_answer refused (Ok (record { events = events; changes = changes; recycled = recycled })) Err (answer_of x g) refl (λ r. refl) (step_refusal x g l) step_numbered in
      (a.0, record { answer = a.1; graph = refl; rows = refl })
