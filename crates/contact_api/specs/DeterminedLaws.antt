-- Each C function's promise determines the number and every lent word. Assumes nothing.
use Rattle.std.specs.Prelude.{ℕ, ◌≡◌, List}
use Rattle.std.proofs.Common.{sym, ◌∙◌}
use Rattle.step.specs.Step.{Given, Rows}
use Rattle.contact_api.specs.Calls.{LayOutCalled, AddCalled, LookUpCalled, RemoveCalled, StepCalled, PruneCalled, LengthsCalled, LayoutCalled}

pub lay_out_called_determined : (before : List ℕ) (capacity : ℕ) {after after' : List ℕ} {r r' : ℕ} → LayOutCalled before capacity after r → LayOutCalled before capacity after' r' → (r' ≡ r) × (after' ≡ after)
lay_out_called_determined before capacity p q = (q.number ∙ sym p.number, q.graph ∙ sym p.graph)

pub add_called_determined : (before request lent : List ℕ) {after after' lent' lent'' : List ℕ} {r r' : ℕ}
    → AddCalled before request lent after lent' r → AddCalled before request lent after' lent'' r' → (r' ≡ r) × (after' ≡ after) × (lent'' ≡ lent')
add_called_determined before request lent p q = (q.number ∙ sym p.number, q.graph ∙ sym p.graph, q.answer ∙ sym p.answer)

pub look_up_called_determined : (g : List ℕ) (id : ℕ) (lent : List ℕ) {lent' lent'' : List ℕ} {r r' : ℕ} → LookUpCalled g id lent lent' r → LookUpCalled g id lent lent'' r' → (r' ≡ r) × (lent'' ≡ lent')
look_up_called_determined g id lent p q = (q.number ∙ sym p.number, q.answer ∙ sym p.answer)

pub remove_called_determined : (before : List ℕ) (id : ℕ) {after after' : List ℕ} {r r' : ℕ} → RemoveCalled before id after r → RemoveCalled before id after' r' → (r' ≡ r) × (after' ≡ after)
remove_called_determined before id p q = (q.number ∙ sym p.number, q.graph ∙ sym p.graph)

pub step_called_determined : (x : Given) (g : List ℕ) (l : Rows) (lent : List ℕ) {g' g'' lent' lent'' : List ℕ} {l' l'' : Rows} {r r' : ℕ}
    → StepCalled x g l lent g' l' lent' r → StepCalled x g l lent g'' l'' lent'' r' → (r' ≡ r) × (g'' ≡ g') × (l'' ≡ l') × (lent'' ≡ lent')
step_called_determined x g l lent p q = (q.number ∙ sym p.number, q.graph ∙ sym p.graph, q.rows ∙ sym p.rows, q.answer ∙ sym p.answer)

pub prune_called_determined : (normal points : List ℕ) (count : ℕ) (lent : List ℕ) {lent' lent'' : List ℕ} {r r' : ℕ}
    → PruneCalled normal points count lent lent' r → PruneCalled normal points count lent lent'' r' → (r' ≡ r) × (lent'' ≡ lent')
prune_called_determined normal points count lent p q = (q.number ∙ sym p.number, q.answer ∙ sym p.answer)

pub lengths_called_determined : (capacity : ℕ) (lent : List ℕ) {lent' lent'' : List ℕ} {r r' : ℕ} → LengthsCalled capacity lent lent' r → LengthsCalled capacity lent lent'' r' → (r' ≡ r) × (lent'' ≡ lent')
lengths_called_determined capacity lent p q = (q.number ∙ sym p.number, q.answer ∙ sym p.answer)

pub layout_called_determined : (lent : List ℕ) {lent' lent'' : List ℕ} {r r' : ℕ} → LayoutCalled lent lent' r → LayoutCalled lent lent'' r' → (r' ≡ r) × (lent'' ≡ lent')
layout_called_determined lent p q = (q.number ∙ sym p.number, q.answer ∙ sym p.answer)
