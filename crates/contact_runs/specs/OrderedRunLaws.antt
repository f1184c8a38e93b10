-- The code's runs are runs in which each accepted step has an order of its own, and whatever the orders, such a run keeps the promises. Assumes nothing.
use Rattle.std.specs.Prelude.{ℕ, zero, suc, ◌≡◌, refl, ◌≢◌, Bool, cond, List, [], ◌∷◌, eqb, length, Ok, Result}
use Rattle.std.proofs.Common.{arith, sym, ap, subst, ◌∙◌, ne_eqb}
use Rattle.std.proofs.Math.Dec.{eqb-suc-zero}
use Rattle.rows.specs.Slots.{Distinct, SameMembers}
use Rattle.step.specs.AcceptedLaws.{accepted}
use Rattle.step.specs.Step as step
use Rattle.step.specs.Step.{Given, Rows, Stepped, step_refusal, pass_of, rows_of, answer_of, plain_answer}
use Rattle.status_pass.specs.Pass.{Passing}
use Rattle.update_pass.specs.BitsLaws.{entries_active}
use Rattle.update_pass.specs.Shared.{active_of, entries_of}
use Rattle.contact_runs.specs.Runs as runs
use Rattle.contact_runs.specs.Runs.{Entry, stepping, Told, stepped, Outcomes, end, ◌then◌, Calling, Promised, Ordered, Run}
use Rattle.contact_runs.specs.OrderLaws.{pass_in_order, rows_in_order, answer_in_order}
use Rattle.contact_runs.specs.Ordered.{stage_at, update_each, pass_after, rows_after, answer_after, InOrder}
use Rattle.step.specs.declared.answer.StepReport.{StepReport}
use Rattle.contact_types.specs.declared.refusal.Refusal.{Refusal}

not_suc_zero : (n : ℕ) → suc n ≡ 0 → ⊥
not_suc_zero n e = omega arith

-- ---- a step
module _ (x : Given) (g : List ℕ) (l : Rows) where
  -- by its number: the order of the shares, or nothing
  step_by : (n : ℕ) → step_refusal x g l ≡ n → {h : List ℕ} {l' : Rows} {r : Result StepReport Refusal}
      → plain_answer r ≡ cond (eqb n 0) (answer_of x g) (step.refused n) → h ≡ cond (eqb n 0) (pass_of x g).graph g → l' ≡ cond (eqb n 0) (rows_of x g l) l
      → Ordered g (stepping x l) (stepped r l') h
  step_by zero z p q s =
      let a = accepted x g l z in
      let e = entries_active x.shares g a.checked a.shares in
      let ids = entries_of x.shares in
      runs.Ordered.steps ids (record {
        accepted = z;
        once = e.entries_apart;
        active = e.same;
        answer = p ∙ sym (answer_in_order a ids e.entries_apart e.same);
        graph = q ∙ ap (λ (t : Passing). t.graph) (sym (pass_in_order a ids e.entries_apart e.same));
        rows = s ∙ sym (rows_in_order a ids e.entries_apart e.same);
      })
  step_by (suc n) z {r = r} p q s =
      let b = eqb-suc-zero n in
      let e = q ∙ ap (λ (t : Bool). cond t (pass_of x g).graph g) b in
      let f = s ∙ ap (λ (t : Bool). cond t (rows_of x g l) l) b in
      let c : Ordered g (stepping x l) (stepped r l) g =
      runs.Ordered.refuses (λ y. not_suc_zero n (sym z ∙ y)) (p ∙ ap (λ (t : Bool). cond t (answer_of x g) (step.refused (suc n))) b ∙ ap step.refused (sym z)) in
      moved (sym e) (sym f) c
    where
      moved : {h : List ℕ} {l' : Rows} → g ≡ h → l ≡ l' → Ordered g (stepping x l) (stepped r l) g → Ordered g (stepping x l) (stepped r l') h
      moved {h} {l'} e f c = subst (λ (k : List ℕ). Ordered g (stepping x l) (stepped r l') k) e (subst (λ (m : Rows). Ordered g (stepping x l) (stepped r m) g) f c)

  ordered_step : {h : List ℕ} {l' : Rows} {r : Result StepReport Refusal} → Stepped x g l h l' r → Ordered g (stepping x l) (stepped r l') h
  ordered_step k = step_by (step_refusal x g l) refl k.answer k.graph k.rows

  refused_step : {r : Result StepReport Refusal} → step_refusal x g l ≢ 0 → plain_answer r ≡ step.refused (step_refusal x g l) → Stepped x g l g l r
  refused_step n p =
      let b = sym (ne_eqb (step_refusal x g l) 0 n) in
      record {
        answer = p ∙ ap (λ (t : Bool). cond t (answer_of x g) (step.refused (step_refusal x g l))) b;
        graph = ap (λ (t : Bool). cond t (pass_of x g).graph g) b;
        rows = ap (λ (t : Bool). cond t (rows_of x g l) l) b;
      }

  step_in_order : {h : List ℕ} {l' : Rows} {r : Result StepReport Refusal} (ids : List ℕ) → InOrder x g l ids h l' r → Stepped x g l h l' r
  step_in_order ids i =
      let a = accepted x g l i.accepted in
      let z = sym i.accepted in
      record {
        answer = i.answer ∙ answer_in_order a ids i.once i.active ∙ ap (λ (n : ℕ). cond (eqb n 0) (answer_of x g) (step.refused n)) z;
        graph = i.graph ∙ ap (λ (t : Passing). t.graph) (pass_in_order a ids i.once i.active) ∙ ap (λ (n : ℕ). cond (eqb n 0) (pass_of x g).graph g) z;
        rows = i.rows ∙ rows_in_order a ids i.once i.active ∙ ap (λ (n : ℕ). cond (eqb n 0) (rows_of x g l) l) z;
      }

-- every order of the active contacts has its outcome
pub any_in_order : (x : Given) (g : List ℕ) (l : Rows) (ids : List ℕ) → step_refusal x g l ≡ 0 → Distinct ids → SameMembers ids (active_of g)
    → (h : List ℕ) × (l' : Rows) × (r : Result StepReport Refusal) × InOrder x g l ids h l' r
unfolding answer_after
any_in_order x g l ids z d m =
    let s = update_each x (stage_at g) ids in
    let p = pass_after g s in (
      p.graph,
      rows_after g s l,
      Ok (record { events = length p.events; changes = length p.changes; recycled = s.recycled }),
      record { accepted = z; once = d; active = m; answer = refl; graph = refl; rows = refl },
    )

-- ---- a call
ordered_call : (g : List ℕ) {e : Entry} {t : Told e} {h : List ℕ} → Promised g e t h → Ordered g e t h
ordered_call g (runs.Promised.adds f k) = runs.Ordered.adds f k
ordered_call g (runs.Promised.steps {x} {l} k) = ordered_step x g l k
ordered_call g runs.Promised.writes = runs.Ordered.writes

promised_call : (g : List ℕ) {e : Entry} {t : Told e} {h : List ℕ} → Ordered g e t h → Promised g e t h
promised_call g (runs.Ordered.adds f k) = runs.Promised.adds f k
promised_call g (runs.Ordered.refuses {x} {l} n p) = runs.Promised.steps (refused_step x g l n p)
promised_call g (runs.Ordered.steps {x} {l} ids i) = runs.Promised.steps (step_in_order x g l ids i)
promised_call g runs.Ordered.writes = runs.Promised.writes

-- ---- a list of calls
run_as : (C D : Calling) → ((g : List ℕ) (e : Entry) (t : Told e) (h : List ℕ) → C g e t h → D g e t h) → (g : List ℕ) (es : List Entry) (os : Outcomes es) → Run C g es os → Run D g es os
unfolding Run
run_as C D f g [] end r = tt
run_as C D f g (e ∷ es) (o then os) r = (f g e o.told o.graph r.0, run_as C D f o.graph es os r.1)

pub run_ordered : (g : List ℕ) (es : List Entry) (os : Outcomes es) → Run Promised g es os → Run Ordered g es os
run_ordered = run_as Promised Ordered (λ g e t h c. ordered_call g c)

pub run_promised : (g : List ℕ) (es : List Entry) (os : Outcomes es) → Run Ordered g es os → Run Promised g es os
run_promised = run_as Ordered Promised (λ g e t h c. promised_call g c)
