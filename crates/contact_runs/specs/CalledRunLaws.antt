-- Every list of calls of the C functions has a run, and it is a run of the public calls, so that the claim holds of it. Assumes nothing.
use Rattle.std.specs.Prelude.{ℕ, ◌≡◌, refl, ◌⊎◌, Bool, List, [], ◌∷◌, eqb}
use Rattle.std.proofs.Common.{sym, subst, ◌∙◌, true≢false}
use Rattle.std.proofs.Math.Path.{ap}
use Rattle.std.proofs.Math.Logic.{inl, inr}
use Rattle.std.proofs.Math.Bool.{true, false, cond}
use Rattle.words.specs.WordLaws.{read_fits}
use Rattle.contact_api.specs.CalledLaws.{called_added, called_stepped}
use Rattle.contact_api.specs.Calls.{unless_refused, add_number, report_words, step_number, AddCalled, StepCalled}
use Rattle.contact_graph.specs.Calls.{request_of, add_refusal, new_id_of, added_words}
use Rattle.step.specs.Step.{Given, Rows, step_refusal, pass_of, rows_of, answer_of}
use Rattle.contact_runs.specs.Called.{CEntry, c_addition, c_stepping, c_impulses, CTold, c_added, c_stepped, c_silent, COutcome, COutcomes, c_end, ◌before◌, Called, c_adds, c_steps, c_writes, CRun, own_rows, OwnRefusal, own_addition, own_step, Says, says_added, says_stepped, says_nothing, AsRun, as_end, as_own, as_call}
use Rattle.contact_runs.specs.Runs as runs
use Rattle.contact_runs.specs.Runs.{Told, Outcomes, end, ◌then◌, Promised, Run}
use Rattle.contact_runs.specs.Solver.{write_words}

-- ---- a call has an outcome
c_call_of : (g : List ℕ) (c : CEntry) → (o : COutcome c) × Called g c o.told o.graph
c_call_of g (c_addition request lent) =
    let n = add_number g request lent in
    (record { told = c_added n (unless_refused n (new_id_of g ∷ []) lent); graph = unless_refused n (added_words g (request_of request)) g }, c_adds (record { number = refl; graph = refl; answer = refl }))
c_call_of g (c_stepping x l lent) =
    let n = step_number x g l lent in (
      record { told = c_stepped n (unless_refused n (report_words (answer_of x g)) lent) (cond (eqb n 0) (rows_of x g l) l); graph = unless_refused n (pass_of x g).graph g },
      c_steps (record { number = refl; graph = refl; rows = refl; answer = refl }),
    )
c_call_of g (c_impulses ws) = (record { told = c_silent; graph = write_words g ws }, c_writes)

pub c_run_of : (g : List ℕ) (cs : List CEntry) → (rs : COutcomes cs) × CRun g cs rs
unfolding CRun
c_run_of g [] = (c_end, tt)
c_run_of g (c ∷ cs) =
    let o = c_call_of g c in
    let r = c_run_of o.0.graph cs in
    (o.0 before r.0, (o.1, r.1))

-- ---- one call
-- refused for a row of its own, or a public call
abbrev Through : List ℕ → (c : CEntry) → CTold c → List ℕ → Type 0
Through g c t h = ((own_rows c ≡ false) × OwnRefusal c t × (h ≡ g)) ⊎ ((own_rows c ≡ true) × (e : runs.Entry) × (u : Told e) × Promised g e u h × Says c t e u)

module _ (g request lent : List ℕ) {h lent' : List ℕ} {n : ℕ} (k : AddCalled g request lent h lent' n) where
  adds_through : (b : Bool) → own_rows (c_addition request lent) ≡ b → Through g (c_addition request lent) (c_added n lent') h
  unfolding add_number
  adds_through false e =
      let m : add_number g request lent ≡ 1 = ap (λ (t : Bool). cond t (add_refusal g (request_of request)) 1) e in
      inl (
        e,
        own_addition (k.number ∙ m) (k.answer ∙ ap (λ (j : ℕ). unless_refused j (new_id_of g ∷ []) lent) m),
        k.graph ∙ ap (λ (j : ℕ). unless_refused j (added_words g (request_of request)) g) m,
      )
  adds_through true e =
      elim (called_added k) [
        | inl f ↦ absurd (true≢false (sym e ∙ f.0))
        | inr (a, p, q, s) ↦ inr (e, runs.addition (request_of request), runs.added a, runs.Promised.adds (read_fits request 8) p, says_added q s)
      ]

module _ (x : Given) (g : List ℕ) (l : Rows) (lent : List ℕ) {h lent' : List ℕ} {l' : Rows} {n : ℕ} (k : StepCalled x g l lent h l' lent' n) where
  steps_through : (b : Bool) → own_rows (c_stepping x l lent) ≡ b → Through g (c_stepping x l lent) (c_stepped n lent' l') h
  unfolding step_number
  steps_through false e =
      let m : step_number x g l lent ≡ 1 = ap (λ (t : Bool). cond t (step_refusal x g l) 1) e in
      inl (
        e,
        own_step (k.number ∙ m) (k.answer ∙ ap (λ (j : ℕ). unless_refused j (report_words (answer_of x g)) lent) m) (k.rows ∙ ap (λ (j : ℕ). cond (eqb j 0) (rows_of x g l) l) m),
        k.graph ∙ ap (λ (j : ℕ). unless_refused j (pass_of x g).graph g) m,
      )
  steps_through true e =
      elim (called_stepped k) [
        | inl f ↦ absurd (true≢false (sym e ∙ f.0))
        | inr (a, p, q, s) ↦ inr (e, runs.stepping x l, runs.stepped a l', runs.Promised.steps p, says_stepped q s)
      ]

call_through : (g : List ℕ) {c : CEntry} {t : CTold c} {h : List ℕ} → Called g c t h → Through g c t h
call_through g (c_adds {request} {lent} k) = adds_through g request lent k (own_rows (c_addition request lent)) refl
call_through g (c_steps {x} {l} {lent} k) = steps_through x g l lent k (own_rows (c_stepping x l lent)) refl
call_through g (c_writes {ws}) = inr (refl, runs.impulses ws, runs.silent, runs.Promised.writes, says_nothing)

-- ---- a list of calls
abbrev RunOf : List ℕ → (cs : List CEntry) → COutcomes cs → Type 0
RunOf g cs rs = (es : List runs.Entry) × (os : Outcomes es) × Run Promised g es os × AsRun g cs rs es os

pub run_called : (g : List ℕ) (cs : List CEntry) (rs : COutcomes cs) → CRun g cs rs
    → (es : List runs.Entry) × (os : Outcomes es) × Run Promised g es os × AsRun g cs rs es os
unfolding CRun Run
run_called g [] c_end k = ([], end, tt, as_end)
run_called g (c ∷ cs) (r before rs) k = go (call_through g k.0) (run_called r.graph cs rs k.1)
  where
    go : Through g c r.told r.graph → RunOf r.graph cs rs → RunOf g (c ∷ cs) (r before rs)
    go (inl (rows, own, same)) (es, os, run, as') = (es, os, subst (λ (h : List ℕ). Run Promised h es os) same run, as_own rows own same as')
    go (inr (rows, e, u, p, says)) (es, os, run, as') = (e ∷ es, record { told = u; graph = r.graph } then os, (p, run), as_call rows says refl as')
