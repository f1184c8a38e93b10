-- Every list of calls has a run on any words, and its outcomes are the only ones. Assumes nothing.
use Rattle.std.specs.Prelude.{ℕ, ◌≡◌, refl, cond, List, [], ◌∷◌, eqb}
use Rattle.std.proofs.Common.{ap, subst}
use Rattle.contact_graph.specs.Calls.{add_refusal, added_words}
use Rattle.contact_graph.specs.DeterminedLaws.{add_determined, add_answered}
use Rattle.step.specs.Step.{step_refusal, pass_of, rows_of}
use Rattle.step.specs.DeterminedLaws.{step_determined, step_answered}
use Rattle.contact_runs.specs.Runs as runs
use Rattle.contact_runs.specs.Runs.{Entry, addition, stepping, impulses, Told, added, stepped, silent, Outcome, Outcomes, end, ◌then◌, Promised, Run, Fits, AllFit}
use Rattle.contact_runs.specs.Solver.{write_words}

-- ---- a call has an outcome
call_of : (g : List ℕ) (e : Entry) → Fits e → (o : Outcome e) × Promised g e o.told o.graph
call_of g (addition a) f =
    let r = add_answered g a in
    (record { told = added r.0; graph = cond (eqb (add_refusal g a) 0) (added_words g a) g }, runs.Promised.adds f r.1)
call_of g (stepping x l) f =
    let r = step_answered x g l in
    (record { told = stepped r.0 (cond (eqb (step_refusal x g l) 0) (rows_of x g l) l); graph = cond (eqb (step_refusal x g l) 0) (pass_of x g).graph g }, runs.Promised.steps r.1)
call_of g (impulses ws) f = (record { told = silent; graph = write_words g ws }, runs.Promised.writes)

pub run_of : (g : List ℕ) (es : List Entry) → AllFit es → (os : Outcomes es) × Run Promised g es os
unfolding AllFit Run
run_of g [] f = (end, tt)
run_of g (e ∷ es) f =
    let c = call_of g e f.0 in
    let r = run_of c.0.graph es f.1 in
    (c.0 then r.0, (c.1, r.1))

-- ---- and no other
pub call_only : (g : List ℕ) {e : Entry} {t s : Told e} {h k : List ℕ} → Promised g e t h → Promised g e s k → (s ≡ t) × (k ≡ h)
call_only g (runs.Promised.adds {a} f p) (runs.Promised.adds f' q) = let d = add_determined g a p q in (ap added d.0, d.1)
call_only g (runs.Promised.steps {x} {l} p) (runs.Promised.steps q) = let d = step_determined x g l p q in ((λ i. stepped (d.0 i) (d.2 i)), d.1)
call_only g runs.Promised.writes runs.Promised.writes = (refl, refl)

pub run_only : (g : List ℕ) (es : List Entry) (os ps : Outcomes es) → Run Promised g es os → Run Promised g es ps → ps ≡ os
unfolding Run
run_only g [] end end r s = refl
run_only g (e ∷ es) (o then os) (p then ps) r s =
    let d = call_only g r.0 s.0 in
    let rest : ps ≡ os = run_only o.graph es os ps r.1 (subst (λ (h : List ℕ). Run Promised h es ps) d.1 s.1) in
    λ i. record { told = d.0 i; graph = d.1 i } then rest i
