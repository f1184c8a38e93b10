-- What each call of a list answers and the graph's words after it, by the calls' promises; and lists that are alike along these words. Assumes nothing.
use Rattle.std.specs.Prelude.{ℕ, suc, ◌≡◌, refl, Bool, true, cond, not, ◌&&◌, List, [], ◌∷◌, map, eqb, length}
use Rattle.std.proofs.Common.{sym, subst, ◌∙◌}
use Rattle.std.proofs.Math.Path.{ap}
use Rattle.std.proofs.Math.Dec.{eqb-suc-zero}
use Rattle.rows.specs.Rows.{put, each}
use Rattle.rules.specs.Runs.{plain_graph}
use Rattle.collider.specs.Range.{settings_fit, colliders_fit, bodies_fit}
use Rattle.contact_graph.specs.Calls.{add_refusal, new_id_of, added_words}
use Rattle.contact_graph.specs.Promises as graph
use Rattle.contact_graph.specs.declared.call.Request.{Request}
use Rattle.contact_range.specs.Checked.{Checked}
use Rattle.contact_range.specs.Range.{in_range}
use Rattle.contact_range.specs.Recorded.{graph_of}
use Rattle.shares.specs.Shares.{shares_fit}
use Rattle.status_pass.specs.Pass.{Passing}
use Rattle.status_pass.specs.EventsAndChanges.{event_words, change_words}
use Rattle.step.specs.Step as step
use Rattle.step.specs.Step.{Given, Rows, lengths_fit, hooks_fit, rows_in_range, proposals_fit, step_refusal, made_of, pass_of, rows_of, answer_of}
use Rattle.update_pass.specs.Shared.{active_of, recycled_of}
use Rattle.contact_runs.specs.Runs as runs
use Rattle.contact_runs.specs.Claim.{plain_of, Alike, alike_same, AllAlike, alike_end, alike_then}
use Rattle.contact_runs.specs.Runs.{Entry, addition, stepping, impulses, Told, Outcomes, end, ◌then◌, Promised, Run}
use Rattle.contact_runs.specs.RunLaws.{call_plain}
use Rattle.contact_runs.specs.Solver.{write_words}
use Rattle.contact_run_examples.specs.Seen.{Answer, of_addition, of_step, of_writes, Seen, told_answer, seen}

-- ---- after a call
abbrev pub next_graph : List ℕ → Entry → List ℕ
next_graph g (addition a) = cond (eqb (add_refusal g a) 0) (added_words g a) g
next_graph g (stepping x l) = cond (eqb (step_refusal x g l) 0) (pass_of x g).graph g
next_graph g (impulses ws) = write_words g ws

abbrev pub next_answer : List ℕ → Entry → Answer
next_answer g (addition a) = of_addition (cond (eqb (add_refusal g a) 0) (graph.added (new_id_of g)) (graph.refused_id (add_refusal g a)))
next_answer g (stepping x l) = of_step (cond (eqb (step_refusal x g l) 0) (answer_of x g) (step.refused (step_refusal x g l)))
next_answer g (impulses ws) = of_writes

told_next : (g : List ℕ) {e : Entry} {t : Told e} {h : List ℕ} → Promised g e t h → (told_answer t ≡ next_answer g e) × (h ≡ next_graph g e)
told_next g (runs.Promised.adds f k) = (ap of_addition k.answer, k.graph)
told_next g (runs.Promised.steps k) = (ap of_step k.answer, k.graph)
told_next g runs.Promised.writes = (refl, refl)

-- by its refusal's number
abbrev pub Next : List ℕ → Entry → Seen → Type 0
Next g e s = (next_answer g e ≡ s.answer) × (next_graph g e ≡ s.graph)

pub added_next : (g : List ℕ) (a : Request) (id : ℕ) {h : List ℕ} → add_refusal g a ≡ 0 → new_id_of g ≡ id → added_words g a ≡ h
    → Next g (addition a) (record { answer = of_addition (graph.added id); graph = h })
added_next g a id e n w = (
  ap (λ (m : ℕ). of_addition (cond (eqb m 0) (graph.added (new_id_of g)) (graph.refused_id m))) e ∙ ap (λ (m : ℕ). of_addition (graph.added m)) n,
  ap (λ (m : ℕ). cond (eqb m 0) (added_words g a) g) e ∙ w,
)

pub unadded_next : (g : List ℕ) (a : Request) (n : ℕ) → add_refusal g a ≡ suc n → Next g (addition a) (record { answer = of_addition (graph.refused_id (suc n)); graph = g })
unadded_next g a n e = (
  ap (λ (m : ℕ). of_addition (cond (eqb m 0) (graph.added (new_id_of g)) (graph.refused_id m))) e
      ∙ ap (λ (b : Bool). of_addition (cond b (graph.added (new_id_of g)) (graph.refused_id (suc n)))) (eqb-suc-zero n),
  ap (λ (m : ℕ). cond (eqb m 0) (added_words g a) g) e ∙ ap (λ (b : Bool). cond b (added_words g a) g) (eqb-suc-zero n),
)

module _ (x : Given) (g : List ℕ) (l : Rows) where
  pub stepped_next : {p : Passing} {r : step.Answer} → step_refusal x g l ≡ 0 → pass_of x g ≡ p → answer_of x g ≡ r
      → Next g (stepping x l) (record { answer = of_step r; graph = p.graph })
  stepped_next e w a = (
    ap (λ (n : ℕ). of_step (cond (eqb n 0) (answer_of x g) (step.refused n))) e ∙ ap of_step a,
    ap (λ (n : ℕ). cond (eqb n 0) (pass_of x g).graph g) e ∙ ap (λ (p : Passing). p.graph) w,
  )

  pub unstepped_next : (n : ℕ) → step_refusal x g l ≡ suc n → Next g (stepping x l) (record { answer = of_step (step.refused (suc n)); graph = g })
  unstepped_next n e = (
    ap (λ (m : ℕ). of_step (cond (eqb m 0) (answer_of x g) (step.refused m))) e ∙ ap (λ (b : Bool). of_step (cond b (answer_of x g) (step.refused (suc n)))) (eqb-suc-zero n),
    ap (λ (m : ℕ). cond (eqb m 0) (pass_of x g).graph g) e ∙ ap (λ (b : Bool). cond b (pass_of x g).graph g) (eqb-suc-zero n),
  )

  -- ---- what a step answers and writes, by what its pass comes to
  pub report_by : (p : Passing) (n : ℕ) → pass_of x g ≡ p → recycled_of (made_of x g) (active_of g) ≡ n → answer_of x g ≡ step.stepped (length p.events) (length p.changes) n
  unfolding answer_of
  report_by p n e r = λ i. step.stepped (length (e i).events) (length (e i).changes) (r i)

  pub event_row_lem : {p : Passing} → pass_of x g ≡ p → (rows_of x g l).events ≡ put l.events 0 (each event_words p.events)
  unfolding rows_of
  event_row_lem e = ap (λ (p : Passing). put l.events 0 (each event_words p.events)) e

  pub change_row_lem : {p : Passing} → pass_of x g ≡ p → (rows_of x g l).changes ≡ put l.changes 0 (each change_words p.changes)
  unfolding rows_of
  change_row_lem e = ap (λ (p : Passing). put l.changes 0 (each change_words p.changes)) e

  -- its refusal's number, where colliders and bodies are known to be in range
  abbrev pub refusal_if : Bool → Bool → ℕ
  refusal_if c b =
      cond (not (lengths_fit x g l)) 1
      (cond (not (settings_fit x.settings && (c && (b && (in_range g && hooks_fit x.proposals g))))) 2
      (cond (not (proposals_fit x.proposals g)) 6 (cond (not (shares_fit x.shares g)) 7 0)))

  pub refusal_by : (n : ℕ) → colliders_fit x.colliders ≡ true → bodies_fit x.bodies ≡ true → refusal_if true true ≡ n → step_refusal x g l ≡ n
  unfolding step_refusal rows_in_range
  refusal_by n c b r = (λ i. refusal_if (c i) (b i)) ∙ r

-- ---- after each call of a list
pub data Comes : List ℕ → List Entry → List Seen → Type 0 where
  done : {g : List ℕ} → Comes g [] []
  by : {g : List ℕ} {e : Entry} {es : List Entry} {s : Seen} {ss : List Seen} → Next g e s → Comes s.graph es ss → Comes g (e ∷ es) (s ∷ ss)

pub run_seen : (g : List ℕ) (es : List Entry) (os : Outcomes es) {ss : List Seen} → Run Promised g es os → Comes g es ss → seen os ≡ ss
unfolding Run seen
run_seen g [] end r done = refl
run_seen g (e ∷ es) (o then os) r (by {s = s} {ss = ss} n q) =
    let t = told_next g r.0 in
    let a = t.0 ∙ n.0 in
    let h = t.1 ∙ n.1 in
    let rest = run_seen o.graph es os r.1 (subst (λ (k : List ℕ). Comes k es ss) (sym h) q) in
    λ i. record { answer = a i; graph = h i } ∷ rest i

-- the words at the end, and what they record
unfoldable pub last_graph : List ℕ → List Seen → List ℕ
last_graph g [] = g
last_graph g (s ∷ ss) = last_graph s.graph ss

pub last_plain : (g : List ℕ) → Checked g → (es : List Entry) (os : Outcomes es) → Run Promised g es os → plain_graph (map plain_of es) (graph_of g) ≡ graph_of (last_graph g (seen os))
unfolding Run plain_graph seen last_graph
last_plain g c [] end r = refl
last_plain g c (e ∷ es) (o then os) r =
    let m = call_plain g c r.0 in
    ap (plain_graph (map plain_of es)) (sym m.2) ∙ last_plain o.graph m.0 es os r.1

-- ---- two lists that are alike along these words are alike along the first one's run
pub data AlikeFrom : List ℕ → List Entry → List Entry → Type 0 where
  from_end : {g : List ℕ} → AlikeFrom g [] []
  from_then : {g h : List ℕ} {e f : Entry} {es fs : List Entry} → Alike g e f → next_graph g e ≡ h → AlikeFrom h es fs → AlikeFrom g (e ∷ es) (f ∷ fs)

pub from_same : (g : List ℕ) (es : List Entry) → AlikeFrom g es es
from_same g [] = from_end
from_same g (e ∷ es) = from_then alike_same refl (from_same (next_graph g e) es)

pub all_alike : (g : List ℕ) (es fs : List Entry) (os : Outcomes es) → Run Promised g es os → AlikeFrom g es fs → AllAlike g es os fs
unfolding Run
all_alike g [] fs end r from_end = alike_end
all_alike g (e ∷ es) fs (o then os) r (from_then {fs = gs} a n k) =
    alike_then a (all_alike o.graph es gs os r.1 (subst (λ (h : List ℕ). AlikeFrom h es gs) (sym n ∙ sym (told_next g r.0).1) k))
