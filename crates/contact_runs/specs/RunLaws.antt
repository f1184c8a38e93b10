-- A call that keeps its promise, and a list of such calls, do and tell what the plain run has. Assumes nothing.
use Rattle.std.specs.Prelude.{ℕ, zero, suc, ◌≡◌, refl, Bool, cond, eqb, length, Result}
use Rattle.std.proofs.Common.{sym, subst, ◌∙◌}
use Rattle.std.proofs.Math.Path.{ap}
use mathlib.Core.List.{List, [], ◌∷◌, map}
use Rattle.std.proofs.Math.Dec.{eqb-suc-zero}
use Rattle.math.specs.Fit.{FitFloat}
use Rattle.rows.specs.Rows.{put, each}
use Rattle.rules.specs.Graph.{Graph, plain_add, new_id}
use Rattle.rules.specs.Runs as rules
use Rattle.rules.specs.Runs.{unless_refused, plain_call, plain_run}
use Rattle.rules.specs.Status.{Event, Change, plain_step}
use Rattle.contact_graph.specs.AddedGraphLaws.{added_in_range, added_id, added_graph}
use Rattle.contact_graph.specs.Calls.{addition_of, add_refusal, new_id_of, added_words}
use Rattle.contact_range.specs.Checked.{Checked}
use Rattle.contact_graph.specs.Promises as graph
use Rattle.contact_graph.specs.Promises.{Added, add_answer}
use Rattle.contact_range.specs.Recorded.{graph_of}
use Rattle.contact_graph.specs.declared.call.Request.{Request}
use Rattle.status_pass.specs.EventsAndChanges.{event_words, change_words}
use Rattle.step.specs.Step as step
use Rattle.step.specs.Step.{Given, Rows, Stepped, step_refusal, inputs, pass_of, rows_of, answer_of, plain_answer}
use Rattle.step.proofs.StepLaws.{StepMeans, step_checked, step_means}
use Rattle.contact_runs.specs.Runs as runs
use Rattle.contact_runs.specs.Claim.{plain_of, ReportIs, AnswerIs, addition_refused, addition_made, step_refused, step_made, nothing, AsPlain, plain_end, plain_then}
use Rattle.contact_runs.specs.Runs.{Entry, addition, stepping, Told, added, stepped, Outcomes, end, ◌then◌, Promised, Run}
use Rattle.step.proofs.ReadLaws.{events_read, changes_read}
use Rattle.contact_runs.specs.RefusalLaws.{add_refusal_lem, step_refusal_lem}
use Rattle.contact_runs.specs.Refusals.{plain_add_refusal, plain_step_refusal}
use Rattle.contact_runs.specs.WriteLaws.{writes_checked, writes_mean}
use Rattle.step.specs.declared.answer.StepReport.{StepReport}
use Rattle.contact_types.specs.declared.refusal.Refusal.{Refusal}
use Rattle.contact_types.specs.declared.contact_id.ContactId.{ContactId}

-- ---- a call
-- where a call leads: a graph in range, the plain answer and the plain graph
abbrev pub Leads : (e : Entry) → Told e → List ℕ → rules.After → Type 0
Leads e t h a = Checked h × AnswerIs e t a.answer × (graph_of h ≡ a.graph)

module _ (g : List ℕ) (c : Checked g) where
  -- an addition, by its number
  abbrev plain_added : Request → rules.After
  plain_added a = record { graph = plain_add (addition_of a) (graph_of g); answer = rules.added (new_id (graph_of g)) }

  added_leads : (a : Request) (h : List ℕ) (r : Result ContactId Refusal) (n : ℕ) → FitFloat a.speculative_distance → add_refusal g a ≡ n
      → add_answer r ≡ cond (eqb n 0) (graph.added (new_id_of g)) (graph.refused_id n) → h ≡ cond (eqb n 0) (added_words g a) g
      → Leads (addition a) (added r) h (unless_refused n (graph_of g) (plain_added a))
  added_leads a h r zero f z p q =
      (subst Checked (sym q) (added_in_range a c z), addition_made (p ∙ ap graph.added (added_id g)), ap graph_of q ∙ added_graph a c z f)
  added_leads a h r (suc n) f z p q =
      let e : h ≡ g = q ∙ ap (λ (b : Bool). cond b (added_words g a) g) (eqb-suc-zero n) in
      (subst Checked (sym e) c, addition_refused (p ∙ ap (λ (b : Bool). cond b (graph.added (new_id_of g)) (graph.refused_id (suc n))) (eqb-suc-zero n)), ap graph_of e)

  add_plain : (a : Request) (h : List ℕ) (r : Result ContactId Refusal) → FitFloat a.speculative_distance → Added g a h r
      → Leads (addition a) (added r) h (unless_refused (plain_add_refusal a (graph_of g)) (graph_of g) (plain_added a))
  add_plain a h r f k =
      subst (λ (n : ℕ). Leads (addition a) (added r) h (unless_refused n (graph_of g) (plain_added a))) (add_refusal_lem c a)
      (added_leads a h r (add_refusal g a) f refl k.answer k.graph)

  -- a step, by its number
  module _ (x : Given) (l : Rows) where
    abbrev plain_stepped : rules.After
    plain_stepped = record { graph = (plain_step (inputs x) (graph_of g)).graph; answer = rules.stepped (plain_step (inputs x) (graph_of g)) }

    report : step_refusal x g l ≡ 0 → (l' : Rows) (r : Result StepReport Refusal) → StepMeans x g → plain_answer r ≡ answer_of x g → l' ≡ rows_of x g l → ReportIs l l' r (plain_step (inputs x) (graph_of g))
    unfolding answer_of rows_of
    report z l' r m p q =
        record {
          answer = p ∙ (λ i. step.stepped (length (m.events i)) (length (m.changes i)) (m.recycled i));
          events = events_read x g l z l' r p q ∙ m.events;
          changes = changes_read x g l z l' r p q ∙ m.changes;
          event_row = ap (λ (t : Rows). t.events) q ∙ ap (λ (es : List Event). put l.events 0 (each event_words es)) m.events;
          change_row = ap (λ (t : Rows). t.changes) q ∙ ap (λ (cs : List Change). put l.changes 0 (each change_words cs)) m.changes;
          distances = ap (λ (t : Rows). t.distances) q ∙ m.distances;
        }

    stepped_leads : (h : List ℕ) (l' : Rows) (r : Result StepReport Refusal) (n : ℕ) → step_refusal x g l ≡ n
        → plain_answer r ≡ cond (eqb n 0) (answer_of x g) (step.refused n) → h ≡ cond (eqb n 0) (pass_of x g).graph g → l' ≡ cond (eqb n 0) (rows_of x g l) l
        → Leads (stepping x l) (stepped r l') h (unless_refused n (graph_of g) plain_stepped)
    stepped_leads h l' r zero z p q s =
        let m = step_means x g l z in
        (subst Checked (sym q) (step_checked x g l z), step_made (report z l' r m p s), ap graph_of q ∙ m.graph)
    stepped_leads h l' r (suc n) z p q s =
        let e : h ≡ g = q ∙ ap (λ (b : Bool). cond b (pass_of x g).graph g) (eqb-suc-zero n) in (
          subst Checked (sym e) c,
          step_refused (p ∙ ap (λ (b : Bool). cond b (answer_of x g) (step.refused (suc n))) (eqb-suc-zero n)) (s ∙ ap (λ (b : Bool). cond b (rows_of x g l) l) (eqb-suc-zero n)),
          ap graph_of e,
        )

    step_plain : (h : List ℕ) (l' : Rows) (r : Result StepReport Refusal) → Stepped x g l h l' r
        → Leads (stepping x l) (stepped r l') h (unless_refused (plain_step_refusal x l (graph_of g)) (graph_of g) plain_stepped)
    step_plain h l' r k =
        subst (λ (n : ℕ). Leads (stepping x l) (stepped r l') h (unless_refused n (graph_of g) plain_stepped)) (step_refusal_lem c x l)
        (stepped_leads h l' r (step_refusal x g l) refl k.answer k.graph k.rows)

pub call_plain : (g : List ℕ) → Checked g → {e : Entry} {t : Told e} {h : List ℕ} → Promised g e t h → Leads e t h (plain_call (plain_of e) (graph_of g))
unfolding plain_call
call_plain g c (runs.Promised.adds {a} {r} {h} f k) = add_plain g c a h r f k
call_plain g c (runs.Promised.steps {x} {l} {l'} {r} {h} k) = step_plain g c x l h l' r k
call_plain g c (runs.Promised.writes {ws}) = (writes_checked c ws, nothing, writes_mean c ws)

-- ---- a list of calls
pub run_plain : (g : List ℕ) → Checked g → (es : List Entry) (os : Outcomes es) → Run Promised g es os → AsPlain es os (plain_run (map plain_of es) (graph_of g))
unfolding Run plain_run
run_plain g c [] end k = plain_end
run_plain g c (e ∷ es) (o then os) k =
    let m = call_plain g c k.0 in
    plain_then m.1 m.2 m.0 (subst (λ (p : Graph). AsPlain es os (plain_run (map plain_of es) p)) m.2 (run_plain o.graph m.0 es os k.1))
