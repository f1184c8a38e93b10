-- The C functions' promises give those of the calls: what a function leaves is what some answer of its call says, which `..-determined` says is the one. Assumes nothing.
-- A function refuses for itself only where a row of its own has a wrong length: 1, and every row as it was.
use Rattle.std.specs.Prelude.{ℕ, ◌≡◌, ◌⊎◌, Bool, true, false, ◌&&◌, List, [], eqb, Err, Ok, Result, ⊤}
use Rattle.std.proofs.Math.Path.{refl, ap}
use Rattle.std.proofs.Common.{sym, ◌∙◌, inl, inr}
use Rattle.std.proofs.Math.Bool.{cond}
use Rattle.words.specs.Words.{vec3_at}
use Rattle.contact_types.specs.Prune as prune
use Rattle.contact_types.specs.Prune.{Pruned, prune_answer}
use Rattle.contact_types.specs.PruneLaws.{prune_answered}
use Rattle.contact_types.specs.RefusalLaws.{some_number}
use Rattle.contact_graph.specs.Calls.{request_of, lay_out_refusal, add_refusal, new_id_of, id_refusal}
use Rattle.contact_graph.specs.DeterminedLaws.{lay_out_answered, add_answered, look_up_answered, remove_answered}
use Rattle.contact_graph.specs.LookUp.{edge_of}
use Rattle.contact_graph.specs.Promises as graph
use Rattle.contact_graph.specs.Promises.{LaidOut, Added, Removed, LookedUp, done_answer, add_answer, look_up_answer}
use Rattle.step.specs.DeterminedLaws.{step_answered}
use Rattle.step.specs.Step as step
use Rattle.step.specs.Step.{Given, Rows, long, step_refusal, Stepped, plain_answer}
use Rattle.contact_api.specs.CallLaws.{number_by, done_number_lem, struct_number_lem, struct_row_lem}
use Rattle.contact_api.specs.Calls.{unless_refused, done_number, id_number, id_row, add_number, edge_number, edge_row, look_up_number, report_words, report_number, report_row, step_number, refusal_in, kept_words, struct_number, struct_row, prune_number, LayOutCalled, RemoveCalled, AddCalled, LookUpCalled, StepCalled, PruneCalled}
use Rattle.contact_api.specs.Layout.{add_answer_length, look_up_answer_length, step_answer_length, prune_normal_length, prune_answer_length}
use Rattle.layout.specs.Request.{request_length}
use Rattle.step.specs.declared.answer.StepReport.{StepReport}
use Rattle.contact_types.specs.declared.refusal.Refusal.{Refusal}
use Rattle.contact_types.specs.declared.pruning.KeptPoints.{KeptPoints}
use Rattle.contact_types.specs.declared.contact_id.ContactId.{ContactId}
use Rattle.contact_graph.specs.declared.call.ContactEdge.{ContactEdge}

-- a view of what is by cases is by cases
of_cond : {A B : Type 0} (f : A → B) (b : Bool) (x y : A) → f (cond b x y) ≡ cond b (f x) (f y)
of_cond f true x y = refl
of_cond f false x y = refl

-- ---- lay out and remove
pub called_laid_out : {before after : List ℕ} {capacity r : ℕ} → LayOutCalled before capacity after r → (a : Result ⊤ Refusal) × LaidOut before capacity after a × (r ≡ done_number (done_answer a))
called_laid_out {before} {capacity = capacity} c =
    let a = lay_out_answered before capacity in (
      a.0,
      record { answer = a.1.answer; graph = c.graph },
      c.number ∙ sym (ap done_number a.1.answer ∙ done_number_lem (lay_out_refusal before capacity)),
    )

pub called_removed : {before after : List ℕ} {id r : ℕ} → RemoveCalled before id after r → (a : Result ⊤ Refusal) × Removed before id after a × (r ≡ done_number (done_answer a))
called_removed {before} {id = id} c =
    let a = remove_answered before id in (
      a.0,
      record { answer = a.1.answer; graph = c.graph },
      c.number ∙ sym (ap done_number a.1.answer ∙ done_number_lem (id_refusal before id)),
    )

-- ---- add
module _ {before request lent after lent' : List ℕ} {r : ℕ} (c : AddCalled before request lent after lent' r) where
  abbrev add_rows : Bool
  add_rows = long request request_length && long lent add_answer_length

  add_by : (b : Bool) → add_rows ≡ b → add_number before request lent ≡ cond b (add_refusal before (request_of request)) 1
  unfolding add_number
  add_by b e = ap (λ (t : Bool). cond t (add_refusal before (request_of request)) 1) e

  pub called_added : ((long request request_length && long lent add_answer_length ≡ false) × (r ≡ 1) × (after ≡ before) × (lent' ≡ lent))
      ⊎ ((a : Result ContactId Refusal) × Added before (request_of request) after a × (r ≡ id_number (add_answer a)) × (lent' ≡ id_row lent (add_answer a)))
  called_added = go add_rows refl
    where
      go : (b : Bool) → add_rows ≡ b
          → ((add_rows ≡ false) × (r ≡ 1) × (after ≡ before) × (lent' ≡ lent))
          ⊎ ((a : Result ContactId Refusal) × Added before (request_of request) after a × (r ≡ id_number (add_answer a)) × (lent' ≡ id_row lent (add_answer a)))
      go false e = let m = add_by false e in inl (e, c.number ∙ m, c.graph ∙ rw m, c.answer ∙ rw m)
      go true e =
          let m = add_by true e in
          let n = add_refusal before (request_of request) in
          let a = add_answered before (request_of request) in
          inr (
            a.0,
            record { answer = a.1.answer; graph = c.graph ∙ rw m },
            c.number ∙ m ∙ sym (ap id_number a.1.answer ∙ number_by id_number n (graph.added (new_id_of before)) (graph.refused_id n) (eqb n 0) refl refl refl),
            c.answer ∙ rw m (sym (ap (id_row lent) a.1.answer ∙ of_cond (id_row lent) (eqb n 0) (graph.added (new_id_of before)) (graph.refused_id n))),
          )

-- ---- look up
module _ {g : List ℕ} {id : ℕ} {lent lent' : List ℕ} {r : ℕ} (c : LookUpCalled g id lent lent' r) where
  look_up_by : (b : Bool) → long lent look_up_answer_length ≡ b → look_up_number g id lent ≡ cond b (id_refusal g id) 1
  unfolding look_up_number
  look_up_by b e = ap (λ (t : Bool). cond t (id_refusal g id) 1) e

  pub called_looked_up : ((long lent look_up_answer_length ≡ false) × (r ≡ 1) × (lent' ≡ lent))
      ⊎ ((a : Result ContactEdge Refusal) × LookedUp g id a × (r ≡ edge_number (look_up_answer a)) × (lent' ≡ edge_row lent (look_up_answer a)))
  called_looked_up = go (long lent look_up_answer_length) refl
    where
      go : (b : Bool) → long lent look_up_answer_length ≡ b
          → ((long lent look_up_answer_length ≡ false) × (r ≡ 1) × (lent' ≡ lent))
          ⊎ ((a : Result ContactEdge Refusal) × LookedUp g id a × (r ≡ edge_number (look_up_answer a)) × (lent' ≡ edge_row lent (look_up_answer a)))
      go false e = let m = look_up_by false e in inl (e, c.number ∙ m, c.answer ∙ rw m)
      go true e =
          let m = look_up_by true e in
          let n = id_refusal g id in
          let a = look_up_answered g id in
          inr (
            a.0,
            a.1,
            c.number ∙ m ∙ sym (ap edge_number a.1.answer ∙ number_by edge_number n (graph.found (edge_of g id)) (graph.refused_edge n) (eqb n 0) refl refl refl),
            c.answer ∙ rw m (sym (ap (edge_row lent) a.1.answer ∙ of_cond (edge_row lent) (eqb n 0) (graph.found (edge_of g id)) (graph.refused_edge n))),
          )

-- ---- step
module _ {x : Given} {g : List ℕ} {l : Rows} {lent g' : List ℕ} {l' : Rows} {lent' : List ℕ} {r : ℕ} (c : StepCalled x g l lent g' l' lent' r) where
  step_by : (b : Bool) → long lent step_answer_length ≡ b → step_number x g l lent ≡ cond b (step_refusal x g l) 1
  unfolding step_number
  step_by b e = ap (λ (t : Bool). cond t (step_refusal x g l) 1) e

  report_number_lem : report_number (step.answer_of x g) ≡ 0
  unfolding step.answer_of
  report_number_lem = refl

  report_row_lem : report_row lent (step.answer_of x g) ≡ report_words (step.answer_of x g)
  unfolding step.answer_of
  report_row_lem = refl

  pub called_stepped : ((long lent step_answer_length ≡ false) × (r ≡ 1) × (g' ≡ g) × (l' ≡ l) × (lent' ≡ lent))
      ⊎ ((a : Result StepReport Refusal) × Stepped x g l g' l' a × (r ≡ report_number (plain_answer a)) × (lent' ≡ report_row lent (plain_answer a)))
  called_stepped = go (long lent step_answer_length) refl
    where
      go : (b : Bool) → long lent step_answer_length ≡ b
          → ((long lent step_answer_length ≡ false) × (r ≡ 1) × (g' ≡ g) × (l' ≡ l) × (lent' ≡ lent))
          ⊎ ((a : Result StepReport Refusal) × Stepped x g l g' l' a × (r ≡ report_number (plain_answer a)) × (lent' ≡ report_row lent (plain_answer a)))
      go false e = let m = step_by false e in inl (e, c.number ∙ m, c.graph ∙ rw m, c.rows ∙ rw m, c.answer ∙ rw m)
      go true e =
          let m = step_by true e in
          let n = step_refusal x g l in
          let a = step_answered x g l in
          inr (
            a.0,
            record { answer = a.1.answer; graph = c.graph ∙ rw m; rows = c.rows ∙ rw m },
            c.number ∙ m ∙ sym (ap report_number a.1.answer ∙ number_by report_number n (step.answer_of x g) (step.refused n) (eqb n 0) refl report_number_lem refl),
            c.answer
                ∙ rw m (sym (ap (report_row lent) a.1.answer ∙ of_cond (report_row lent) (eqb n 0) (step.answer_of x g) (step.refused n) ∙ ap (λ (ws : List ℕ). cond (eqb n 0) ws lent) report_row_lem)),
          )

-- ---- prune
module _ {normal points : List ℕ} {count : ℕ} {lent lent' : List ℕ} {r : ℕ} (c : PruneCalled normal points count lent lent' r) where
  abbrev prune_rows : Bool
  prune_rows = long normal prune_normal_length && long lent prune_answer_length

  abbrev told : prune.Answer (List ℕ)
  told = prune_answer (vec3_at normal 0) points count

  prune_by : (b : Bool) → prune_rows ≡ b → prune_number normal points count lent ≡ cond b (refusal_in told) 1
  unfolding prune_number
  prune_by b e = ap (λ (t : Bool). cond t (refusal_in told) 1) e

  number_told : (a : Result KeptPoints Refusal) → prune.answer_of a ≡ prune.in_struct told → refusal_in told ≡ struct_number (prune.answer_of a)
  number_told a e = sym (ap struct_number e ∙ struct_number_lem told)

  row_told : (a : Result KeptPoints Refusal) → prune.answer_of a ≡ prune.in_struct told → unless_refused (refusal_in told) (kept_words told) lent ≡ struct_row lent (prune.answer_of a)
  row_told (Ok k) e = let n = number_told (Ok k) e in rw n (sym (ap (struct_row []) e ∙ struct_row_lem told))
  row_told (Err z) e = let n = number_told (Err z) e in rw (n, some_number z)

  pub called_pruned : ((long normal prune_normal_length && long lent prune_answer_length ≡ false) × (r ≡ 1) × (lent' ≡ lent))
      ⊎ ((a : Result KeptPoints Refusal) × Pruned (vec3_at normal 0) points count a × (r ≡ struct_number (prune.answer_of a)) × (lent' ≡ struct_row lent (prune.answer_of a)))
  called_pruned = go prune_rows refl
    where
      go : (b : Bool) → prune_rows ≡ b
          → ((prune_rows ≡ false) × (r ≡ 1) × (lent' ≡ lent))
          ⊎ ((a : Result KeptPoints Refusal) × Pruned (vec3_at normal 0) points count a × (r ≡ struct_number (prune.answer_of a)) × (lent' ≡ struct_row lent (prune.answer_of a)))
      go false e = let m = prune_by false e in inl (e, c.number ∙ m, c.answer ∙ rw m)
      go true e =
          let m = prune_by true e in
          let a = prune_answered (vec3_at normal 0) points count in
          inr (a.0, a.1, c.number ∙ m ∙ number_told a.0 a.1.answer, c.answer ∙ rw m (row_told a.0 a.1.answer))
