-- What the public calls ensure is what the C functions promise. Assumes nothing.
use Rattle.std.specs.Prelude.{ℕ, ◌<◌, ◌≤◌, ◌≡◌, Bool, true, false, cond, List, [], ◌∷◌, ◌++◌, eqb, ltb, length, get_or, Err, Ok, Result, ⊤}
use Rattle.std.proofs.Math.Path.{refl, ap}
use Rattle.std.proofs.Common.{sym, subst, ◌∙◌, arith}
use borrow.Author.Tests.{eqb-true, eq-eqb, ne_eqb, lt-ltb, le-leb, lt-leb}
use Rattle.rules.specs.Limits.{most_contacts}
use Rattle.rows.specs.Rows.{put}
use Rattle.rows.specs.Laws.{put_whole}
use Rattle.words.specs.Words.{vec3_at, mark_word}
use Rattle.manifold_records.specs.Written.{padded, zeros}
use Rattle.contact_records.specs.LengthLaws.{optional_words_lem}
use Rattle.contact_records.specs.Written.{optional_words}
use Rattle.math.specs.declared.vec.Vec3.{Vec3}
use Rattle.contact_types.specs.Refusals.{number_of}
use Rattle.contact_types.specs.RefusalLaws.{some_number}
use Rattle.contact_types.specs.Prune as prune
use Rattle.contact_types.specs.Prune.{Pruned, prune_answer}
use Rattle.contact_types.specs.Pruned.{kept_struct}
use Rattle.contact_types.specs.declared.contact_id.ContactId.{ContactId}
use Rattle.contact_types.specs.declared.pruning.KeptPoints.{KeptPoints}
use Rattle.contact_types.specs.declared.refusal.Refusal.{Refusal}
use Rattle.contact_graph.specs.Calls.{request_of, lay_out_refusal, add_refusal, new_id_of, id_refusal}
use Rattle.contact_graph.specs.LookUp.{edge_value, edge_of}
use Rattle.contact_graph.specs.Promises as graph
use Rattle.contact_graph.specs.Promises.{LaidOut, Added, Removed, LookedUp, done_answer, add_answer, look_up_answer}
use Rattle.contact_graph.specs.declared.call.ContactEdge.{ContactEdge}
use Rattle.contact_graph.specs.declared.call.Request.{Request}
use Rattle.step.specs.Step as step
use Rattle.step.specs.Step.{Given, Rows, step_refusal, Stepped, plain_answer}
use Rattle.step.specs.declared.answer.StepReport.{StepReport}
use Rattle.contact_api.specs.Calls.{done_number, id_number, add_number, edge_words, edge_number, look_up_number, report_words, report_number, step_number, refusal_in, numbers_words, kept_words, struct_words, struct_number, struct_row, prune_number, LayOutCalled, RemoveCalled, AddCalled, LookUpCalled, StepCalled, PruneCalled, lengths_number, LengthsCalled, layout_number, LayoutCalled}
use Rattle.contact_api.specs.Layout.{add_answer_length, look_up_answer_length, step_answer_length, prune_normal_length, prune_answer_length, lengths_length, layout_length, lengths_words, layout_words}
use Rattle.layout.specs.Request.{request_length}

-- ---- the number in an answer that is by cases of a refusal's number is that number
pub number_by : {A : Type 0} (number : A → ℕ) (n : ℕ) (d r : A) (b : Bool) → eqb n 0 ≡ b → number d ≡ 0 → number r ≡ n → number (cond b d r) ≡ n
number_by number n d r true e p q = p ∙ sym (eqb-true n 0 e)
number_by number n d r false e p q = q

pub done_number_lem : (n : ℕ) → done_number (graph.answer_for n) ≡ n
done_number_lem n = number_by done_number n graph.done (graph.refused n) (eqb n 0) refl refl refl

-- ---- lay out and remove
pub lay_out_called : {before after : List ℕ} {capacity r : ℕ} {a : Result ⊤ Refusal} → LaidOut before capacity after a → r ≡ done_number (done_answer a) → LayOutCalled before capacity after r
lay_out_called {before = before} {capacity = capacity} l e =
    record { number = e ∙ ap done_number l.answer ∙ done_number_lem (lay_out_refusal before capacity); graph = l.graph }

pub remove_called : {before after : List ℕ} {id r : ℕ} {a : Result ⊤ Refusal} → Removed before id after a → r ≡ done_number (done_answer a) → RemoveCalled before id after r
remove_called {before = before} {id = id} l e = record { number = e ∙ ap done_number l.answer ∙ done_number_lem (id_refusal before id); graph = l.graph }

-- all of a row is written
written : (lent ws : List ℕ) (n : ℕ) → length lent ≡ n → length ws ≡ n → put lent 0 ws ≡ ws
written lent ws n e l = put_whole lent ws (l ∙ sym e)

-- ---- add
abbrev id_in : graph.IdAnswer → ℕ
id_in (graph.refused_id n) = n
id_in (graph.added id) = id

module _ (g request lent : List ℕ) where
  pub add_request_long : (length request ≡ request_length → ⊥) → AddCalled g request lent g lent 1
  unfolding add_number
  add_request_long h = let e = ne_eqb (length request) request_length h in record { number = rw e; graph = rw e; answer = rw e }

  pub add_answer_long : length request ≡ request_length → (length lent ≡ add_answer_length → ⊥) → AddCalled g request lent g lent 1
  unfolding add_number
  add_answer_long h k =
      let e = eq-eqb (length request) request_length h in
      let f = ne_eqb (length lent) add_answer_length k in
      record { number = rw (e, f); graph = rw (e, f); answer = rw (e, f) }

  module _ (h : length request ≡ request_length) (k : length lent ≡ add_answer_length) where
    add_number_lem : add_number g request lent ≡ add_refusal g (request_of request)
    unfolding add_number
    add_number_lem = let e = eq-eqb (length request) request_length h in let f = eq-eqb (length lent) add_answer_length k in rw (e, f)

    module _ (a : Request) (q : a ≡ request_of request) (g' : List ℕ) (r : Result ContactId Refusal) (x : Added g a g' r) where
      add_of_lem : Added g (request_of request) g' r
      add_of_lem = subst (λ (b : Request). Added g b g' r) q x

      number_is : id_number (add_answer r) ≡ add_refusal g (request_of request)
      number_is =
          ap id_number add_of_lem.answer
          ∙ number_by id_number (add_refusal g (request_of request)) (graph.added (new_id_of g)) (graph.refused_id (add_refusal g (request_of request))) (eqb (add_refusal g (request_of request)) 0) refl refl refl

      pub add_refused : (z : Refusal) (n : ℕ) → r ≡ Err z → n ≡ number_of z → AddCalled g request lent g' lent n
      add_refused z n e p =
          let m : add_number g request lent ≡ number_of z = add_number_lem ∙ sym number_is ∙ ap (λ (b : Result ContactId Refusal). id_number (add_answer b)) e in
          record { number = p ∙ sym m; graph = rw (add_number_lem) add_of_lem.graph; answer = rw (m, some_number z) }

      pub add_done : (id : ContactId) (lent' : List ℕ) → r ≡ Ok id → lent' ≡ put lent 0 (id.0 ∷ []) → AddCalled g request lent g' lent' 0
      add_done id lent' e p =
          let n : add_refusal g (request_of request) ≡ 0 = sym number_is ∙ ap (λ (b : Result ContactId Refusal). id_number (add_answer b)) e in
          let m : add_number g request lent ≡ 0 = add_number_lem ∙ n in
          let i : id.0 ≡ new_id_of g = sym (ap (λ (b : Result ContactId Refusal). id_in (add_answer b)) e) ∙ ap id_in (rw n at add_of_lem.answer) in
          record { number = sym m; graph = rw (add_number_lem) add_of_lem.graph; answer = p ∙ written lent (id.0 ∷ []) 1 k refl ∙ rw (m, i) }

-- ---- look up
pub edge_words_lem : (e : ContactEdge) {b1 b2 : List ℕ} {t v : ℕ} → b1 ≡ optional_words e.body1 → b2 ≡ optional_words e.body2 → t ≡ mark_word e.touching → v ≡ mark_word e.contact_events
    → e.id.0 ∷ e.collider1 ∷ e.collider2 ∷ get_or b1 0 0 ∷ get_or b1 1 0 ∷ get_or b2 0 0 ∷ get_or b2 1 0 ∷ e.pair_index ∷ t ∷ v ∷ [] ≡ edge_words (edge_value e)
unfolding edge_words edge_value
edge_words_lem e p q s u =
    let one = optional_words e.body1 in
    let two = optional_words e.body2 in
    let rest : List ℕ = e.pair_index ∷ mark_word e.touching ∷ mark_word e.contact_events ∷ [] in
    rw (p, q, s, u)
    (ap (λ (ws : List ℕ). e.id.0 ∷ e.collider1 ∷ e.collider2 ∷ ws)
    (optional_words_lem e.body1 (get_or two 0 0 ∷ get_or two 1 0 ∷ rest) ∙ ap (λ (ws : List ℕ). one ++ ws) (optional_words_lem e.body2 rest)))

abbrev words_in : graph.EdgeAnswer → List ℕ
words_in (graph.refused_edge n) = []
words_in (graph.found e) = edge_words e

module _ (g : List ℕ) (id : ℕ) (lent : List ℕ) where
  pub look_up_answer_long : (length lent ≡ look_up_answer_length → ⊥) → LookUpCalled g id lent lent 1
  unfolding look_up_number
  look_up_answer_long h = let e = ne_eqb (length lent) look_up_answer_length h in record { number = rw e; answer = rw e }

  module _ (h : length lent ≡ look_up_answer_length) (r : Result ContactEdge Refusal) (x : LookedUp g id r) where
    look_up_number_lem : look_up_number g id lent ≡ id_refusal g id
    unfolding look_up_number
    look_up_number_lem = let e = eq-eqb (length lent) look_up_answer_length h in rw e

    edge_number_lem : edge_number (look_up_answer r) ≡ id_refusal g id
    edge_number_lem =
        ap edge_number x.answer ∙ number_by edge_number (id_refusal g id) (graph.found (edge_of g id)) (graph.refused_edge (id_refusal g id)) (eqb (id_refusal g id) 0) refl refl refl

    pub look_up_refused : (z : Refusal) (n : ℕ) → r ≡ Err z → n ≡ number_of z → LookUpCalled g id lent lent n
    look_up_refused z n e p =
        let m : look_up_number g id lent ≡ number_of z = look_up_number_lem ∙ sym edge_number_lem ∙ ap (λ (a : Result ContactEdge Refusal). edge_number (look_up_answer a)) e in
        record { number = p ∙ sym m; answer = rw (m, some_number z) }

    pub look_up_found : (d : ContactEdge) (ws lent' : List ℕ) → r ≡ Ok d → ws ≡ edge_words (edge_value d) → length ws ≡ 10 → lent' ≡ put lent 0 ws → LookUpCalled g id lent lent' 0
    look_up_found d ws lent' e w l p =
        let n : id_refusal g id ≡ 0 = sym edge_number_lem ∙ ap (λ (a : Result ContactEdge Refusal). edge_number (look_up_answer a)) e in
        let m : look_up_number g id lent ≡ 0 = look_up_number_lem ∙ n in
        let i : edge_words (edge_value d) ≡ edge_words (edge_of g id) = sym (ap (λ (a : Result ContactEdge Refusal). words_in (look_up_answer a)) e) ∙ ap words_in (rw n at x.answer) in
        record { number = sym m; answer = p ∙ written lent ws 10 h l ∙ w ∙ i ∙ rw m }

-- ---- step
module _ (x : Given) (g : List ℕ) (l : Rows) (lent : List ℕ) where
  pub step_answer_long : (length lent ≡ step_answer_length → ⊥) → StepCalled x g l lent g l lent 1
  unfolding step_number
  step_answer_long h = let e = ne_eqb (length lent) step_answer_length h in record { number = rw e; graph = rw e; rows = rw e; answer = rw e }

  module _ (h : length lent ≡ step_answer_length) (g' : List ℕ) (l' : Rows) (r : Result StepReport Refusal) (y : Stepped x g l g' l' r) where
    step_number_lem : step_number x g l lent ≡ step_refusal x g l
    unfolding step_number
    step_number_lem = let e = eq-eqb (length lent) step_answer_length h in rw e

    report_number_lem : report_number (plain_answer r) ≡ step_refusal x g l
    unfolding step.answer_of
    report_number_lem =
        ap report_number y.answer ∙ number_by report_number (step_refusal x g l) (step.answer_of x g) (step.refused (step_refusal x g l)) (eqb (step_refusal x g l) 0) refl refl refl

    pub step_refused : (z : Refusal) (n : ℕ) → r ≡ Err z → n ≡ number_of z → StepCalled x g l lent g' l' lent n
    step_refused z n e p =
        let m : step_number x g l lent ≡ number_of z = step_number_lem ∙ sym report_number_lem ∙ ap (λ (a : Result StepReport Refusal). report_number (plain_answer a)) e in
        record { number = p ∙ sym m; graph = rw step_number_lem y.graph; rows = rw step_number_lem y.rows; answer = rw (m, some_number z) }

    pub step_done : (s : StepReport) (lent' : List ℕ) → r ≡ Ok s → lent' ≡ put lent 0 (s.events ∷ s.changes ∷ s.recycled ∷ []) → StepCalled x g l lent g' l' lent' 0
    step_done s lent' e p =
        let n : step_refusal x g l ≡ 0 = sym report_number_lem ∙ ap (λ (a : Result StepReport Refusal). report_number (plain_answer a)) e in
        let m : step_number x g l lent ≡ 0 = step_number_lem ∙ n in
        let i : s.events ∷ s.changes ∷ s.recycled ∷ [] ≡ report_words (step.answer_of x g) = sym (ap (λ (a : Result StepReport Refusal). report_words (plain_answer a)) e) ∙ ap report_words (rw n at y.answer) in
        record {
          number = sym m;
          graph = rw step_number_lem y.graph;
          rows = rw step_number_lem y.rows;
          answer = p ∙ written lent (s.events ∷ s.changes ∷ s.recycled ∷ []) 3 h refl ∙ i ∙ rw m;
        }

-- ---- prune
-- the words of a struct are those of the numbers in it
struct_words_lem : (ks : List ℕ) → struct_words (kept_struct ks) ≡ numbers_words ks
unfolding numbers_words padded zeros
struct_words_lem [] = refl
struct_words_lem (a ∷ []) = refl
struct_words_lem (a ∷ b ∷ []) = refl
struct_words_lem (a ∷ b ∷ c ∷ []) = refl
struct_words_lem (a ∷ b ∷ c ∷ d ∷ ks) = refl

pub struct_number_lem : (a : prune.Answer (List ℕ)) → struct_number (prune.in_struct a) ≡ refusal_in a
struct_number_lem (prune.refused n) = refl
struct_number_lem (prune.keeps ks) = refl

pub struct_row_lem : (a : prune.Answer (List ℕ)) → struct_row [] (prune.in_struct a) ≡ kept_words a
struct_row_lem (prune.refused n) = refl
struct_row_lem (prune.keeps ks) = struct_words_lem ks

module _ (normal points : List ℕ) (count : ℕ) (lent : List ℕ) where
  pub prune_normal_long : (length normal ≡ prune_normal_length → ⊥) → PruneCalled normal points count lent lent 1
  unfolding prune_number
  prune_normal_long h = let e = ne_eqb (length normal) prune_normal_length h in record { number = rw e; answer = rw e }

  pub prune_answer_long : length normal ≡ prune_normal_length → (length lent ≡ prune_answer_length → ⊥) → PruneCalled normal points count lent lent 1
  unfolding prune_number
  prune_answer_long h k =
      let e = eq-eqb (length normal) prune_normal_length h in
      let f = ne_eqb (length lent) prune_answer_length k in
      record { number = rw (e, f); answer = rw (e, f) }

  module _ (h : length normal ≡ prune_normal_length) (k : length lent ≡ prune_answer_length) (v : Vec3) (q : v ≡ vec3_at normal 0) (r : Result KeptPoints Refusal) (x : Pruned v points count r) where
    abbrev told : prune.Answer (List ℕ)
    told = prune_answer (vec3_at normal 0) points count

    answer_is : prune.answer_of r ≡ prune.in_struct told
    answer_is = x.answer ∙ ap (λ (u : Vec3). prune.in_struct (prune_answer u points count)) q

    prune_number_lem : prune_number normal points count lent ≡ struct_number (prune.answer_of r)
    unfolding prune_number
    prune_number_lem =
        let e = eq-eqb (length normal) prune_normal_length h in
        let f = eq-eqb (length lent) prune_answer_length k in
        rw (e, f) (sym (ap struct_number answer_is ∙ struct_number_lem told))

    pub prune_refused : (z : Refusal) (n : ℕ) → r ≡ Err z → n ≡ number_of z → PruneCalled normal points count lent lent n
    prune_refused z n e p =
        let m : prune_number normal points count lent ≡ number_of z = prune_number_lem ∙ ap (λ (a : Result KeptPoints Refusal). struct_number (prune.answer_of a)) e in
        record { number = p ∙ sym m; answer = rw (m, some_number z) }

    pub prune_kept : (p : KeptPoints) (lent' : List ℕ) → r ≡ Ok p → lent' ≡ put lent 0 (p.count ∷ p.first ∷ p.second ∷ p.third ∷ p.fourth ∷ []) → PruneCalled normal points count lent lent' 0
    prune_kept p lent' e o =
        let m : prune_number normal points count lent ≡ 0 = prune_number_lem ∙ ap (λ (a : Result KeptPoints Refusal). struct_number (prune.answer_of a)) e in
        let i : struct_words p ≡ kept_words told = sym (ap (λ (a : Result KeptPoints Refusal). struct_row [] (prune.answer_of a)) e) ∙ ap (struct_row []) answer_is ∙ struct_row_lem told in
        record { number = sym m; answer = o ∙ written lent (struct_words p) 5 k refl ∙ i ∙ rw m }

-- ---- lengths and layout
module _ (capacity : ℕ) (lent : List ℕ) where
  pub lengths_answer_long : (length lent ≡ lengths_length → ⊥) → LengthsCalled capacity lent lent 1
  unfolding lengths_number
  lengths_answer_long h = let e = ne_eqb (length lent) lengths_length h in record { number = rw e; answer = rw e }

  module _ (h : length lent ≡ lengths_length) where
    pub lengths_none : capacity ≡ 0 → LengthsCalled capacity lent lent 1
    unfolding lengths_number
    lengths_none z = let e = eq-eqb (length lent) lengths_length h in record { number = rw (e, z); answer = rw (e, z) }

    module _ (z : capacity ≡ 0 → ⊥) where
      some_capacity : ltb 0 capacity ≡ true
      some_capacity = lt-ltb 0 capacity (omega (arith, z))

      pub lengths_most : 256 < capacity → LengthsCalled capacity lent lent 1
      unfolding lengths_number
      lengths_most m =
          let e = eq-eqb (length lent) lengths_length h in
          let f = lt-leb capacity most_contacts m in
          record { number = rw (e, some_capacity, f); answer = rw (e, some_capacity, f) }

      pub lengths_done : capacity ≤ 256 → (ws lent' : List ℕ) → ws ≡ lengths_words capacity → length ws ≡ 10 → lent' ≡ put lent 0 ws → LengthsCalled capacity lent lent' 0
      unfolding lengths_number
      lengths_done m ws lent' w l p =
          let e = eq-eqb (length lent) lengths_length h in
          let f = le-leb capacity most_contacts m in
          record { number = rw (e, some_capacity, f); answer = p ∙ written lent ws 10 h l ∙ w ∙ rw (e, some_capacity, f) }

module _ (lent : List ℕ) where
  pub layout_answer_long : (length lent ≡ layout_length → ⊥) → LayoutCalled lent lent 1
  unfolding layout_number
  layout_answer_long h = let e = ne_eqb (length lent) layout_length h in record { number = rw e; answer = rw e }

  pub layout_done : length lent ≡ layout_length → (ws lent' : List ℕ) → ws ≡ layout_words → length ws ≡ layout_length → lent' ≡ put lent 0 ws → LayoutCalled lent lent' 0
  unfolding layout_number
  layout_done h ws lent' w l p = let e = eq-eqb (length lent) layout_length h in record { number = rw e; answer = p ∙ written lent ws layout_length h l ∙ w ∙ rw e }
