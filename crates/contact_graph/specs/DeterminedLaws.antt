-- Each call's promise has one outcome, and no other: the answer itself and every lent word. Assumes nothing.
use Rattle.std.specs.Prelude.{ℕ, ◌≡◌, refl, Bool, true, false, cond, not, ◌&&◌, List, eqb, ltb, leb, length, Err, None, Ok, Result, Some, ⊤, Option}
use Rattle.std.proofs.Common.{sym, ap, ◌∙◌, inl, inr}
use Rattle.rules.specs.Limits.{most_contacts}
use Rattle.contact_types.specs.RefusalLaws.{same_by, refusal_for, refusal_for_lem, Numbered, answered_by}
use Rattle.contact_types.specs.declared.refusal.Refusal.TheVariants.{WrongLength, OutOfRange, SameCollider, PairExists, GraphFull, NoContact}
use Rattle.layout.specs.Graph.{graph_length}
use Rattle.contact_range.specs.Range.{right_length, in_range, stands}
use Rattle.contact_range.specs.Recorded.{capacity_of, listed_count}
use Rattle.contact_graph.specs.Calls.{lay_out_refusal, laid_out, request_fits, pair_stands, add_refusal, new_id_of, added_words, id_refusal, removed_words}
use Rattle.contact_graph.specs.LookUp.{Edge, edge_value, edge_of}
use Rattle.contact_graph.specs.Promises.{Answer, refused, done, done_answer, LaidOut, Removed, EdgeAnswer, refused_edge, found, look_up_answer, LookedUp, IdAnswer, refused_id, added, add_answer, Added}
use Rattle.contact_graph.specs.declared.call.ContactEdge.{ContactEdge}
use Rattle.contact_graph.specs.declared.call.Request.{Request}
use Rattle.contact_types.specs.declared.refusal.Refusal.{Refusal}
use Rattle.contact_types.specs.declared.contact_id.ContactId.{ContactId}

-- ---- lay out
abbrev done_of : Answer → Result ⊤ Refusal
done_of done = (Ok tt)
done_of (refused n) = Err (refusal_for n)

done_of_lem : (r : Result ⊤ Refusal) → done_of (done_answer r) ≡ r
done_of_lem (Ok tt) = refl
done_of_lem (Err r) = ap Err (refusal_for_lem r)

lay_out_numbered : (g : List ℕ) (capacity : ℕ) → Numbered (lay_out_refusal g capacity)
unfolding lay_out_refusal
lay_out_numbered g capacity = tests (ltb 0 capacity && (leb capacity most_contacts && eqb (length g) (graph_length capacity)))
  where
    tests : (b : Bool) → Numbered (cond b 0 1)
    tests true = inl refl
    tests false = inr (WrongLength, refl)

pub lay_out_determined : (before : List ℕ) (capacity : ℕ) {after after' : List ℕ} {r r' : Result ⊤ Refusal} → LaidOut before capacity after r → LaidOut before capacity after' r' → (r' ≡ r) × (after' ≡ after)
lay_out_determined before capacity p q = (same_by done_answer done_of done_of_lem p.answer q.answer, q.graph ∙ sym p.graph)

pub lay_out_answered : (before : List ℕ) (capacity : ℕ) → (r : Result ⊤ Refusal) × LaidOut before capacity (cond (eqb (lay_out_refusal before capacity) 0) (laid_out capacity) before) r
lay_out_answered before capacity =
    let a = answered_by done_answer refused (Ok tt) Err done refl (λ r. refl) (lay_out_refusal before capacity) (lay_out_numbered before capacity) in
    (a.0, record { answer = a.1; graph = refl })

-- ---- add
abbrev add_of : IdAnswer → Result ContactId Refusal
add_of (added id) = Ok (record { 0 = id })
add_of (refused_id n) = Err (refusal_for n)

add_of_lem : (r : Result ContactId Refusal) → add_of (add_answer r) ≡ r
add_of_lem (Ok id) = refl
add_of_lem (Err r) = ap Err (refusal_for_lem r)

add_numbered : (g : List ℕ) (a : Request) → Numbered (add_refusal g a)
unfolding add_refusal
add_numbered g a =
    tests (right_length g) (in_range g && request_fits a) (eqb a.collider1 a.collider2) (pair_stands g a.collider1 a.collider2) (eqb (listed_count g) (capacity_of g))
  where
    tests : (a b c d e : Bool) → Numbered (cond (not a) 1 (cond (not b) 2 (cond c 3 (cond d 4 (cond e 5 0)))))
    tests false b c d e = inr (WrongLength, refl)
    tests true false c d e = inr (OutOfRange, refl)
    tests true true true d e = inr (SameCollider, refl)
    tests true true false true e = inr (PairExists, refl)
    tests true true false false true = inr (GraphFull, refl)
    tests true true false false false = inl refl

pub add_determined : (before : List ℕ) (a : Request) {after after' : List ℕ} {r r' : Result ContactId Refusal} → Added before a after r → Added before a after' r' → (r' ≡ r) × (after' ≡ after)
add_determined before a p q = (same_by add_answer add_of add_of_lem p.answer q.answer, q.graph ∙ sym p.graph)

pub add_answered : (before : List ℕ) (a : Request) → (r : Result ContactId Refusal) × Added before a (cond (eqb (add_refusal before a) 0) (added_words before a) before) r
add_answered before a =
    let x = answered_by add_answer refused_id (Ok (record { 0 = new_id_of before })) Err (added (new_id_of before)) refl (λ r. refl) (add_refusal before a) (add_numbered before a) in
    (x.0, record { answer = x.1; graph = refl })

-- ---- look up
abbrev optional_body : Option ℕ → Option ℕ
optional_body None = None
optional_body (Some n) = Some n

optional_body_lem : (b : Option ℕ) → optional_body b ≡ b
optional_body_lem (Some n) = refl
optional_body_lem None = refl

body_optional : (o : Option ℕ) → (optional_body o) ≡ o
body_optional None = refl
body_optional (Some n) = refl

abbrev contact_edge : Edge → ContactEdge
contact_edge e =
    record {
      id = record { 0 = e.names.id };
      collider1 = e.names.collider1;
      collider2 = e.names.collider2;
      body1 = optional_body e.names.body1;
      body2 = optional_body e.names.body2;
      pair_index = e.index;
      touching = e.marks.touching;
      contact_events = e.marks.contact_events;
    }

contact_edge_lem : (e : ContactEdge) → contact_edge (edge_value e) ≡ e
unfolding edge_value
contact_edge_lem e =
    λ i. record {
      id = e.id;
      collider1 = e.collider1;
      collider2 = e.collider2;
      body1 = optional_body_lem e.body1 i;
      body2 = optional_body_lem e.body2 i;
      pair_index = e.pair_index;
      touching = e.touching;
      contact_events = e.contact_events;
    }

edge_value_lem : (e : Edge) → edge_value (contact_edge e) ≡ e
unfolding edge_value
edge_value_lem e =
    λ i. record {
      names = record { id = e.names.id; collider1 = e.names.collider1; collider2 = e.names.collider2; body1 = body_optional e.names.body1 i; body2 = body_optional e.names.body2 i };
      marks = e.marks;
      index = e.index;
    }

abbrev look_up_of : EdgeAnswer → Result ContactEdge Refusal
look_up_of (found e) = Ok (contact_edge e)
look_up_of (refused_edge n) = Err (refusal_for n)

look_up_of_lem : (r : Result ContactEdge Refusal) → look_up_of (look_up_answer r) ≡ r
look_up_of_lem (Ok e) = ap Ok (contact_edge_lem e)
look_up_of_lem (Err r) = ap Err (refusal_for_lem r)

id_numbered : (g : List ℕ) (id : ℕ) → Numbered (id_refusal g id)
unfolding id_refusal
id_numbered g id = tests (right_length g) (in_range g) (stands g id)
  where
    tests : (a b c : Bool) → Numbered (cond (not a) 1 (cond (not b) 2 (cond c 0 9)))
    tests false b c = inr (WrongLength, refl)
    tests true false c = inr (OutOfRange, refl)
    tests true true false = inr (NoContact, refl)
    tests true true true = inl refl

pub look_up_determined : (g : List ℕ) (id : ℕ) {r r' : Result ContactEdge Refusal} → LookedUp g id r → LookedUp g id r' → r' ≡ r
look_up_determined g id p q = same_by look_up_answer look_up_of look_up_of_lem p.answer q.answer

pub look_up_answered : (g : List ℕ) (id : ℕ) → (r : Result ContactEdge Refusal) × LookedUp g id r
look_up_answered g id =
    let a = answered_by look_up_answer refused_edge (Ok (contact_edge (edge_of g id))) Err (found (edge_of g id)) (ap found (edge_value_lem (edge_of g id))) (λ r. refl) (id_refusal g id) (id_numbered g id) in
    (a.0, record { answer = a.1 })

-- ---- remove
pub remove_determined : (before : List ℕ) (id : ℕ) {after after' : List ℕ} {r r' : Result ⊤ Refusal} → Removed before id after r → Removed before id after' r' → (r' ≡ r) × (after' ≡ after)
remove_determined before id p q = (same_by done_answer done_of done_of_lem p.answer q.answer, q.graph ∙ sym p.graph)

pub remove_answered : (before : List ℕ) (id : ℕ) → (r : Result ⊤ Refusal) × Removed before id (cond (eqb (id_refusal before id) 0) (removed_words before id) before) r
remove_answered before id =
    let a = answered_by done_answer refused (Ok tt) Err done refl (λ r. refl) (id_refusal before id) (id_numbered before id) in
    (a.0, record { answer = a.1; graph = refl })
