-- The promises of the graph's calls: the answer and every word of the lent graph at exit, in a refusal too. Definitions only.
-- An answer's cases have the specification's numbers and values: `refused` with the refusal's number.
use Rattle.std.specs.Prelude.{ℕ, ◌≡◌, ◌⊎◌, true, false, cond, List, eqb, Err, Ok, Result, ⊤}
use Rattle.contact_types.specs.Refusals.{number_of}
use Rattle.contact_graph.specs.Calls.{lay_out_refusal, laid_out, add_refusal, new_id_of, added_words, id_refusal, removed_words}
use Rattle.contact_graph.specs.LookUp.{Edge, edge_value, edge_of}
use Rattle.contact_graph.specs.declared.call.Request.{Request}
use Rattle.contact_types.specs.declared.refusal.Refusal.{Refusal}
use Rattle.contact_types.specs.declared.refusal.Refusal.TheVariants.{WrongLength, OutOfRange}
use Rattle.contact_range.specs.Range.{right_length, in_range}
use Rattle.contact_types.specs.declared.contact_id.ContactId.{ContactId}
use Rattle.contact_graph.specs.declared.call.ContactEdge.{ContactEdge}

-- where a call answers nothing but that it was done
pub data Answer : Type 0 where
  refused : ℕ → Answer
  done : Answer

-- the refusal's number, or done where it is 0
abbrev pub answer_for : ℕ → Answer
answer_for n = cond (eqb n 0) done (refused n)

-- refusals 1 and 2 of a lent graph, or neither
abbrev pub GraphIs : List ℕ → Result ⊤ Refusal → Type 0
GraphIs g (Ok tt) = (right_length g ≡ true) × (in_range g ≡ true)
GraphIs g (Err r) = ((r ≡ WrongLength) × (right_length g ≡ false)) ⊎ ((r ≡ OutOfRange) × (right_length g ≡ true) × (in_range g ≡ false))

pub record GraphTested (g : List ℕ) (r : Result ⊤ Refusal) : Type 0 where
  pub is : GraphIs g r

abbrev pub done_answer : Result ⊤ Refusal → Answer
done_answer (Ok tt) = done
done_answer (Err r) = refused (number_of r)

pub record LaidOut (before : List ℕ) (capacity : ℕ) (after : List ℕ) (r : Result ⊤ Refusal) : Type 0 where
  pub answer : done_answer r ≡ answer_for (lay_out_refusal before capacity)
  pub graph : after ≡ cond (eqb (lay_out_refusal before capacity) 0) (laid_out capacity) before

pub record Removed (before : List ℕ) (id : ℕ) (after : List ℕ) (r : Result ⊤ Refusal) : Type 0 where
  pub answer : done_answer r ≡ answer_for (id_refusal before id)
  pub graph : after ≡ cond (eqb (id_refusal before id) 0) (removed_words before id) before

-- an edge, or a refusal
pub data EdgeAnswer : Type 0 where
  refused_edge : ℕ → EdgeAnswer
  found : Edge → EdgeAnswer

abbrev pub look_up_answer : Result ContactEdge Refusal → EdgeAnswer
look_up_answer (Ok e) = found (edge_value e)
look_up_answer (Err r) = refused_edge (number_of r)

-- The lent graph is read only.
pub record LookedUp (g : List ℕ) (id : ℕ) (r : Result ContactEdge Refusal) : Type 0 where
  pub answer : look_up_answer r ≡ cond (eqb (id_refusal g id) 0) (found (edge_of g id)) (refused_edge (id_refusal g id))

-- a new id, or a refusal
pub data IdAnswer : Type 0 where
  refused_id : ℕ → IdAnswer
  added : ℕ → IdAnswer

abbrev pub add_answer : Result ContactId Refusal → IdAnswer
add_answer (Ok id) = added id.0
add_answer (Err r) = refused_id (number_of r)

pub record Added (before : List ℕ) (a : Request) (after : List ℕ) (r : Result ContactId Refusal) : Type 0 where
  pub answer : add_answer r ≡ cond (eqb (add_refusal before a) 0) (added (new_id_of before)) (refused_id (add_refusal before a))
  pub graph : after ≡ cond (eqb (add_refusal before a) 0) (added_words before a) before
