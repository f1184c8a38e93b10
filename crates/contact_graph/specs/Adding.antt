-- What an addition that is not refused does. Definitions only.
use Rattle.std.specs.Prelude.{ℕ, ◌≡◌, List}
use Rattle.contact_types.specs.declared.contact_id.ContactId.{ContactId}
use Rattle.contact_graph.specs.Calls.{new_id_of, added_words}
use Rattle.contact_graph.specs.declared.call.Request.{Request}

pub record AddedNew (g : List ℕ) (a : Request) (h : List ℕ) (r : ContactId) : Type 0 where
  pub id : r.0 ≡ new_id_of g
  pub graph : h ≡ added_words g a
