-- What a look up answers: the edge of a contact as a plain value. Definitions only.
use Rattle.std.specs.Prelude.{ℕ, ◌+◌, ◌≡◌, List}
use Rattle.rules.specs.Records.{Names, EdgeFlags}
use Rattle.words.specs.Words.{word_at}
use Rattle.layout.specs.Contact.{contact_edge_flags, contact_pair_index}
use Rattle.contact_records.specs.Recorded.{names_at, edge_at}
use Rattle.contact_range.specs.Recorded.{contact_at}
use Rattle.contact_graph.specs.declared.call.ContactEdge.{ContactEdge}

-- ContactEdge
pub record Edge : Type 0 where
  pub names : Names
  pub marks : EdgeFlags
  -- the pair's place in the list
  pub index : ℕ

-- the code's edge as a plain value
unfoldable pub edge_value : ContactEdge → Edge
edge_value e =
    record {
      names = record { id = e.id.0; collider1 = e.collider1; collider2 = e.collider2; body1 = e.body1; body2 = e.body2 };
      marks = record { touching = e.touching; contact_events = e.contact_events };
      index = e.pair_index;
    }

-- the edge that a record holds
unfoldable pub edge_in : List ℕ → ℕ → ℕ → Edge
edge_in g at id = record { names = names_at g at id; marks = edge_at g (at + contact_edge_flags); index = word_at g (at + contact_pair_index) }

pub record EdgeLoaded (g : List ℕ) (at id : ℕ) (r : ContactEdge) : Type 0 where
  pub edge : edge_value r ≡ edge_in g at id

-- the edge of a standing contact
abbrev pub edge_of : List ℕ → ℕ → Edge
edge_of g id = edge_in g (contact_at g id) id
