-- What a removal reads before it stores. Definitions only.
use Rattle.std.specs.Prelude.{ℕ, ◌+◌, ◌-◌, ◌≡◌, List}
use Rattle.layout.specs.Contact.{contact_pair_index}
use Rattle.layout.specs.Graph.{graph_list}
use Rattle.contact_graph.specs.Calls.{place_of}
use Rattle.contact_range.specs.Recorded.{listed_count, listed_at, contact_at}
use Rattle.contact_graph.specs.declared.remove.Gap.{Gap}

pub record GapOf (g : List ℕ) (id : ℕ) (r : Gap) : Type 0 where
  pub list : r.list_at ≡ graph_list + place_of g id
  pub last : r.last.0 ≡ listed_at g (listed_count g - 1)
  pub index : r.index_at ≡ contact_at g (listed_at g (listed_count g - 1)) + contact_pair_index
  pub place : r.place ≡ place_of g id
