-- What a graph's words record. Definitions only.
use Rattle.std.specs.Prelude.{ℕ, ◌+◌, List, map}
use Rattle.rows.specs.Slots.{upto}
use Rattle.rules.specs.Graph.{Graph}
use Rattle.words.specs.Words.{word_at}
use Rattle.contact_records.specs.Recorded.{pair_at}
use Rattle.layout.specs.Graph.{contact_place, graph_free, graph_freed, graph_given, graph_list, graph_listed}

abbrev pub capacity_of : List ℕ → ℕ
capacity_of g = word_at g 0

abbrev pub given_of : List ℕ → ℕ
given_of g = word_at g graph_given

abbrev pub listed_count : List ℕ → ℕ
listed_count g = word_at g graph_listed

abbrev pub free_count : List ℕ → ℕ
free_count g = word_at g graph_freed

-- the id at a place of the list, and at a place of the free ids
abbrev pub listed_at : List ℕ → ℕ → ℕ
listed_at g p = word_at g (graph_list + p)

abbrev pub free_at : List ℕ → ℕ → ℕ
free_at g k = word_at g (graph_free (capacity_of g) + k)

-- where the record of a contact begins
abbrev pub contact_at : List ℕ → ℕ → ℕ
contact_at g id = contact_place (capacity_of g) id

unfoldable pub graph_of : List ℕ → Graph
graph_of g =
    record {
      capacity = capacity_of g;
      given = given_of g;
      free = map (free_at g) (upto (free_count g));
      pairs = map (λ p. pair_at g (contact_at g (listed_at g p)) (listed_at g p)) (upto (listed_count g));
    }
