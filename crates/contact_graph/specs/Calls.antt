-- Lay out, add, look up and remove: the answer and every word of the lent graph, in a refusal too. Definitions only.
use Rattle.std.specs.Prelude.{ℕ, ◌+◌, ◌-◌, Bool, true, false, cond, not, ◌&&◌, List, [], ◌∷◌, eqb, ltb, leb, length, None, Option, Some}
use Rattle.rows.specs.Rows.{put}
use Rattle.rules.specs.Graph.{Addition, new_pair}
use Rattle.rules.specs.Limits.{colliders, bodies, most_contacts}
use Rattle.rules.specs.Numbers.{any}
use Rattle.words.specs.Words.{word_at, float_at}
use Rattle.manifold_records.specs.Written.{zeros}
use Rattle.layout.specs.Contact.{contact_pair_index}
use Rattle.layout.specs.Graph.{graph_free, graph_given, graph_length, graph_list, graph_listed}
use Rattle.layout.specs.Request.{request_body1, request_body1_number, request_body2, request_body2_number, request_collider1, request_collider2, request_contact_events, request_modify_contacts, request_speculative_distance}
use Rattle.contact_records.specs.Written.{contact_words}
use Rattle.contact_range.specs.Recorded.{capacity_of, given_of, listed_count, free_count, listed_at, free_at, contact_at}
use Rattle.contact_range.specs.Range.{is_mark, same_colliders, right_length, in_range, stands}
use Rattle.contact_graph.specs.declared.call.Request.{Request}
use Rattle.contact_graph.specs.declared.call.ContactEdge.{ContactEdge}

-- ---- lay out
-- 1: the capacity is not 1 to 256, or the length is not the one for it
unfoldable pub lay_out_refusal : List ℕ → ℕ → ℕ
lay_out_refusal g capacity = cond (ltb 0 capacity && (leb capacity most_contacts && eqb (length g) (graph_length capacity))) 0 1

-- the capacity, and 0 in every other word
unfoldable pub laid_out : ℕ → List ℕ
laid_out capacity = capacity ∷ zeros (graph_length capacity - 1)

-- ---- add
-- an optional body: a mark, and behind a mark of 1 a number below 128
abbrev pub body_fits : ℕ → ℕ → Bool
body_fits mark body = is_mark mark && cond (eqb mark 1) (ltb body bodies) true

abbrev pub optional : ℕ → ℕ → Option ℕ
optional mark n = cond (eqb mark 1) (Some n) None

-- the word behind a mark
abbrev pub body_word : ℕ → ℕ → ℕ
body_word mark n = cond (eqb mark 1) n 0

-- the request in an addition's words
abbrev pub request_of : List ℕ → Request
request_of w =
    record {
      collider1 = word_at w request_collider1;
      collider2 = word_at w request_collider2;
      has_body1 = word_at w request_body1;
      body1 = word_at w request_body1_number;
      has_body2 = word_at w request_body2;
      body2 = word_at w request_body2_number;
      contact_events = word_at w request_contact_events;
      modify_contacts = word_at w request_modify_contacts;
      speculative_distance = float_at w request_speculative_distance;
    }

-- refusal 2 of the addition itself
unfoldable pub request_fits : Request → Bool
request_fits a =
    (ltb a.collider1 colliders && ltb a.collider2 colliders)
    && ((body_fits a.has_body1 a.body1 && body_fits a.has_body2 a.body2) && (is_mark a.contact_events && is_mark a.modify_contacts))

-- the addition that a request in range asks for
abbrev pub addition_of : Request → Addition
addition_of a =
    record {
      collider1 = a.collider1;
      collider2 = a.collider2;
      body1 = optional a.has_body1 a.body1;
      body2 = optional a.has_body2 a.body2;
      contact_events = eqb a.contact_events 1;
      modify_contacts = eqb a.modify_contacts 1;
      speculative = a.speculative_distance;
    }

-- `ContactEdge::new`: no id yet (`PLACEHOLDER`)
abbrev pub new_edge : ℕ → ℕ → ContactEdge
new_edge a b =
    record {
      id = record { 0 = 0xffff_ffff };
      collider1 = a;
      collider2 = b;
      body1 = None;
      body2 = None;
      pair_index = 0;
      touching = false;
      contact_events = false;
    }

-- the pair at a place of the list is that pair, in either order
abbrev pub stands_at : List ℕ → ℕ → ℕ → ℕ → Bool
stands_at g a b p = same_colliders a b (word_at g (contact_at g (listed_at g p))) (word_at g (contact_at g (listed_at g p) + 1))

-- the pair stands already
unfoldable pub pair_stands : List ℕ → ℕ → ℕ → Bool
pair_stands g a b = any (stands_at g a b) (listed_count g)

-- 1 to 5, in that order; 0 where nothing is refused
unfoldable pub add_refusal : List ℕ → Request → ℕ
add_refusal g a =
    cond (not (right_length g)) 1
    (cond (not (in_range g && request_fits a)) 2
    (cond (eqb a.collider1 a.collider2) 3
    (cond (pair_stands g a.collider1 a.collider2) 4
    (cond (eqb (listed_count g) (capacity_of g)) 5 0))))

-- the id freed last, else the lowest never given
unfoldable pub new_id_of : List ℕ → ℕ
new_id_of g = cond (eqb (free_count g) 0) (given_of g) (free_at g (free_count g - 1))

-- the record at the new id, the id at the list's end, and the three counts
unfoldable pub added_words : List ℕ → Request → List ℕ
added_words g a =
    put (put (put g (contact_at g (new_id_of g)) (contact_words (listed_count g) (new_pair (new_id_of g) (addition_of a))))
    (graph_list + listed_count g) (new_id_of g ∷ []))
    graph_given (cond (eqb (free_count g) 0) (given_of g + 1) (given_of g) ∷ (listed_count g + 1) ∷ (free_count g - 1) ∷ [])

-- ---- look up and remove
-- 1, 2, 9, in that order
unfoldable pub id_refusal : List ℕ → ℕ → ℕ
id_refusal g id = cond (not (right_length g)) 1 (cond (not (in_range g)) 2 (cond (stands g id) 0 9))

-- the contact's place in the list
abbrev pub place_of : List ℕ → ℕ → ℕ
place_of g id = word_at g (contact_at g id + contact_pair_index)

-- The last listed contact takes the gap and is told its new place; the id is the one freed last; the two counts.
-- Where the contact is itself the last, it is written to its own place.
unfoldable pub removed_words : List ℕ → ℕ → List ℕ
removed_words g id =
    let last = listed_at g (listed_count g - 1) in
    put (put (put (put g (graph_list + place_of g id) (last ∷ [])) (contact_at g last + contact_pair_index) (place_of g id ∷ []))
    (graph_free (capacity_of g) + free_count g) (id ∷ []))
    graph_listed ((listed_count g - 1) ∷ (free_count g + 1) ∷ [])
