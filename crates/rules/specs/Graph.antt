-- The graph as a plain value, and what lay out, add, look up and remove do to it: the specification, 'The door' and 'Status pass'. Definitions only.
use Rattle.std.specs.Prelude.{ℕ, suc, ◌-◌, Bool, false, cond, List, [], ◌∷◌, ◌++◌, eqb, pos, Float, length, get_or, take, set, Option, None, Some}
use Rattle.rules.specs.Records.{PairFlags, Pair}

-- ids 0 to given - 1 were given; the free ones in the order freed; the pairs in the list's order
pub record Graph : Type 0 where
  pub capacity : ℕ
  pub given : ℕ
  pub free : List ℕ
  pub pairs : List Pair

abbrev pub empty_graph : ℕ → Graph
empty_graph n = record { capacity = n; given = 0; free = []; pairs = [] }

-- ---- addition
pub record Addition : Type 0 where
  pub collider1 : ℕ
  pub collider2 : ℕ
  pub body1 : Option ℕ
  pub body2 : Option ℕ
  pub contact_events : Bool
  pub modify_contacts : Bool
  pub speculative : Float

-- a new id is the one freed last, else the lowest never given
unfoldable pub new_id : Graph → ℕ
new_id g = cond (eqb (length g.free) 0) g.given (get_or g.free (length g.free - 1) 0)

-- no flag but the one that the addition carries
abbrev pub new_flags : Bool → PairFlags
new_flags modify =
    record {
      touching = false;
      disjoint_aabb = false;
      started_touching = false;
      stopped_touching = false;
      generate_constraints = false;
      started_generating = false;
      static1 = false;
      static2 = false;
      modify_contacts = modify;
    }

-- the rest is as in `ContactPair::new`
abbrev pub new_pair : ℕ → Addition → Pair
new_pair id a =
    record {
      names = record { id = id; collider1 = a.collider1; collider2 = a.collider2; body1 = a.body1; body2 = a.body2 };
      edge = record { touching = false; contact_events = a.contact_events };
      flags = new_flags a.modify_contacts;
      manifolds = [];
      count_change = pos 0;
      speculative = a.speculative;
      cache = None;
    }

-- the pair is appended under its new id
unfoldable pub plain_add : Addition → Graph → Graph
plain_add a g =
    record {
      capacity = g.capacity;
      given = cond (eqb (length g.free) 0) (suc g.given) g.given;
      free = take (length g.free - 1) g.free;
      pairs = g.pairs ++ new_pair (new_id g) a ∷ [];
    }

-- ---- look up and removal, by id
abbrev pub later : Option ℕ → Option ℕ
later None = None
later (Some i) = Some (suc i)

-- the place of a contact in the list
unfoldable pub pair_index : ℕ → List Pair → Option ℕ
pair_index id [] = None
pair_index id (p ∷ ps) = cond (eqb p.names.id id) (Some 0) (later (pair_index id ps))

-- the last pair takes the gap's place
unfoldable pub swap_remove : List Pair → ℕ → Pair → List Pair
swap_remove ps i d = take (length ps - 1) (set ps i (get_or ps (length ps - 1) d))

-- the pair at a place goes, and its id is the one freed last
abbrev pub removed_at : Graph → ℕ → Pair → Graph
removed_at g i p = record { capacity = g.capacity; given = g.given; free = g.free ++ p.names.id ∷ []; pairs = swap_remove g.pairs i p }

unfoldable pub removed_found : Graph → Option ℕ → List Pair → Graph
removed_found g None ps = g
removed_found g (Some i) [] = g
removed_found g (Some i) (p ∷ ps) = removed_at g i (get_or (p ∷ ps) i p)

unfoldable pub plain_remove : ℕ → Graph → Graph
plain_remove id g = removed_found g (pair_index id g.pairs) g.pairs
