-- Refusals 1 and 2 of a lent graph, condition by condition. Definitions only.
-- Nothing is asked of what is not recorded: places past a count, what stands behind a mark of 0, records of ids that do not stand.
use Rattle.std.specs.Prelude.{ℕ, ◌+◌, ◌*◌, Bool, true, cond, not, ◌&&◌, ◌||◌, List, T, eqb, ltb, leb, length}
use Rattle.layout.specs.Contact.{contact_body1, contact_body2, contact_cache, contact_edge_flags, contact_manifolds, contact_pair_index, marks_size}
use Rattle.layout.specs.Graph.{graph_length}
use Rattle.layout.specs.Manifold.{manifold_size}
use Rattle.rules.specs.Limits.{bodies, colliders, most_contacts, pair_manifolds, stored_points}
use Rattle.rules.specs.Numbers.{every, any}
use Rattle.words.specs.Words.{word_at}
use Rattle.contact_range.specs.Recorded.{capacity_of, given_of, listed_count, free_count, listed_at, free_at, contact_at}

-- refusal 1: the capacity is 1 to 256, and the length is the one for it
unfoldable pub right_length : List ℕ → Bool
right_length g = ltb 0 (capacity_of g) && (leb (capacity_of g) most_contacts && eqb (length g) (graph_length (capacity_of g)))

-- ---- one contact's record, from that place
-- a mark is 0 or 1
abbrev pub is_mark : ℕ → Bool
is_mark w = ltb w 2

-- a mark, and behind a mark of 1 a number below the limit
abbrev pub optional_fits : ℕ → List ℕ → ℕ → Bool
optional_fits limit g at = is_mark (word_at g at) && cond (eqb (word_at g at) 1) (ltb (word_at g (at + 1)) limit) true

unfoldable pub names_fit : List ℕ → ℕ → Bool
names_fit g at =
    (ltb (word_at g at) colliders && ltb (word_at g (at + 1)) colliders)
    && (optional_fits bodies g (at + contact_body1) && optional_fits bodies g (at + contact_body2))

-- the edge's two marks and the pair's nine, and the cache's
unfoldable pub marks_fit : List ℕ → ℕ → Bool
marks_fit g at = every (λ k. is_mark (word_at g (at + contact_edge_flags + k))) marks_size && is_mark (word_at g (at + contact_cache))

-- at most 6 manifolds, and at most 4 points in each that is counted
unfoldable pub manifolds_fit : List ℕ → ℕ → Bool
manifolds_fit g at =
    leb (word_at g (at + contact_manifolds)) pair_manifolds
    && every (λ k. leb (word_at g (at + contact_manifolds + 1 + k * manifold_size)) stored_points) (word_at g (at + contact_manifolds))

unfoldable pub contact_fits : List ℕ → ℕ → Bool
contact_fits g at = names_fit g at && (marks_fit g at && manifolds_fit g at)

-- ---- the graph
-- ids given, listed and free: each count at most the capacity
unfoldable pub counts_fit : List ℕ → Bool
counts_fit g = leb (given_of g) (capacity_of g) && (leb (listed_count g) (capacity_of g) && leb (free_count g) (capacity_of g))

-- a listed id was given
unfoldable pub listed_given : List ℕ → Bool
listed_given g = every (λ p. ltb (listed_at g p) (given_of g)) (listed_count g)

-- a list entry and its contact name each other
unfoldable pub names_back : List ℕ → Bool
names_back g = every (λ p. eqb (word_at g (contact_at g (listed_at g p) + contact_pair_index)) p) (listed_count g)

-- the record of each listed contact
unfoldable pub contacts_fit : List ℕ → Bool
contacts_fit g = every (λ p. contact_fits g (contact_at g (listed_at g p))) (listed_count g)

-- a free id was given
unfoldable pub free_given : List ℕ → Bool
free_given g = every (λ k. ltb (free_at g k) (given_of g)) (free_count g)

-- no id is free twice
unfoldable pub free_once : List ℕ → Bool
free_once g = every (λ k. every (λ j. not (eqb (free_at g j) (free_at g k))) k) (free_count g)

-- an id stands if a list entry names it
unfoldable pub stands : List ℕ → ℕ → Bool
stands g id = any (λ p. eqb (listed_at g p) id) (listed_count g)

unfoldable pub is_free : List ℕ → ℕ → Bool
is_free g id = any (λ k. eqb (free_at g k) id) (free_count g)

-- no id is both free and standing
unfoldable pub free_apart : List ℕ → Bool
free_apart g = every (λ k. not (stands g (free_at g k))) (free_count g)

-- an id that was given stands or is free
unfoldable pub given_known : List ℕ → Bool
given_known g = every (λ id. stands g id || is_free g id) (given_of g)

-- the same two colliders, in either order
unfoldable pub same_colliders : ℕ → ℕ → ℕ → ℕ → Bool
same_colliders a b c d = (eqb a c && eqb b d) || (eqb a d && eqb b c)

-- the places p and q of the list have the same two colliders
unfoldable pub same_pair : List ℕ → ℕ → ℕ → Bool
same_pair g p q =
    same_colliders (word_at g (contact_at g (listed_at g p))) (word_at g (contact_at g (listed_at g p) + 1)) (word_at g (contact_at g (listed_at g q))) (word_at g (contact_at g (listed_at g q) + 1))

-- no pair stands twice
unfoldable pub pairs_once : List ℕ → Bool
pairs_once g = every (λ p. every (λ q. not (same_pair g q p)) p) (listed_count g)

-- Refusal 2 has nothing to say of the graph. `InRange` is the graph's invariant.
pub record InRange (g : List ℕ) : Type 0 where
  pub counts : T (counts_fit g)
  pub given : T (listed_given g)
  pub back : T (names_back g)
  pub contacts : T (contacts_fit g)
  pub freed : T (free_given g)
  pub once : T (free_once g)
  pub apart : T (free_apart g)
  pub known : T (given_known g)
  pub pairs : T (pairs_once g)

-- the same as one test
unfoldable pub in_range : List ℕ → Bool
in_range g =
    counts_fit g && (listed_given g && (names_back g && (contacts_fit g && (free_given g && (free_once g && (free_apart g && (given_known g && pairs_once g)))))))
