-- What the range test's parts know and answer: refusal 1, then refusal 2 condition by condition. Definitions only.
use Rattle.std.specs.Prelude.{◌≡◌, Bool, true, false, cond, ◌&&◌, List, ℕ, ◌+◌, ◌*◌, ◌≤◌, ◌<◌, ltb, length}
use Rattle.rules.specs.Limits.{colliders, most_contacts}
use Rattle.words.specs.Words.{word_at}
use Rattle.layout.specs.Contact.{contact_pair_index, contact_size}
use Rattle.layout.specs.Graph.{graph_length}
use Rattle.data_structures.specs.BitVec.{bit_at}
use Rattle.contact_range.specs.Recorded.{capacity_of, given_of, listed_count, free_count, contact_at}
use Rattle.contact_range.specs.Range.{counts_fit, listed_given, names_back, contacts_fit, free_given, free_once, is_free, free_apart, given_known}

pub record RightLength (g : List ℕ) : Type 0 where
  pub least : 0 < capacity_of g
  pub most : capacity_of g ≤ most_contacts
  pub size : length g ≡ graph_length (capacity_of g)

-- the record of a contact begins at r, and lies in the graph
pub record RecordAt (g : List ℕ) (id r : ℕ) : Type 0 where
  pub place : r ≡ contact_at g id
  pub room : r + contact_size ≤ length g

-- the counts are within the capacity
pub record Counts (g : List ℕ) : Type 0 where
  pub given : given_of g ≤ capacity_of g
  pub listed : listed_count g ≤ capacity_of g
  pub freed : free_count g ≤ capacity_of g

-- the place of the list that a contact's record names
abbrev pub index_at : List ℕ → ℕ → ℕ
index_at g id = word_at g (contact_at g id + contact_pair_index)

-- ---- what is known after the first conditions: lengths and counts
pub record Counted (g : List ℕ) : Type 0 where
  pub right : RightLength g
  pub counts : Counts g

-- and the listed ids were given
pub record ListedGiven (g : List ℕ) : Type 0 where
  pub counted : Counted g
  pub given : listed_given g ≡ true

-- and name their places
pub record Standing (g : List ℕ) : Type 0 where
  pub listed : ListedGiven g
  pub back : names_back g ≡ true

-- ---- marks
pub record Unmarked (bits : List ℕ) : Type 0 where
  pub each : (n : ℕ) → bit_at bits n ≡ false

-- the marks are the free ids
pub record FreeTaken (g bits : List ℕ) : Type 0 where
  pub each : (id : ℕ) → bit_at bits id ≡ is_free g id

-- what `free_once` leaves
pub record FreeMarked (g bits : List ℕ) (r : Bool) : Type 0 where
  pub answer : r ≡ free_once g
  pub marks : r ≡ true → FreeTaken g bits

-- ---- the conditions of the list, and of the free ids
unfoldable pub listed_fits : List ℕ → Bool
listed_fits g = counts_fit g && (listed_given g && (names_back g && contacts_fit g))

unfoldable pub free_fits : List ℕ → Bool
free_fits g = free_given g && (free_once g && (free_apart g && given_known g))

-- bit words for a mark of every pair of colliders
abbrev pub pair_blocks : ℕ
pair_blocks = 1024

-- a number for a pair of colliders: the lower one times 256, and the higher
abbrev pub pair_number : ℕ → ℕ → ℕ
pair_number a b = cond (ltb a b) (a * colliders + b) (b * colliders + a)
