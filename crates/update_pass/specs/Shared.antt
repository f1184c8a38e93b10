-- The workers' contacts, and what their updates leave in the lent rows. Definitions only.
use Rattle.std.specs.Prelude.{ℕ, zero, suc, ◌+◌, ◌*◌, cond, ◌&&◌, List, [], ◌∷◌, ◌++◌, map, ltb}
use Rattle.rows.specs.Rows.{put}
use Rattle.rows.specs.Slots.{upto}
use Rattle.rules.specs.Update.{is_recycled, Updated}
use Rattle.words.specs.Words.{float_word}
use Rattle.data_structures.specs.BitVec.{blocks_of, marked, joined, numbers_with}
use Rattle.manifold_records.specs.Written.{zeros}
use Rattle.contact_range.specs.Range.{stands}
use Rattle.contact_range.specs.Recorded.{capacity_of, listed_count, listed_at}
use Rattle.rules.specs.Limits.{most_workers}
use Rattle.shares.specs.Shares.{workers_of, count_of, start_of, total_of, entry_at}

-- the contacts of the list, in its order
unfoldable pub active_of : List ℕ → List ℕ
active_of g = map (listed_at g) (upto (listed_count g))

-- the contacts that the shares list, worker by worker
unfoldable pub entries_of : List ℕ → List ℕ
entries_of xs = map (entry_at xs) (upto (total_of xs))

-- a worker's first k contacts, and all of them; a worker that is not given has none
abbrev pub first_of : List ℕ → ℕ → ℕ → List ℕ
first_of xs w k = map (λ j. entry_at xs (start_of xs w + j)) (upto k)

unfoldable pub share_of : List ℕ → ℕ → List ℕ
share_of xs w = cond (ltb w (workers_of xs)) (first_of xs w (count_of xs w)) []

-- u is what the rules make of each contact
module _ (u : ℕ → Updated) where
  -- bit words with the bit of each contact of the list whose update sets it
  unfoldable pub bits_after : List ℕ → List ℕ → List ℕ
  bits_after bits [] = bits
  bits_after bits (id ∷ ids) = bits_after (cond (u id).bit (marked bits id) bits) ids

  -- distances, each contact's at its id
  unfoldable pub distances_after : List ℕ → List ℕ → List ℕ
  distances_after ds [] = ds
  distances_after ds (id ∷ ids) = distances_after (put ds id (float_word (u id).max_contact_distance ∷ [])) ids

  -- how many of the list were recycled
  unfoldable pub recycled_of : List ℕ → ℕ
  recycled_of [] = 0
  recycled_of (id ∷ ids) = cond (is_recycled (u id).way) 1 0 + recycled_of ids

  -- ---- the buffer of bit words: a part for each of eight workers, the bits of the worker's contacts in it
  unfoldable pub worker_bits : ℕ → List ℕ → ℕ → List ℕ
  worker_bits blocks xs w = bits_after (zeros blocks) (share_of xs w)

  -- the parts of the first n workers
  unfoldable pub parts_of : ℕ → List ℕ → ℕ → List ℕ
  parts_of blocks xs zero = []
  parts_of blocks xs (suc n) = parts_of blocks xs n ++ worker_bits blocks xs n

  -- joined by or
  unfoldable pub joined_of : ℕ → List ℕ → ℕ → List ℕ
  joined_of blocks xs zero = zeros blocks
  joined_of blocks xs (suc n) = joined (joined_of blocks xs n) (worker_bits blocks xs n)

  -- ---- of the graph alone, without shares
  -- the contacts whose status bit stands, ascending
  unfoldable pub standing_ids : List ℕ → List ℕ
  standing_ids g = numbers_with (λ id. stands g id && (u id).bit) 0 (capacity_of g)

  -- a distance for each id below the capacity: +0 where no contact stands
  unfoldable pub distances_of : List ℕ → List ℕ
  distances_of g = map (λ id. cond (stands g id) (float_word (u id).max_contact_distance) 0) (upto (capacity_of g))

-- bit words of a graph: as many for each worker as hold a bit for each contact
abbrev pub bits_length : ℕ → ℕ
bits_length capacity = most_workers * blocks_of capacity
