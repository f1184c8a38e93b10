-- What a worker's share asks and leaves, and all shares together. Definitions only.
use Rattle.std.specs.Prelude.{ℕ, zero, suc, ◌*◌, ◌≤◌, ◌<◌, ◌≡◌, true, List, length}
use Rattle.rows.specs.Rows.{part}
use Rattle.rules.specs.Inputs.{Settings}
use Rattle.rules.specs.Update.{Updated}
use Rattle.data_structures.specs.BitVec.{blocks_of, joined}
use Rattle.manifold_records.specs.Written.{zeros}
use Rattle.contact_range.specs.Range.{stands}
use Rattle.contact_range.specs.Recorded.{capacity_of}
use Rattle.contact_update.specs.Contact.{update_of}
use Rattle.contact_update.specs.OrderLaws.{graph_after_all}
use Rattle.contact_update.specs.UpdateFitLaws.{FitSettings}
use Rattle.rules.specs.Limits.{most_workers}
use Rattle.layout.specs.Shares.{shares_length}
use Rattle.shares.specs.Shares.{workers_of, count_of, total_of, entry_at}
use Rattle.update_pass.specs.Shared.{entries_of, first_of, bits_after, distances_after, recycled_of, parts_of, bits_length}
use Rattle.update_pass.specs.UpdatedAllLaws.{AllReady}

module _ (s : Settings) (colliders bodies proposals shares : List ℕ) where
  -- every contact can be updated; what is listed stands, and stands once
  pub record AllListed (g : List ℕ) : Type 0 where
    pub fit : FitSettings s
    pub ready : AllReady colliders bodies proposals g
    pub size : length shares ≡ shares_length (capacity_of g)
    pub workers : workers_of shares ≤ most_workers
    pub total : total_of shares ≤ capacity_of g
    pub standing : (j : ℕ) → j < total_of shares → stands g (entry_at shares j) ≡ true
    pub once : (j k : ℕ) → j < k → k < total_of shares → entry_at shares j ≡ entry_at shares k → ⊥

  -- a given worker, its own part of the bit words, and the distances
  pub record ShareReady (w : ℕ) (g bits distances : List ℕ) : Type 0 where
    pub listed : AllListed g
    pub given : w < workers_of shares
    pub bit_words : length bits ≡ blocks_of (capacity_of g)
    pub distance_words : length distances ≡ capacity_of g

  -- what the rules make of each contact of that graph
  abbrev pub made : List ℕ → ℕ → Updated
  made g id = update_of s colliders bodies proposals id g

  -- the updates of the contacts of a list, one after another: the graph, the bits, the distances, and how many were recycled
  pub record Taken (ids g bits ds g' bits' ds' : List ℕ) (r : ℕ) : Type 0 where
    pub graph : g' ≡ graph_after_all s colliders bodies proposals g ids
    pub bit : bits' ≡ bits_after (made g) bits ids
    pub distance : ds' ≡ distances_after (made g) ds ids
    pub recycled : r ≡ recycled_of (made g) ids

  -- The promise of `update_share`.
  abbrev pub ShareTaken : ℕ → List ℕ → List ℕ → List ℕ → List ℕ → List ℕ → List ℕ → ℕ → Type 0
  ShareTaken w g bits ds g' bits' ds' r = Taken (first_of shares w (count_of shares w)) g bits ds g' bits' ds' r

  -- all workers: what the rows are lent as does not matter
  pub record SharesReady (g bits distances : List ℕ) : Type 0 where
    pub listed : AllListed g
    pub bit_words : length bits ≡ bits_length (capacity_of g)
    pub distance_words : length distances ≡ capacity_of g

  -- The promise of `update_all`.
  pub record AllTaken (g g' bits' ds' : List ℕ) (r : ℕ) : Type 0 where
    pub graph : g' ≡ graph_after_all s colliders bodies proposals g (entries_of shares)
    pub bit : bits' ≡ parts_of (made g) (blocks_of (capacity_of g)) shares most_workers
    pub distance : ds' ≡ distances_after (made g) (zeros (capacity_of g)) (entries_of shares)
    pub recycled : r ≡ recycled_of (made g) (entries_of shares)

-- the first n parts of that many words each, joined by or
unfoldable pub joined_parts : ℕ → List ℕ → ℕ → List ℕ
joined_parts blocks bits zero = zeros blocks
joined_parts blocks bits (suc n) = joined (joined_parts blocks bits n) (part bits (n * blocks) blocks)
