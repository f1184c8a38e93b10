-- What the shares tell in what a step leaves: the bit words alone, each worker's contacts in its own part. Assumes nothing.
use Prim.Native.Nat.{ℕ, ◌+◌, ◌*◌, ◌/◌, ◌%◌, ◌<◌}
use Rattle.std.proofs.Common.{not-suc-le-zero, ◌∙◌, ltb-true}
use native.Mathlib.Omega.{arith}
use Rattle.std.specs.Prelude.{◌≡◌, Bool, cond, ◌&&◌, List, [], get_or}
use Rattle.std.proofs.Math.Path.{refl, ap}
use Rattle.std.proofs.Math.Bool.{true, false}
use Rattle.std.proofs.Math.Dec.{ltb}
use Rattle.rows.specs.Slots.{AllBelow}
use Rattle.rules.specs.Update.{Updated}
use Rattle.data_structures.specs.BitVec.{blocks_of, bit_of, bit_at}
use Rattle.data_structures.specs.BitVecLaws.{blocks_hold}
use Rattle.collider.specs.Recorded.{settings_of}
use Rattle.manifold_records.specs.ListLaws.{get_d_map_upto, length_map_upto}
use Rattle.contact_range.specs.Recorded.{capacity_of}
use Rattle.contact_update.specs.Contact.{update_of}
use Rattle.contact_update.specs.OrderLaws.{graph_after_all}
use Rattle.shares.specs.Shares.{workers_of, count_of, start_of, total_of, entry_at}
use Rattle.status_pass.specs.Pass.{begun, pass_words}
use Rattle.update_pass.specs.BitsLaws.{entries_active, part_bits}
use Rattle.update_pass.specs.JoinLaws.{part_word}
use Rattle.update_pass.specs.ListsLaws.{listed_in, share_room}
use Rattle.update_pass.specs.Shared.{active_of, entries_of, first_of, share_of, worker_bits, parts_of, distances_of, recycled_of, standing_ids}
use Rattle.step.specs.AcceptedLaws.{Accepted}
use Rattle.step.specs.Step.{Given, Rows, made_of, pass_of, rows_of}

-- ---- without the shares
module _ (x y : Given) (g : List ℕ) (s : y.settings ≡ x.settings) (c : y.colliders ≡ x.colliders) (b : y.bodies ≡ x.bodies) (p : y.proposals ≡ x.proposals) where
  made_free : made_of y g ≡ made_of x g
  made_free = λ i id. update_of (settings_of (s i)) (c i) (b i) (p i) id g

  pub shares_free : pass_of y g ≡ pass_of x g
  unfolding pass_of
  shares_free = λ i. pass_words (begun (graph_after_all (settings_of (s i)) (c i) (b i) (p i) g (active_of g))) (standing_ids (made_free i) g)

  pub distances_free : distances_of (made_of y g) g ≡ distances_of (made_of x g) g
  distances_free = λ i. distances_of (made_free i) g

  pub recycled_free : recycled_of (made_of y g) (active_of g) ≡ recycled_of (made_of x g) (active_of g)
  recycled_free = λ i. recycled_of (made_free i) (active_of g)

-- ---- the contacts of a worker
module _ (xs : List ℕ) where
  share_below : (n w : ℕ) → ((k : ℕ) → k < total_of xs → entry_at xs k < n) → AllBelow n (share_of xs w)
  unfolding share_of
  share_below n w below = go (ltb w (workers_of xs)) refl
    where
      go : (t : Bool) → ltb w (workers_of xs) ≡ t → AllBelow n (cond t (first_of xs w (count_of xs w)) [])
      go true e k b =
          let entry : ℕ → ℕ = λ j. entry_at xs (start_of xs w + j) in
          let h : k < count_of xs w = omega (arith, length_map_upto entry (count_of xs w)) in
          let room = share_room xs w (ltb-true w (workers_of xs) e) in
          omega (arith, get_d_map_upto entry (count_of xs w) k 0 h, below (start_of xs w + k) (omega arith))
      go false e k b = absurd (not-suc-le-zero b)

-- ---- the parts, one after another
module _ (u : ℕ → Updated) (blocks : ℕ) (xs : List ℕ) where
  bit_part : (n w id : ℕ) → w < n → id < 64 * blocks → bit_at (parts_of u blocks xs n) (64 * (w * blocks) + id) ≡ bit_at (worker_bits u blocks xs w) id
  unfolding bit_at
  bit_part n w id l b =
      let q : (64 * (w * blocks) + id) / 64 ≡ w * blocks + id / 64 = omega arith in
      let r : (64 * (w * blocks) + id) % 64 ≡ id % 64 = omega arith in
      (λ i. bit_of (get_or (parts_of u blocks xs n) (q i) 0) (r i)) ∙ ap (λ (v : ℕ). bit_of v (id % 64)) (part_word u blocks xs n w (id / 64) l (omega arith))

-- a bit of the buffer: of a worker's part, of one of its contacts, which its update sets
module _ {x : Given} {g : List ℕ} {l : Rows} (a : Accepted x g l) where
  entry_below : (k : ℕ) → k < total_of x.shares → entry_at x.shares k < 64 * blocks_of (capacity_of g)
  unfolding entries_of
  entry_below k b =
      let e = entries_active x.shares g a.checked a.shares in
      let n = total_of x.shares in
      let h = e.entries_below k (omega (arith, length_map_upto (entry_at x.shares) n)) in
      omega (arith, get_d_map_upto (entry_at x.shares) n k 0 b, (blocks_hold (capacity_of g)).0)

  pub bit_of_part : (w id : ℕ) → w < 8 → id < 64 * blocks_of (capacity_of g)
      → bit_at (rows_of x g l).bits (64 * (w * blocks_of (capacity_of g)) + id) ≡ (listed_in (share_of x.shares w) id && (made_of x g id).bit)
  unfolding rows_of
  bit_of_part w id h b =
      let blocks = blocks_of (capacity_of g) in
      bit_part (made_of x g) blocks x.shares 8 w id h b
      ∙ part_bits (made_of x g) blocks x.shares w id (share_below x.shares (64 * blocks) w entry_below)
