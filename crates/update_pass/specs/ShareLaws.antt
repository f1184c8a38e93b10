-- A worker's contacts, one after another: each is ready when its turn comes, and the rules make of it what they make of it at the start. Assumes nothing.
use Rattle.std.specs.Prelude.{ℕ, suc, ◌+◌, ◌*◌, ◌≤◌, ◌<◌, ◌≡◌, ◌≢◌, Bool, true, false, cond, List, [], ◌∷◌, ◌++◌, length, get_or}
use Rattle.std.proofs.Common.{add_assoc, sym, ap, subst, ◌∙◌}
use native.Mathlib.Omega.{arith}
use Rattle.rows.specs.Rows.{put}
use Rattle.rules.specs.Inputs.{Settings}
use Rattle.rules.specs.Update.{is_recycled, Updated}
use Rattle.words.specs.Words.{word_at, float_word}
use Rattle.data_structures.specs.BitVec.{marked}
use Rattle.data_structures.specs.BitVecLaws.{blocks_hold}
use Rattle.manifold_records.specs.ListLaws.{map_upto_next, get_d_map_upto, length_map_upto}
use Rattle.contact_range.specs.Range.{stands}
use Rattle.contact_range.specs.RangeLaws.{standing_below}
use Rattle.contact_range.specs.Recorded.{capacity_of}
use Rattle.contact_update.specs.After.{graph_after}
use Rattle.contact_update.specs.Contact.{ContactReady, ContactUpdated, update_of}
use Rattle.contact_update.specs.OrderLaws.{graph_after_all}
use Rattle.shares.specs.Shares.{workers_of, count_of, start_of, total_of, entry_at}
use Rattle.update_pass.specs.ListsLaws.{start_within, bits_next, distances_next, recycled_next, length_bits_after, length_distances_after, recycled_most}
use Rattle.update_pass.specs.Share.{AllListed, ShareReady, made, Taken}
use Rattle.update_pass.specs.Shared.{first_of, bits_after, distances_after, recycled_of}
use Rattle.update_pass.specs.UpdatedAllLaws.{AllStand, after_all_next, after_ready, after_stands, unaffected}

module _ (s : Settings) (colliders bodies proposals shares : List ℕ) {g : List ℕ} (a : AllListed s colliders bodies proposals shares g) (w : ℕ) (given : w < workers_of shares) where
  abbrev id_at : ℕ → ℕ
  id_at k = entry_at shares (start_of shares w + k)

  abbrev ids : ℕ → List ℕ
  ids k = first_of shares w k

  pub within : (k : ℕ) → k < count_of shares w → start_of shares w + k < total_of shares
  unfolding start_of
  within k l = let m = start_within shares (suc w) given in omega arith

  pub ids_stand : (k : ℕ) → k ≤ count_of shares w → AllStand g (ids k)
  ids_stand k l j b =
      let c : j < k = omega (arith, length_map_upto id_at k) in
      ap (stands g) (get_d_map_upto id_at k j 0 c) ∙ a.standing (start_of shares w + j) (within j (omega arith))

  apart : (k : ℕ) → k < count_of shares w → (j : ℕ) → j < length (ids k) → get_or (ids k) j 0 ≢ id_at k
  apart k l j b e =
      let c : j < k = omega (arith, length_map_upto id_at k) in
      a.once (start_of shares w + j) (start_of shares w + k) (omega arith) (within k l) (sym (get_d_map_upto id_at k j 0 c) ∙ e)

  abbrev here : ℕ → List ℕ
  here k = graph_after_all s colliders bodies proposals g (ids k)

  module _ (k : ℕ) (l : k < count_of shares w) where
    stood : AllStand g (ids k)
    stood = ids_stand k (omega arith)

    pub next_stands : stands g (id_at k) ≡ true
    next_stands = a.standing (start_of shares w + k) (within k l)

    pub next_ready : ContactReady colliders bodies proposals (here k) (id_at k)
    next_ready =
        (after_ready s colliders bodies proposals g a.fit a.ready (ids k) stood).each (id_at k)
        (after_stands s colliders bodies proposals g a.fit a.ready (ids k) stood (id_at k) ∙ next_stands)

    pub next_below : id_at k < capacity_of g
    next_below = standing_below a.ready.checked.range (id_at k) next_stands

    pub next_same : update_of s colliders bodies proposals (id_at k) (here k) ≡ made s colliders bodies proposals shares g (id_at k)
    next_same = unaffected s colliders bodies proposals g a.fit a.ready (ids k) stood (id_at k) next_stands (apart k l)

    -- one contact more
    pub next_taken : (id : ℕ) {bits ds h hb hd h' hb' hd' : List ℕ} {r : ℕ} {again : Bool} → id ≡ id_at k → Taken s colliders bodies proposals shares (ids k) g bits ds h hb hd r
        → ContactUpdated s colliders bodies proposals id h h' hb hb' hd hd' again → Taken s colliders bodies proposals shares (ids (k + 1)) g bits ds h' hb' hd' (r + cond again 1 0)
    next_taken id {bits} {ds} {h} {hb} {hd} {h'} {hb'} {hd'} {r} {again} e t c =
        let u : update_of s colliders bodies proposals id h ≡ made s colliders bodies proposals shares g id =
        (λ i. update_of s colliders bodies proposals (e i) (t.graph i)) ∙ next_same ∙ ap (made s colliders bodies proposals shares g) (sym e) in
        let more : ids (k + 1) ≡ ids k ++ id ∷ [] = map_upto_next id_at k ∙ ap (λ (i : ℕ). ids k ++ i ∷ []) (sym e) in
        let m = made s colliders bodies proposals shares g in
        record {
          graph =
              c.graph ∙ ap (λ (x : List ℕ). graph_after s colliders bodies proposals x id) t.graph ∙ sym (after_all_next s colliders bodies proposals g (ids k) id)
              ∙ ap (graph_after_all s colliders bodies proposals g) (sym more);
          bit = c.bit ∙ (λ i. cond (u i).bit (marked (t.bit i) id) (t.bit i)) ∙ sym (bits_next m bits (ids k) id) ∙ ap (bits_after m bits) (sym more);
          distance = c.distance ∙ (λ i. put (t.distance i) id (float_word (u i).max_contact_distance ∷ [])) ∙ sym (distances_next m ds (ids k) id) ∙ ap (distances_after m ds) (sym more);
          recycled = (λ i. t.recycled i + cond ((c.recycled ∙ ap (λ (x : Updated). is_recycled x.way) u) i) 1 0) ∙ sym (recycled_next m (ids k) id) ∙ ap (recycled_of m) (sym more);
        }

    -- the code's place of the entry
    pub next_entry : {from id : ℕ} → from ≡ 9 + start_of shares w → id ≡ word_at shares (from + k) → id ≡ id_at k
    next_entry e f = f ∙ ap (λ (n : ℕ). word_at shares (n + k)) e ∙ ap (word_at shares) (add_assoc 9 (start_of shares w) k)

-- the same, as the code has it
module _ (s : Settings) (colliders bodies proposals shares : List ℕ) (w : ℕ) {g bits ds : List ℕ} (ready : ShareReady s colliders bodies proposals shares w g bits ds) where
  abbrev list : AllListed s colliders bodies proposals shares g
  list = ready.listed

  pub record Places : Type 0 where
    pub worker : w < 8
    pub size : length shares ≡ 9 + capacity_of g
    pub least : 0 < capacity_of g
    pub most : capacity_of g ≤ 256
    pub room : start_of shares w + count_of shares w ≤ capacity_of g

  pub places : Places
  unfolding start_of
  places =
      let n = list.workers in
      let l = ready.given in
      let t = list.total in
      let m = start_within shares (suc w) l in
      let right = list.ready.checked.right in
      record { worker = omega arith; size = list.size; least = right.least; most = right.most; room = omega arith }

  module _ (k : ℕ) {h hb hd : List ℕ} {r : ℕ} (t : Taken s colliders bodies proposals shares (first_of shares w k) g bits ds h hb hd r) where
    pub few : r ≤ k
    few = let e = t.recycled in omega (arith, recycled_most (made s colliders bodies proposals shares g) (first_of shares w k), length_map_upto (λ j. entry_at shares (start_of shares w + j)) k)

    bits_kept : length hb ≡ length bits
    bits_kept = ap (λ (x : List ℕ). length x) t.bit ∙ length_bits_after (made s colliders bodies proposals shares g) bits (first_of shares w k)

    distances_kept : length hd ≡ length ds
    distances_kept = ap (λ (x : List ℕ). length x) t.distance ∙ length_distances_after (made s colliders bodies proposals shares g) ds (first_of shares w k)

    pub turn_ready : (id : ℕ) → k < count_of shares w → id ≡ entry_at shares (start_of shares w + k)
        → ContactReady colliders bodies proposals h id × (id < 64 * length hb) × (id < length hd)
    turn_ready id l e =
        let c = subst (λ (x : List ℕ). ContactReady colliders bodies proposals x (entry_at shares (start_of shares w + k))) (sym t.graph)
        (next_ready s colliders bodies proposals shares list w ready.given k l) in
        let b = next_below s colliders bodies proposals shares list w ready.given k l in
        let n = (blocks_hold (capacity_of g)).0 in
        let u = ready.bit_words in
        let v = ready.distance_words in
        let x = bits_kept in
        let y = distances_kept in
        (subst (λ (i : ℕ). ContactReady colliders bodies proposals h i) (sym e) c, omega arith, omega arith)

    pub turn_few : (again : Bool) {n m : ℕ} → n ≡ cond again 1 0 → k < m → r + n ≤ m
    turn_few again {n} {m} e l = one again e
      where
        one : (b : Bool) → n ≡ cond b 1 0 → r + n ≤ m
        one true e = let f = few in omega arith
        one false e = let f = few in omega arith

    pub turn_taken : (id : ℕ) {h' hb' hd' : List ℕ} {again : Bool} {n : ℕ} → k < count_of shares w → id ≡ entry_at shares (start_of shares w + k)
        → ContactUpdated s colliders bodies proposals id h h' hb hb' hd hd' again → n ≡ cond again 1 0
        → Taken s colliders bodies proposals shares (first_of shares w (k + 1)) g bits ds h' hb' hd' (r + n)
    turn_taken id {h'} {hb'} {hd'} {again} {n} l e c f =
        subst (λ (m : ℕ). Taken s colliders bodies proposals shares (first_of shares w (k + 1)) g bits ds h' hb' hd' (r + m)) (sym f)
        (next_taken s colliders bodies proposals shares list w ready.given k l id e t c)

    pub turns_done : {m : ℕ} → k ≡ m → Taken s colliders bodies proposals shares (first_of shares w m) g bits ds h hb hd r
    turns_done e = subst (λ (m : ℕ). Taken s colliders bodies proposals shares (first_of shares w m) g bits ds h hb hd r) e t
