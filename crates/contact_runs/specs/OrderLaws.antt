-- In whatever order the active contacts are updated, once each and each on the graph that the updates before it left: the graph, the bit words, the distances,
-- the recycled count and the status pass after them are those of the step. Assumes nothing.
use Prim.Native.Nat.{ℕ, zero, suc, ◌+◌, ◌*◌, ◌^◌, ◌<◌, suc-le-suc}
use Rattle.std.proofs.Common.{not-suc-le-zero, zero-lt-suc, zero-add, add-zero, ◌∙◌, ltb-true, pow_pos}
use native.Mathlib.Omega.{arith}
use Rattle.std.specs.Prelude.{◌≡◌, Bool, true, false, ◌&&◌, ◌||◌, ltb, length, get_or}
use Rattle.std.proofs.Math.Path.{refl, sym, ap, subst}
use Rattle.std.proofs.Math.Bool.{cond}
use mathlib.Core.List.{List, [], ◌∷◌, ◌++◌}
use Rattle.rows.specs.Rows.{put, each}
use Rattle.rows.specs.Slots.{Listed, Distinct, AllBelow, SameMembers}
use Rattle.rules.specs.Update.{is_recycled, Updated}
use Rattle.words.specs.Words.{float_word}
use Rattle.collider.specs.Recorded.{settings_of}
use Rattle.data_structures.specs.BitVec.{blocks_of, marked, joined, set_bits}
use Rattle.data_structures.specs.BitVecLaws.{blocks_hold}
use Rattle.manifold_records.specs.ListLaws.{get_d_map_upto, length_map_upto, length_zeros}
use Rattle.manifold_records.specs.Written.{zeros}
use Rattle.contact_graph.specs.LaidOutLaws.{zeros_at}
use Rattle.contact_range.specs.Range.{stands}
use Rattle.contact_range.specs.RangeLaws.{standing_below}
use Rattle.contact_range.specs.Recorded.{capacity_of}
use Rattle.contact_update.specs.After.{graph_after}
use Rattle.contact_update.specs.OrderLaws.{graph_after_all, any_order, others_unaffected}
use Rattle.contact_update.specs.UpdateFitLaws.{settings_fit_read}
use Rattle.status_pass.specs.Pass.{begun, pass_words}
use Rattle.status_pass.specs.EventsAndChanges.{event_words, change_words}
use Rattle.shares.specs.Shares.{workers_of, count_of, start_of, total_of, entry_at}
use Rattle.step.specs.AcceptedLaws.{Accepted, all_ready}
use Rattle.step.specs.Step as step
use Rattle.step.specs.Step.{Given, Rows, made_of, updated_graph, pass_of, rows_of, answer_of}
use Rattle.step.proofs.StepLaws.{code_order}
use Rattle.update_pass.specs.BitsLaws.{entries_active, active_distinct, active_under, active_stands, stands_active, bit_zeros, bit_after, part_bits, length_part_bits}
use Rattle.update_pass.specs.ListsLaws.{length_bits_after, listed_in, listed_in_lem, in_listed, share_room, distances_any, recycled_any}
use Rattle.update_pass.specs.Shared.{active_of, entries_of, first_of, share_of, bits_after, distances_after, recycled_of, worker_bits, parts_of, joined_of, distances_of}
use Rattle.update_pass.specs.UpdatedAllLaws.{AllReady, AllStand, after_ready, after_stands}
use Rattle.contact_runs.specs.Ordered.{Stage, stage_at, update_one, update_each, parts_row, parts_joined, pass_after, rows_after, answer_after}
use Rattle.data_structures.specs.SameBitsLaws.{marked_below, same_bits}

-- ---- the updates one after another, each on the graph that those before it left
-- what the rules make of a contact, its bit set only where worker w has the contact
abbrev owned_by : List ℕ → (ℕ → Updated) → ℕ → ℕ → Updated
owned_by shares u w id = record { pair = (u id).pair; way = (u id).way; bit = listed_in (share_of shares w) id && (u id).bit; max_contact_distance = (u id).max_contact_distance }

module _ (x : Given) (u : ℕ → Updated) where
  -- what they leave, where the rules make u of each contact
  abbrev left_by : Stage → List ℕ → Stage
  left_by s ids =
      record {
        graph = graph_after_all (settings_of x.settings) x.colliders x.bodies x.proposals s.graph ids;
        part = λ w. bits_after (owned_by x.shares u w) (s.part w) ids;
        distances = distances_after u s.distances ids;
        recycled = s.recycled + recycled_of u ids;
      }

  -- contacts that are yet to be updated: they stand, once each, and the rules make u of them
  record Awaited (g ids : List ℕ) : Type 0 where
    ready : AllReady x.colliders x.bodies x.proposals g
    standing : AllStand g ids
    apart : Distinct ids
    same : (k : ℕ) → k < length ids → made_of x g (get_or ids k 0) ≡ u (get_or ids k 0)

  module _ (g : List ℕ) (id : ℕ) (ids : List ℕ) (w : Awaited g (id ∷ ids)) where
    first_same : made_of x g id ≡ u id
    first_same = w.same zero (zero-lt-suc (length ids))

    -- the update of the first leaves the others as they were
    rest_awaited : Awaited (graph_after (settings_of x.settings) x.colliders x.bodies x.proposals g id) ids
    unfolding graph_after_all
    rest_awaited =
        let s = settings_of x.settings in
        let fit = settings_fit_read x.settings in
        let one : AllStand g (id ∷ []) = λ k l. subst (λ (j : ℕ). stands g (get_or (id ∷ []) j 0) ≡ true) (let z : 0 ≡ k = omega arith in z) (w.standing zero (zero-lt-suc (length ids))) in
        record {
          ready = after_ready s x.colliders x.bodies x.proposals g fit w.ready (id ∷ []) one;
          standing = λ k l. after_stands s x.colliders x.bodies x.proposals g fit w.ready (id ∷ []) one (get_or ids k 0) ∙ w.standing (suc k) (suc-le-suc l);
          apart = λ j k l b. w.apart (suc j) (suc k) (suc-le-suc l) (suc-le-suc b);
          same =
              λ k l. others_unaffected s x.colliders x.bodies x.proposals g id (get_or ids k 0) (λ q. w.apart zero (suc k) (zero-lt-suc k) (suc-le-suc l) (sym q))
              (w.ready.each id (w.standing zero (zero-lt-suc (length ids)))) (w.ready.each (get_or ids k 0) (w.standing (suc k) (suc-le-suc l))) fit
              ∙ w.same (suc k) (suc-le-suc l);
        }

  each_left : (s : Stage) (ids : List ℕ) → Awaited s.graph ids → update_each x s ids ≡ left_by s ids
  unfolding update_each update_one graph_after_all bits_after distances_after recycled_of
  each_left s [] w = λ i. record { graph = s.graph; part = s.part; distances = s.distances; recycled = sym (add-zero s.recycled) i }
  each_left s (id ∷ ids) w =
      let e = first_same s.graph id ids w in
      let weight : Updated → ℕ = λ v. cond (is_recycled v.way) 1 0 in
      let sum : s.recycled + weight (u id) + recycled_of u ids ≡ s.recycled + (weight (u id) + recycled_of u ids) = omega arith in
      let counted : s.recycled + weight (made_of x s.graph id) + recycled_of u ids ≡ s.recycled + (weight (u id) + recycled_of u ids) =
      ap (λ (v : Updated). s.recycled + weight v + recycled_of u ids) e ∙ sum in
      each_left (update_one x s id) ids (rest_awaited s.graph id ids w)
      ∙ (λ i. record {
        graph = graph_after_all (settings_of x.settings) x.colliders x.bodies x.proposals s.graph (id ∷ ids);
        part = λ w. bits_after (owned_by x.shares u w) (cond (listed_in (share_of x.shares w) id && (e i).bit) (marked (s.part w) id) (s.part w)) ids;
        distances = distances_after u (put s.distances id (float_word (e i).max_contact_distance ∷ [])) ids;
        recycled = counted i;
      })

-- ---- a worker's part of the bit words
-- words stay words of 64 bits
below_zeros : (n : ℕ) → AllBelow (2 ^ 64) (zeros n)
below_zeros n k l = subst (λ (w : ℕ). w < 2 ^ 64) (sym (zeros_at n k)) (pow_pos 64)

below_one : (xs : List ℕ) (id : ℕ) (b : Bool) → AllBelow (2 ^ 64) xs → AllBelow (2 ^ 64) (cond b (marked xs id) xs)
below_one xs id true a = marked_below xs id a
below_one xs id false a = a

below_bits : (u : ℕ → Updated) (xs ids : List ℕ) → AllBelow (2 ^ 64) xs → AllBelow (2 ^ 64) (bits_after u xs ids)
unfolding bits_after
below_bits u xs [] a = a
below_bits u xs (id ∷ ids) a = below_bits u (cond (u id).bit (marked xs id) xs) ids (below_one xs id (u id).bit a)

below_worker : (u : ℕ → Updated) (blocks : ℕ) (xs : List ℕ) (w : ℕ) → AllBelow (2 ^ 64) (worker_bits u blocks xs w)
unfolding worker_bits
below_worker u blocks xs w = below_bits u (zeros blocks) (share_of xs w) (below_zeros blocks)

module _ {x : Given} {g : List ℕ} {l : Rows} (a : Accepted x g l) (ids : List ℕ) (d : Distinct ids) (m : SameMembers ids (active_of g)) where
  abbrev blocks : ℕ
  blocks = blocks_of (capacity_of g)

  abbrev made : ℕ → Updated
  made = made_of x g

  listed_stands : (id : ℕ) → Listed ids id → stands g id ≡ true
  listed_stands id h = active_stands g id (m.0 id h)

  stands_listed : (id : ℕ) → stands g id ≡ true → Listed ids id
  stands_listed id e = m.1 id (stands_active g id e)

  below : AllBelow (capacity_of g) ids
  below k b = standing_below a.checked.range (get_or ids k 0) (listed_stands (get_or ids k 0) (k, b, refl))

  -- a worker's contacts stand, and so are in the order
  share_stands : (w j : ℕ) → Listed (share_of x.shares w) j → stands g j ≡ true
  unfolding share_of entries_of
  share_stands w j h = go (ltb w (workers_of x.shares)) refl h
    where
      xs : List ℕ
      xs = x.shares

      go : (t : Bool) → ltb w (workers_of x.shares) ≡ t → Listed (cond t (first_of x.shares w (count_of x.shares w)) []) j → stands g j ≡ true
      go true e (k, b, q) =
          let entry : ℕ → ℕ = λ i. entry_at xs (start_of xs w + i) in
          let short : k < count_of xs w = omega (arith, length_map_upto entry (count_of xs w)) in
          let room = share_room xs w (ltb-true w (workers_of xs) e) in
          let within : start_of xs w + k < total_of xs = omega arith in
          (entries_active xs g a.checked a.shares).standing j (
            start_of xs w + k,
            (let z : start_of xs w + k < length (entries_of xs) = omega (arith, length_map_upto (entry_at xs) (total_of xs)) in z),
            get_d_map_upto (entry_at xs) (total_of xs) (start_of xs w + k) 0 within ∙ sym (get_d_map_upto entry (count_of xs w) k 0 short) ∙ q,
          )
      go false e (k, b, q) = absurd (not-suc-le-zero b)

  share_under : (w : ℕ) → AllBelow (64 * blocks) (share_of x.shares w)
  share_under w k b =
      let id = get_or (share_of x.shares w) k 0 in
      omega (arith, standing_below a.checked.range id (share_stands w id (k, b, refl)), (blocks_hold (capacity_of g)).0)

  owned_listed : (w j : ℕ) → (listed_in ids j && (listed_in (share_of x.shares w) j && (made j).bit)) ≡ (listed_in (share_of x.shares w) j && (made j).bit)
  owned_listed w j = go (listed_in (share_of x.shares w) j) refl
    where
      none : (t : Bool) → (t && false) ≡ false
      none true = refl
      none false = refl

      go : (t : Bool) → listed_in (share_of x.shares w) j ≡ t → (listed_in ids j && (t && (made j).bit)) ≡ (t && (made j).bit)
      go true e = ap (λ (t : Bool). t && (made j).bit) (in_listed ids j (stands_listed j (share_stands w j (listed_in_lem (share_of x.shares w) j e))))
      go false e = none (listed_in ids j)

  part_is : (w : ℕ) → bits_after (owned_by x.shares made w) (zeros blocks) ids ≡ worker_bits made blocks x.shares w
  part_is w =
      let own = owned_by x.shares made w in
      let size : length (bits_after own (zeros blocks) ids) ≡ blocks = length_bits_after own (zeros blocks) ids ∙ length_zeros blocks in
      let under : AllBelow (64 * length (zeros blocks)) ids = λ k b. omega (arith, below k b, length_zeros blocks, (blocks_hold (capacity_of g)).0) in
      same_bits (bits_after own (zeros blocks) ids) (worker_bits made blocks x.shares w) (size ∙ sym (length_part_bits made blocks x.shares w))
      (below_bits own (zeros blocks) ids (below_zeros blocks)) (below_worker made blocks x.shares w)
      (λ j b. bit_after own (zeros blocks) ids j under ∙ ap (λ (t : Bool). t || (listed_in ids j && (own j).bit)) (bit_zeros blocks j)
      ∙ owned_listed w j ∙ sym (part_bits made blocks x.shares w j (share_under w)))

  -- ---- all together
  parts_row_lem : (n : ℕ) → parts_row (worker_bits made blocks x.shares) n ≡ parts_of made blocks x.shares n
  unfolding parts_row parts_of
  parts_row_lem zero = refl
  parts_row_lem (suc n) = ap (λ (r : List ℕ). r ++ worker_bits made blocks x.shares n) (parts_row_lem n)

  parts_joined_lem : (n : ℕ) → parts_joined blocks (worker_bits made blocks x.shares) n ≡ joined_of made blocks x.shares n
  unfolding parts_joined joined_of
  parts_joined_lem zero = refl
  parts_joined_lem (suc n) = ap (λ (r : List ℕ). joined r (worker_bits made blocks x.shares n)) (parts_joined_lem n)

  -- what the updates leave in any order is what they leave in the list's
  abbrev left : Stage
  left = record { graph = updated_graph x g; part = worker_bits made blocks x.shares; distances = distances_of made g; recycled = recycled_of made (active_of g) }

  stage_is : update_each x (stage_at g) ids ≡ left
  stage_is =
      let c = a.checked in
      let n = capacity_of g in
      let p = each_left x made (stage_at g) ids (record { ready = all_ready a; standing = λ k h. listed_stands (get_or ids k 0) (k, h, refl); apart = d; same = λ k h. refl }) in
      let graphs = any_order (settings_of x.settings) x.colliders x.bodies x.proposals g ids (active_of g) c.right below (active_under g c) d (active_distinct g c) m in
      let distances = distances_any made g (zeros n) ids (length_zeros n) (zeros_at n) below d listed_stands stands_listed in
      let recycled : 0 + recycled_of made ids ≡ recycled_of made (active_of g) = zero-add (recycled_of made ids) ∙ recycled_any made n ids (active_of g) below (active_under g c) d (active_distinct g c) m in
      p ∙ (λ i. record { graph = graphs i; part = λ w. part_is w i; distances = distances i; recycled = recycled i })

  left_pass : pass_after g left ≡ pass_of x g
  unfolding pass_after pass_of
  left_pass = ap (λ (ids : List ℕ). pass_words (begun (updated_graph x g)) ids) (ap set_bits (parts_joined_lem 8) ∙ (code_order a).bits)

  pub pass_in_order : pass_after g (update_each x (stage_at g) ids) ≡ pass_of x g
  pass_in_order = ap (pass_after g) stage_is ∙ left_pass

  left_rows : rows_after g left l ≡ rows_of x g l
  unfolding rows_after rows_of
  left_rows =
      λ i. record {
        bits = parts_row_lem 8 i;
        events = put l.events 0 (each event_words (left_pass i).events);
        changes = put l.changes 0 (each change_words (left_pass i).changes);
        distances = distances_of made g;
      }

  pub rows_in_order : rows_after g (update_each x (stage_at g) ids) l ≡ rows_of x g l
  rows_in_order = ap (λ (s : Stage). rows_after g s l) stage_is ∙ left_rows

  left_answer : answer_after g left ≡ answer_of x g
  unfolding answer_after answer_of
  left_answer = λ i. step.stepped (length (left_pass i).events) (length (left_pass i).changes) (recycled_of made (active_of g))

  pub answer_in_order : answer_after g (update_each x (stage_at g) ids) ≡ answer_of x g
  answer_in_order = ap (answer_after g) stage_is ∙ left_answer
