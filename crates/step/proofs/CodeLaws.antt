-- The step as the code makes it: what each part asks is there, and what they leave together is the step's. Assumes nothing.
use Rattle.std.specs.Prelude.{ℕ, ◌*◌, ◌≤◌, ◌<◌, ◌≡◌, refl, true, ◌&&◌, ltb, leb, take}
use Rattle.std.proofs.Math.Nat.{zero-add}
use native.Mathlib.Omega.{arith}
use Rattle.std.proofs.Math.Path.{sym, subst}
use Rattle.std.proofs.Common.{ap, ◌∙◌, leb-true}
use mathlib.Core.List.{List}
use Rattle.std.proofs.Math.ListN.{length, get_or}
use Rattle.rules.specs.Inputs.{Settings}
use Rattle.data_structures.specs.BitVec.{blocks_of, set_bits, Visited}
use Rattle.data_structures.specs.BitVecLaws.{blocks_hold, set_length, visited_length, visited_take}
use Rattle.collider.specs.Recorded.{settings_of}
use Rattle.manifold_records.specs.ListLaws.{get_d_map_upto, length_map_upto, length_zeros}
use Rattle.manifold_records.specs.Written.{zeros}
use Rattle.contact_graph.specs.LaidOutLaws.{zeros_at}
use Rattle.contact_range.specs.RangeLaws.{first_of_lem, rest_of}
use Rattle.contact_range.specs.Recorded.{capacity_of}
use Rattle.contact_update.specs.UpdateFitLaws.{FitSettings, settings_fit_read}
use Rattle.shares.specs.Shares.{workers_of, total_of, entry_at, counts_fit, entries_stand, active_once, shares_fit}
use Rattle.status_pass.specs.Pass.{begun, pass_words, RowsReady, PassDone, Left}
use Rattle.status_pass.specs.PassLaws.{pass_events, pass_changes}
use Rattle.status_pass.specs.declared.visit.WrittenCounts.{WrittenCounts}
use Rattle.update_pass.specs.AllLaws.{length_parts}
use Rattle.update_pass.specs.BitsLaws.{workers_most, entries_active}
use Rattle.update_pass.specs.JoinLaws.{join_parts, joined_length}
use Rattle.update_pass.specs.Share.{AllListed, SharesReady, AllTaken, joined_parts}
use Rattle.update_pass.specs.Shared.{active_of, entries_of, parts_of, recycled_of, distances_of, standing_ids}
use Rattle.step.specs.AcceptedLaws.{Accepted, all_ready}
use Rattle.step.specs.Step.{Given, Rows, made_of, updated_graph, pass_of, rows_of, stepped, answer_of, StepDone}
use Rattle.step.proofs.StepLaws.{code_order, rows_ready}

-- the counts together are at most the capacity
total_most : (xs g : List ℕ) → shares_fit xs g ≡ true → total_of xs ≤ capacity_of g
unfolding shares_fit counts_fit
total_most xs g e =
    leb-true (total_of xs) (capacity_of g)
    (rest_of (ltb 0 (workers_of xs) && leb (workers_of xs) 8) (leb (total_of xs) (capacity_of g)) (first_of_lem (counts_fit xs g) (entries_stand xs g && active_once xs g) e))

module _ {x : Given} {g : List ℕ} {l : Rows} (a : Accepted x g l) where
  -- what the code's loops run through
  pub all_listed : {s : Settings} → s ≡ settings_of x.settings → AllListed s x.colliders x.bodies x.proposals x.shares g
  unfolding entries_of
  all_listed e =
      let xs = x.shares in
      let n = total_of xs in
      let f = entries_active xs g a.checked a.shares in
      let at : (j : ℕ) → j < n → get_or (entries_of xs) j 0 ≡ entry_at xs j = λ j b. get_d_map_upto (entry_at xs) n j 0 b in
      let size : length (entries_of xs) ≡ n = length_map_upto (entry_at xs) n in
      record {
        fit = subst FitSettings (sym e) (settings_fit_read x.settings);
        ready = all_ready a;
        size = a.share_words;
        workers = workers_most xs g a.checked a.shares;
        total = total_most xs g a.shares;
        standing = λ j b. f.standing (entry_at xs j) (j, (let z : j < length (entries_of xs) = omega arith in z), at j b);
        once = λ j k h b q. f.entries_apart j k h (let z : k < length (entries_of xs) = omega arith in z) (at j (omega arith) ∙ q ∙ sym (at k b));
      }

  pub shares_ready : {s : Settings} → s ≡ settings_of x.settings → SharesReady s x.colliders x.bodies x.proposals x.shares g l.bits l.distances
  shares_ready e = record { listed = all_listed e; bit_words = a.bit_words; distance_words = a.distance_words }

  -- ---- what the updates leave
  pub record Updates (g' bits' ds' : List ℕ) (r : ℕ) : Type 0 where
    pub graph : g' ≡ updated_graph x g
    pub bit : bits' ≡ parts_of (made_of x g) (blocks_of (capacity_of g)) x.shares 8
    pub distance : ds' ≡ distances_of (made_of x g) g
    pub recycled : r ≡ recycled_of (made_of x g) (active_of g)

  pub updates_left : {s : Settings} {g' bits' ds' : List ℕ} {r : ℕ} → s ≡ settings_of x.settings
      → AllTaken s x.colliders x.bodies x.proposals x.shares g g' bits' ds' r → Updates g' bits' ds' r
  updates_left {s} {g'} {bits'} {ds'} {r} e t =
      let v = subst (λ (z : Settings). AllTaken z x.colliders x.bodies x.proposals x.shares g g' bits' ds' r) e t in
      let o = code_order a in
      record {
        graph = v.graph ∙ o.graph;
        bit = v.bit;
        distance = v.distance ∙ o.distances (zeros (capacity_of g)) (length_zeros (capacity_of g)) (zeros_at (capacity_of g));
        recycled = v.recycled ∙ o.recycled;
      }

  module _ {g' bits' ds' : List ℕ} {r : ℕ} (u : Updates g' bits' ds' r) {count : ℕ} (c : count ≡ blocks_of (capacity_of g)) where
    pub count_few : count ≤ 4
    count_few = let h = (blocks_hold (capacity_of g)).1 in let m = a.checked.right.most in omega arith

    pub bits_size : length bits' ≡ 8 * count
    bits_size = ap (λ (w : List ℕ). length w) u.bit ∙ length_parts (made_of x g) (blocks_of (capacity_of g)) x.shares 8 ∙ ap (λ (k : ℕ). 8 * k) (sym c)

    -- ---- the standing contacts
    module _ {ids ids' : List ℕ} {n : ℕ} (long : length ids ≡ 256) (v : Visited (joined_parts count bits' 8) ids ids' n) where
      pub standing_is : take n ids' ≡ standing_ids (made_of x g) g
      standing_is =
          visited_take v (let k = joined_length count bits' bits_size refl in let f = count_few in omega arith)
          ∙ ap set_bits ((λ i. joined_parts (c i) (u.bit i) 8) ∙ join_parts (made_of x g) (blocks_of (capacity_of g)) x.shares 8 8 (omega arith)) ∙ (code_order a).bits

      pub ids_room : n ≤ length ids'
      ids_room =
          let k = joined_length count bits' bits_size refl in
          let f = count_few in
          let m = set_length (joined_parts count bits' 8) in
          omega (arith, visited_length v, v.count)

      pub rows_there : RowsReady g' l.events l.changes (take n ids')
      rows_there =
          subst (λ (w : List ℕ). RowsReady w l.events l.changes (take n ids')) (sym u.graph)
          (subst (λ (w : List ℕ). RowsReady (updated_graph x g) l.events l.changes w) (sym standing_is) (rows_ready a))

      -- ---- and what the status pass leaves
      module _ {g'' es' cs' : List ℕ} {counts : WrittenCounts} (d : PassDone g' l.events l.changes (take n ids') g'' es' cs' counts) where
        passed : Left (pass_of x g) l.events l.changes g'' es' cs' counts
        unfolding pass_of
        passed =
            subst (λ (w : List ℕ). Left (pass_words (begun (updated_graph x g)) w) l.events l.changes g'' es' cs' counts) standing_is
            (subst (λ (w : List ℕ). Left (pass_words (begun w) (take n ids')) l.events l.changes g'' es' cs' counts) u.graph d)

        pub step_done : StepDone x g l g'' (record { bits = bits'; events = es'; changes = cs'; distances = ds' }) (record { events = counts.events; changes = counts.changes; recycled = r })
        unfolding rows_of answer_of
        step_done =
            let p = passed in
            record {
              answer = λ i. stepped ((p.events.count ∙ zero-add (length (pass_of x g).events)) i) ((p.changes.count ∙ zero-add (length (pass_of x g).changes)) i) (u.recycled i);
              graph = p.graph;
              rows = λ i. record { bits = u.bit i; events = p.events.stored i; changes = p.changes.stored i; distances = u.distance i };
            }

        -- few enough for a word
        pub counts_few : (counts.events ≤ 256) × (counts.changes ≤ 256)
        unfolding pass_of
        counts_few =
            let p = passed in
            let ids = standing_ids (made_of x g) g in
            let e = p.events.count in
            let f = p.changes.count in
            let h = pass_events (begun (updated_graph x g)) ids in
            let k = pass_changes (begun (updated_graph x g)) ids in
            let room = (rows_ready a).event_room in
            let words = a.event_words in
            let m = a.checked.right.most in
            (omega arith, omega arith)
