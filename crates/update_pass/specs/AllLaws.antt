-- All workers in turn: after w of them the graph, the distances and the count are those of their contacts, and the bit words are their parts, with zeros after them. Assumes nothing.
use Prim.Native.Nat.{ℕ, zero, suc, ◌+◌, ◌-◌, ◌*◌, ◌≤◌, ◌<◌, suc-le-suc}
use Rattle.std.proofs.Common.{zero-lt-suc, suc-mul, zero-mul, zero-add, add-zero, add-suc, suc-add, mul-le-mul_right, add-one, ◌∙◌, lt-ltb, length-take-le}
use native.Mathlib.Omega.{arith}
use Rattle.std.specs.Prelude.{◌≡◌, Bool, get_or}
use Rattle.std.proofs.Math.Path.{refl, sym, ap, subst}
use Rattle.std.proofs.Math.Bool.{cond}
use mathlib.Core.List.{List, [], ◌∷◌, ◌++◌, map, append-nil, append_assoc}
use Rattle.std.proofs.Math.ListN.{length, take, drop, length-append}
use Rattle.std.proofs.Math.Seq.{take-append_seam, drop-append_seam}
use Rattle.rows.specs.Rows.{put}
use Rattle.rows.specs.Slots.{upto}
use Rattle.rows.specs.Laws.{put_lent, put_whole}
use Rattle.rules.specs.Inputs.{Settings}
use Rattle.rules.specs.Update.{is_recycled, Updated}
use Rattle.words.specs.Words.{float_word}
use Rattle.data_structures.specs.BitVec.{blocks_of, cleared, marked}
use Rattle.data_structures.specs.BitVecLaws.{blocks_hold}
use Rattle.manifold_records.specs.ListLaws.{get_d_map_upto, length_map_upto, length_zeros}
use Rattle.manifold_records.specs.Written.{zeros}
use Rattle.contact_range.specs.Range.{stands}
use Rattle.contact_range.specs.Recorded.{capacity_of}
use Rattle.contact_update.specs.After.{graph_after}
use Rattle.contact_update.specs.OrderLaws.{graph_after_all}
use Rattle.layout.specs.Shares.{shares_length}
use Rattle.shares.specs.Shares.{workers_of, count_of, start_of, total_of, entry_at}
use Rattle.update_pass.specs.BitsLaws.{length_part_bits, past_share}
use Rattle.update_pass.specs.ListsLaws.{start_within, entries_split, distances_append, recycled_append, recycled_most, length_distances_after}
use Rattle.update_pass.specs.Share.{AllListed, ShareReady, made, ShareTaken, AllTaken}
use Rattle.update_pass.specs.Shared.{entries_of, first_of, share_of, bits_after, distances_after, recycled_of, worker_bits, parts_of}
use Rattle.update_pass.specs.ShareLaws.{within}
use Rattle.update_pass.specs.UpdatedAllLaws.{AllStand, after_ready, after_stands, after_all_capacity, unaffected}

-- ---- what is made of a list's contacts decides what is left
module _ (u v : ℕ → Updated) where
  abbrev Agree : List ℕ → Type 0
  Agree ids = (k : ℕ) → k < length ids → u (get_or ids k 0) ≡ v (get_or ids k 0)

  later : (id : ℕ) (ids : List ℕ) → Agree (id ∷ ids) → Agree ids
  later id ids e k l = e (suc k) (suc-le-suc l)

  bits_agree : (bits ids : List ℕ) → Agree ids → bits_after u bits ids ≡ bits_after v bits ids
  unfolding bits_after
  bits_agree bits [] e = refl
  bits_agree bits (id ∷ ids) e =
      bits_agree (cond (u id).bit (marked bits id) bits) ids (later id ids e)
      ∙ ap (λ (x : Updated). bits_after v (cond x.bit (marked bits id) bits) ids) (e zero (zero-lt-suc (length ids)))

  distances_agree : (ds ids : List ℕ) → Agree ids → distances_after u ds ids ≡ distances_after v ds ids
  unfolding distances_after
  distances_agree ds [] e = refl
  distances_agree ds (id ∷ ids) e =
      distances_agree (put ds id (float_word (u id).max_contact_distance ∷ [])) ids (later id ids e)
      ∙ ap (λ (x : Updated). distances_after v (put ds id (float_word x.max_contact_distance ∷ [])) ids) (e zero (zero-lt-suc (length ids)))

  recycled_agree : (ids : List ℕ) → Agree ids → recycled_of u ids ≡ recycled_of v ids
  unfolding recycled_of
  recycled_agree [] e = refl
  recycled_agree (id ∷ ids) e = λ i. cond (is_recycled (e zero (zero-lt-suc (length ids)) i).way) 1 0 + recycled_agree ids (later id ids e) i

-- ---- zeros, and the parts of the workers that are not given
zeros_append : (n m : ℕ) → zeros (n + m) ≡ zeros n ++ zeros m
unfolding zeros
zeros_append zero m = ap zeros (zero-add m)
zeros_append (suc n) m = ap zeros (suc-add n m) ∙ ap (λ (r : List ℕ). 0 ∷ r) (zeros_append n m)

pub cleared_zeros : (xs : List ℕ) → cleared xs ≡ zeros (length xs)
unfolding cleared zeros
cleared_zeros [] = refl
cleared_zeros (x ∷ xs) = ap (λ (r : List ℕ). 0 ∷ r) (cleared_zeros xs)

-- all the words, lent on and cleared
pub cleared_parts : (xs : List ℕ) {ys : List ℕ} (n : ℕ) → n ≡ length xs → ys ≡ cleared (take n (drop 0 xs)) → take 0 xs ++ (ys ++ drop n (drop 0 xs)) ≡ zeros n
cleared_parts xs {ys} n e p =
    let z : ys ≡ zeros n = p ∙ cleared_zeros (take n (drop 0 xs)) ∙ ap zeros (length-take-le n xs (omega arith)) in
    let l : length ys ≡ n = ap (λ (w : List ℕ). length w) z ∙ length_zeros n in
    put_lent xs 0 ys n l (omega arith) ∙ put_whole xs ys (l ∙ e) ∙ z

module _ (u : ℕ → Updated) (blocks : ℕ) (xs : List ℕ) where
  pub length_parts : (n : ℕ) → length (parts_of u blocks xs n) ≡ n * blocks
  unfolding parts_of
  length_parts zero = sym (zero-mul blocks)
  length_parts (suc n) = length-append (parts_of u blocks xs n) (worker_bits u blocks xs n) ∙ (λ i. length_parts n i + length_part_bits u blocks xs n i) ∙ sym (suc-mul n blocks)

  past_part : (w : ℕ) → workers_of xs ≤ w → worker_bits u blocks xs w ≡ zeros blocks
  unfolding worker_bits bits_after
  past_part w l = ap (bits_after u (zeros blocks)) (past_share u blocks xs w l)

  past_parts : (d : ℕ) → parts_of u blocks xs (workers_of xs + d) ≡ parts_of u blocks xs (workers_of xs) ++ zeros (d * blocks)
  unfolding parts_of zeros
  past_parts zero =
      ap (parts_of u blocks xs) (add-zero (workers_of xs)) ∙ sym (append-nil (parts_of u blocks xs (workers_of xs)))
      ∙ ap (λ (n : ℕ). parts_of u blocks xs (workers_of xs) ++ zeros n) (sym (zero-mul blocks))
  past_parts (suc d) =
      ap (parts_of u blocks xs) (add-suc (workers_of xs) d) ∙ (λ i. past_parts d i ++ past_part (workers_of xs + d) (let z : workers_of xs ≤ workers_of xs + d = omega arith in z) i)
      ∙ append_assoc (parts_of u blocks xs (workers_of xs)) (zeros (d * blocks)) (zeros blocks)
      ∙ ap (λ (r : List ℕ). parts_of u blocks xs (workers_of xs) ++ r) (sym (zeros_append (d * blocks) blocks) ∙ ap zeros (sym (suc-mul d blocks)))

-- ---- after w workers
module _ (s : Settings) (colliders bodies proposals shares : List ℕ) where
  -- the contacts of the first w workers
  abbrev pub before : ℕ → List ℕ
  before w = map (entry_at shares) (upto (start_of shares w))

  pub record SoFar (w : ℕ) (g g' bits' ds' : List ℕ) (r : ℕ) : Type 0 where
    pub graph : g' ≡ graph_after_all s colliders bodies proposals g (before w)
    pub bit : bits' ≡ parts_of (made s colliders bodies proposals shares g) (blocks_of (capacity_of g)) shares w ++ zeros ((8 - w) * blocks_of (capacity_of g))
    pub distance : ds' ≡ distances_after (made s colliders bodies proposals shares g) (zeros (capacity_of g)) (before w)
    pub recycled : r ≡ recycled_of (made s colliders bodies proposals shares g) (before w)

  module _ {g : List ℕ} (a : AllListed s colliders bodies proposals shares g) where
    abbrev u : ℕ → Updated
    u = made s colliders bodies proposals shares g

    abbrev blocks : ℕ
    blocks = blocks_of (capacity_of g)

    pub so_far_none : {bits ds : List ℕ} → bits ≡ zeros (8 * blocks) → ds ≡ zeros (capacity_of g) → SoFar 0 g g bits ds 0
    unfolding start_of upto graph_after_all parts_of distances_after recycled_of
    so_far_none e f = record { graph = refl; bit = e; distance = f; recycled = refl }

    module _ (w : ℕ) (l : w < workers_of shares) where
      abbrev there : List ℕ
      there = graph_after_all s colliders bodies proposals g (before w)

      abbrev share : List ℕ
      share = first_of shares w (count_of shares w)

      reach : start_of shares w ≤ total_of shares
      reach = start_within shares w (let z : w ≤ workers_of shares = omega arith in z)

      stood : AllStand g (before w)
      stood j b =
          let c : j < start_of shares w = omega (arith, length_map_upto (entry_at shares) (start_of shares w)) in
          ap (stands g) (get_d_map_upto (entry_at shares) (start_of shares w) j 0 c) ∙ a.standing j (let r = reach in omega arith)

      capacity_there : capacity_of there ≡ capacity_of g
      capacity_there = after_all_capacity s colliders bodies proposals g a.fit a.ready (before w) stood

      stands_there : (j : ℕ) → stands there j ≡ stands g j
      stands_there j = after_stands s colliders bodies proposals g a.fit a.ready (before w) stood j

      pub listed_there : AllListed s colliders bodies proposals shares there
      listed_there =
          record {
            fit = a.fit;
            ready = after_ready s colliders bodies proposals g a.fit a.ready (before w) stood;
            size = a.size ∙ ap shares_length (sym capacity_there);
            workers = a.workers;
            total = let c = capacity_there in let t = a.total in omega arith;
            standing = λ j b. stands_there (entry_at shares j) ∙ a.standing j b;
            once = a.once;
          }

      -- an update of an earlier worker changes nothing of what the rules make of this one's contacts
      agree : (k : ℕ) → k < length share → made s colliders bodies proposals shares there (get_or share k 0) ≡ u (get_or share k 0)
      agree k b =
          let f : ℕ → ℕ = λ (j : ℕ). entry_at shares (start_of shares w + j) in
          let c : k < count_of shares w = omega (arith, length_map_upto f (count_of shares w)) in
          let e = get_d_map_upto f (count_of shares w) k 0 c in
          let t = within s colliders bodies proposals shares a w l k c in
          subst (λ (i : ℕ). made s colliders bodies proposals shares there i ≡ u i) (sym e)
          (unaffected s colliders bodies proposals g a.fit a.ready (before w) stood (f k) (a.standing (start_of shares w + k) t) (λ j d q.
          let h : j < start_of shares w = omega (arith, length_map_upto (entry_at shares) (start_of shares w)) in
          a.once j (start_of shares w + k) (omega arith) t (sym (get_d_map_upto (entry_at shares) (start_of shares w) j 0 h) ∙ q)))

      all_append : (xs : List ℕ) (h : List ℕ) (ys : List ℕ) → graph_after_all s colliders bodies proposals h (xs ++ ys) ≡ graph_after_all s colliders bodies proposals (graph_after_all s colliders bodies proposals h xs) ys
      unfolding graph_after_all
      all_append [] h ys = refl
      all_append (x ∷ xs) h ys = all_append xs (graph_after s colliders bodies proposals h x) ys

      module _ {h hb hd : List ℕ} {r : ℕ} (t : SoFar w g h hb hd r) {from n : ℕ} (p : from ≡ w * blocks) (q : n ≡ blocks) where
        worker_below : w < 8
        worker_below = let m = a.workers in omega arith

        rest : zeros ((8 - w) * blocks) ≡ zeros blocks ++ zeros ((8 - suc w) * blocks)
        rest =
            let z = worker_below in
            ap zeros (ap (λ (k : ℕ). k * blocks) (let e : 8 - w ≡ suc (8 - suc w) = omega arith in e) ∙ suc-mul (8 - suc w) blocks ∙ (let e : (8 - suc w) * blocks + blocks ≡ blocks + (8 - suc w) * blocks = omega arith in e))
            ∙ zeros_append blocks ((8 - suc w) * blocks)

        from_length : from ≡ length (parts_of u blocks shares w)
        from_length = p ∙ sym (length_parts u blocks shares w)

        dropped : drop from hb ≡ zeros blocks ++ zeros ((8 - suc w) * blocks)
        dropped = (λ i. drop (from_length i) (t.bit i)) ∙ drop-append_seam (parts_of u blocks shares w) (zeros ((8 - w) * blocks)) ∙ rest

        n_length : n ≡ length (zeros blocks)
        n_length = q ∙ sym (length_zeros blocks)

        own_zeros : take n (drop from hb) ≡ zeros blocks
        own_zeros = (λ i. take (n_length i) (dropped i)) ∙ take-append_seam (zeros blocks) (zeros ((8 - suc w) * blocks))

        pub own_ready : ShareReady s colliders bodies proposals shares w h (take n (drop from hb)) hd
        own_ready =
            let c : capacity_of h ≡ capacity_of g = ap capacity_of t.graph ∙ capacity_there in
            record {
              listed = subst (λ (x : List ℕ). AllListed s colliders bodies proposals shares x) (sym t.graph) listed_there;
              given = l;
              bit_words = ap (λ (x : List ℕ). length x) own_zeros ∙ length_zeros blocks ∙ ap blocks_of (sym c);
              distance_words =
                  ap (λ (x : List ℕ). length x) t.distance ∙ length_distances_after u (zeros (capacity_of g)) (before w) ∙ length_zeros (capacity_of g) ∙ sym c;
            }

        own_put : {own' : List ℕ} → own' ≡ bits_after u (zeros blocks) share
            → take from hb ++ (own' ++ drop n (drop from hb)) ≡ parts_of u blocks shares (w + 1) ++ zeros ((8 - (w + 1)) * blocks)
        unfolding parts_of worker_bits share_of
        own_put {own'} e =
            (λ i. ((λ j. take (from_length j) (t.bit j)) ∙ take-append_seam (parts_of u blocks shares w) (zeros ((8 - w) * blocks))) i
            ++ ((e ∙ ap (bits_after u (zeros blocks)) given_share) i ++ ((λ j. drop (n_length j) (dropped j)) ∙ drop-append_seam (zeros blocks) (zeros ((8 - suc w) * blocks))) i))
            ∙ sym (append_assoc (parts_of u blocks shares w) (bits_after u (zeros blocks) (share_of shares w)) (zeros ((8 - suc w) * blocks)))
            ∙ ap (λ (k : ℕ). parts_of u blocks shares k ++ zeros ((8 - k) * blocks)) (sym (add-one w))
          where
            given_share : share ≡ share_of shares w
            given_share = ap (λ (b : Bool). cond b share []) (sym (lt-ltb w (workers_of shares) l))

        pub so_far_next : {h' own' hd' : List ℕ} {m : ℕ} → ShareTaken s colliders bodies proposals shares w h (take n (drop from hb)) hd h' own' hd' m
            → SoFar (w + 1) g h' (take from hb ++ (own' ++ drop n (drop from hb))) hd' (r + m)
        unfolding parts_of
        so_far_next {h'} {own'} {hd'} {m} d =
            let more : before (w + 1) ≡ before w ++ share = ap before (add-one w) ∙ entries_split shares w in
            let mine : (k : ℕ) → k < length share → made s colliders bodies proposals shares h (get_or share k 0) ≡ u (get_or share k 0) =
            λ k b. ap (λ (x : List ℕ). made s colliders bodies proposals shares x (get_or share k 0)) t.graph ∙ agree k b in
            record {
              graph =
                  d.graph ∙ ap (λ (x : List ℕ). graph_after_all s colliders bodies proposals x share) t.graph ∙ sym (all_append (before w) g share)
                  ∙ ap (graph_after_all s colliders bodies proposals g) (sym more);
              bit = own_put (d.bit ∙ bits_agree (made s colliders bodies proposals shares h) u (take n (drop from hb)) share mine ∙ ap (λ (x : List ℕ). bits_after u x share) own_zeros);
              distance =
                  d.distance ∙ distances_agree (made s colliders bodies proposals shares h) u hd share mine ∙ ap (λ (x : List ℕ). distances_after u x share) t.distance
                  ∙ sym (distances_append u (zeros (capacity_of g)) (before w) share) ∙ ap (distances_after u (zeros (capacity_of g))) (sym more);
              recycled =
                  (λ i. t.recycled i + (d.recycled ∙ recycled_agree (made s colliders bodies proposals shares h) u share mine) i)
                  ∙ sym (recycled_append u (before w) share) ∙ ap (recycled_of u) (sym more);
            }

    pub so_far_all : (w : ℕ) {h hb hd : List ℕ} {r : ℕ} → w ≡ workers_of shares → SoFar w g h hb hd r → AllTaken s colliders bodies proposals shares g h hb hd r
    unfolding entries_of
    so_far_all w {h} {hb} {hd} {r} e t =
        let v = subst (λ (k : ℕ). SoFar k g h hb hd r) e t in
        let m = a.workers in
        let z : workers_of shares + (8 - workers_of shares) ≡ 8 = omega arith in
        record {
          graph = v.graph;
          bit = v.bit ∙ sym (past_parts u blocks shares (8 - workers_of shares)) ∙ ap (parts_of u blocks shares) z;
          distance = v.distance;
          recycled = v.recycled;
        }

    -- where a worker's own part stands
    pub record OwnPlaces (w : ℕ) : Type 0 where
      pub few : blocks ≤ 4
      pub room : w * blocks + blocks ≤ 8 * blocks

    pub own_places : (w : ℕ) → w < workers_of shares → OwnPlaces w
    own_places w l =
        let h = (blocks_hold (capacity_of g)).1 in
        let m = a.ready.checked.right.most in
        let n = a.workers in
        let z : suc w ≤ 8 = omega arith in
        let r : suc w * blocks ≤ 8 * blocks = mul-le-mul_right blocks z in
        record { few = omega arith; room = let e = suc-mul w blocks in omega arith }

    -- no more are recycled than there are contacts
    pub so_far_few : (w : ℕ) {h hb hd : List ℕ} {r : ℕ} → w ≤ workers_of shares → SoFar w g h hb hd r → r ≤ capacity_of g
    so_far_few w l t =
        let e = t.recycled in
        let n = length_map_upto (entry_at shares) (start_of shares w) in
        let m = start_within shares w l in
        let c = a.total in
        omega (arith, recycled_most u (before w))
