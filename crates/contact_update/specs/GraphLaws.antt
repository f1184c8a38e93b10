-- An update of one contact leaves a graph of the right length and in range, and does to the words what the rules do to the plain graph. Assumes nothing.
use Rattle.std.specs.Prelude.{ℕ, ◌+◌, ◌*◌, ◌≤◌, ◌<◌, ◌≡◌, ◌⊎◌, ◌≢◌, Bool, true, length}
use Rattle.std.proofs.Common.{add-zero, zero-add, arith, subst, ◌∙◌, eq-eqb, ne_eqb, lit≤}
use Rattle.std.proofs.Math.Path.{sym, ap}
use Rattle.std.proofs.Math.Logic.{inl, inr}
use Rattle.std.proofs.Math.Bool.{cond}
use mathlib.Core.List.{List, map}
use Rattle.std.proofs.Math.Dec.{eqb}
use Rattle.std.specs.Float.Ieee.{binary32, of_bits}
use Rattle.rows.specs.Rows.{part}
use Rattle.rows.specs.Laws.{length_part, get_d_part}
use Rattle.rows.specs.Slots.{upto, Keeps, update_at}
use Rattle.rows.specs.SlotLaws.{length_update_at, part_update_at_same, get_d_update_at_apart, update_at_comm}
use Rattle.rules.specs.Inputs.{Settings}
use Rattle.rules.specs.Numbers.{any}
use Rattle.rule_laws.specs.NumberLaws.{any_same}
use Rattle.rules.specs.Update.{Updated, updated_between, updated}
use Rattle.words.specs.Words.{word_at}
use Rattle.collider.specs.Recorded.{collider_at, body_at}
use Rattle.layout.specs.Contact.{contact_flags, contact_manifolds, contact_size}
use Rattle.layout.specs.Graph.{contact_place, graph_contacts}
use Rattle.layout.specs.Proposal.{proposal_count, proposal_manifolds, proposal_size, proposed_manifold_normal, proposed_manifold_points, proposed_manifold_size, proposed_point_anchor2, proposed_point_feature2, proposed_point_features, proposed_point_penetration, proposed_point_position, proposed_point_size, proposed_points_size}
use Rattle.proposals.specs.Range.{Proposed}
use Rattle.proposals.specs.Recorded.{proposed_point_at, proposed_points_at, proposed_manifold_at, proposal_at, hook_at}
use Rattle.manifold_records.specs.Counts.{Counted}
use Rattle.manifold_records.specs.ListLaws.{map_upto_same}
use Rattle.contact_records.specs.ApartLaws.{row_in, vec3_same, pair_same, pair_part}
use Rattle.contact_records.specs.Fit.{FitPair}
use Rattle.contact_records.specs.HeldLaws.{Same, same_in, word_same, first_same, part_same, same_back}
use Rattle.contact_records.specs.Recorded.{names_at, pair_at}
use Rattle.contact_range.specs.Recorded.{capacity_of, given_of, listed_count, free_count, listed_at, free_at, contact_at, graph_of}
use Rattle.contact_range.specs.Range.{stands, is_free, same_colliders, same_pair}
use Rattle.contact_range.specs.RangeLaws.{counts, Fitting, fitting, listed_given_lem, listed_index, listed_fits_lem, standing_fits, standing_below, free_given_lem, free_once_lem, free_not_standing, given_known_lem, pair_once}
use Rattle.contact_range.specs.RangeShownLaws.{EachInRange, fitting_test, each_in_range}
use Rattle.contact_range.specs.Checked.{Checked}
use Rattle.contact_graph.specs.EffectLaws.{contact_after, contact_room, same_or_not, word_apart}
use Rattle.contact_range.specs.FitsLaws.{fits_same}
use Rattle.contact_range.specs.Conditions.{RightLength}
use Rattle.contact_graph.specs.AddedGraphLaws.{right_kept, listed_pair, listed_counted}
use Rattle.contact_graph.specs.RemovedGraphLaws.{pair_id}
use Rattle.contact_graph.specs.ImpulseLaws.{map_map}
use Rattle.rules.specs.Limits.{pair_manifolds, proposed_points}
use Rattle.contact_update.specs.After.{record_updated, record_after, proposal_of, graph_after, inputs_of}
use Rattle.contact_update.specs.Plain.{pair_updated, plain_update}
use Rattle.contact_update.specs.RecordLaws.{record_length, record_names, record_pair, record_fits}

-- ---- a proposal is what its words say
module _ {xs ys : List ℕ} where
  proposed_point_same : {a b : ℕ} → Same xs a ys b proposed_point_size → proposed_point_at ys b ≡ proposed_point_at xs a
  unfolding proposed_point_at
  proposed_point_same {a} {b} s =
      let first : Same xs a ys b 3 = record { each = λ j l. s.each j (omega arith) } in
      λ i. record {
        anchor1 = vec3_same first i;
        anchor2 = vec3_same (same_in s proposed_point_anchor2 3 (lit≤ tt)) i;
        point = vec3_same (same_in s proposed_point_position 3 (lit≤ tt)) i;
        penetration = of_bits binary32 (word_same s proposed_point_penetration tt i);
        feature1 = word_same s proposed_point_features tt i;
        feature2 = word_same s proposed_point_feature2 tt i;
      }

  proposed_points_same : {a b : ℕ} (n : ℕ) → n ≤ proposed_points → Same xs a ys b proposed_points_size → proposed_points_at ys b n ≡ proposed_points_at xs a n
  unfolding proposed_points_at
  proposed_points_same n l s = map_upto_same _ _ n (λ k h. proposed_point_same (same_in s (k * proposed_point_size) proposed_point_size (row_in n proposed_point_size proposed_points k h l)))

  proposed_manifold_same : {a b : ℕ} → word_at xs a ≤ proposed_points → Same xs a ys b proposed_manifold_size → proposed_manifold_at ys b ≡ proposed_manifold_at xs a
  unfolding proposed_manifold_at
  proposed_manifold_same {a} {b} l s =
      λ i. record {
        normal = vec3_same (same_in s proposed_manifold_normal 3 (lit≤ tt)) i;
        points = (ap (proposed_points_at ys (b + proposed_manifold_points)) (first_same s tt) ∙ proposed_points_same (word_at xs a) l (same_in s proposed_manifold_points proposed_points_size (lit≤ tt))) i;
      }

  pub proposal_same : {a b : ℕ} → Proposed xs a → Same xs a ys b proposal_size → proposal_at ys b ≡ proposal_at xs a
  unfolding proposal_at
  proposal_same {a} {b} c s =
      let n = word_at xs (a + proposal_count) in
      ap (λ (m : ℕ). map (λ (k : ℕ). proposed_manifold_at ys (b + proposal_manifolds + k * proposed_manifold_size)) (upto m)) (word_same s proposal_count tt)
      ∙ map_upto_same _ _ n (λ k h. proposed_manifold_same (c.points k h) (same_in (same_in s proposal_manifolds (pair_manifolds * proposed_manifold_size) (lit≤ tt)) (k * proposed_manifold_size) proposed_manifold_size (row_in n proposed_manifold_size pair_manifolds k h c.manifolds)))

  pub hook_same : {a b : ℕ} → Same xs a ys b proposal_size → hook_at ys b ≡ hook_at xs a
  unfolding hook_at
  hook_same s = ap (λ (w : ℕ). eqb w 1) (first_same s tt)

-- ---- a contact's own proposal and record, by themselves
module _ (proposals : List ℕ) (id : ℕ) where
  row_same : Same (proposal_of proposals id) 0 proposals (id * proposal_size) proposal_size
  row_same = same_back (part_same proposals (id * proposal_size) proposal_size)

  pub proposal_part : Proposed (proposal_of proposals id) 0 → proposal_at (proposal_of proposals id) 0 ≡ proposal_at proposals (id * proposal_size)
  proposal_part q = sym (proposal_same q row_same)

  pub hook_part : hook_at (proposal_of proposals id) 0 ≡ hook_at proposals (id * proposal_size)
  hook_part = sym (hook_same row_same)

module _ (s : Settings) (colliders bodies proposals : List ℕ) where
  -- what an update does to the record of a contact
  abbrev pub change : ℕ → List ℕ → List ℕ
  change i w = record_after s colliders bodies (proposal_of proposals i) i w

  pub change_keeps : Keeps contact_size change
  change_keeps i w e = record_length s colliders bodies (proposal_of proposals i) i w ∙ e

  abbrev pub after : List ℕ → ℕ → List ℕ
  after g id = graph_after s colliders bodies proposals g id

  -- ---- words that stay
  pub graph_length_lem : (g : List ℕ) (id : ℕ) → length (after g id) ≡ length g
  unfolding graph_after
  graph_length_lem g id = length_update_at (graph_contacts (capacity_of g)) contact_size change g id

  pub after_word : {g : List ℕ} (id j : ℕ) → RightLength g → id < capacity_of g → (j < contact_at g id) ⊎ (contact_at g id + contact_size ≤ j) → word_at (after g id) j ≡ word_at g j
  unfolding graph_after
  after_word {g} id j r b a = get_d_update_at_apart (graph_contacts (capacity_of g)) contact_size change change_keeps g id j 0 (contact_room r id b) a

  pub after_capacity : {g : List ℕ} (id : ℕ) → RightLength g → id < capacity_of g → capacity_of (after g id) ≡ capacity_of g
  after_capacity id r b = after_word id 0 r b (inl (omega (arith, contact_after r id)))

  -- ---- updates of two contacts commute
  pub updates_commute : {g : List ℕ} (i j : ℕ) → RightLength g → i ≢ j → i < capacity_of g → j < capacity_of g → after (after g i) j ≡ after (after g j) i
  unfolding graph_after
  updates_commute {g} i j r n a b =
      let base = graph_contacts (capacity_of g) in
      ap (λ (c : ℕ). update_at (graph_contacts c) contact_size change (after g i) j) (after_capacity i r a)
      ∙ update_at_comm base contact_size change change_keeps g i j (contact_room r i a) (contact_room r j b) n
      ∙ ap (λ (c : ℕ). update_at (graph_contacts c) contact_size change (after g j) i) (sym (after_capacity j r b))

  -- ---- one contact's record
  abbrev pub record_of : List ℕ → ℕ → List ℕ
  record_of g id = part g (contact_at g id) contact_size

  module _ {g : List ℕ} (id : ℕ) (c : Checked g) (st : stands g id ≡ true) where
    abbrev h : List ℕ
    h = after g id

    below : id < capacity_of g
    below = standing_below c.range id st

    pub record_size : length (record_of g id) ≡ contact_size
    record_size = length_part g (contact_at g id) contact_size (contact_room c.right id below)

    -- the words before the records
    pub head_kept : (j : ℕ) → j < 4 + 2 * capacity_of g → word_at h j ≡ word_at g j
    head_kept j l = after_word id j c.right below (inl (omega (arith, contact_after c.right id)))

    pub capacity_kept : capacity_of h ≡ capacity_of g
    capacity_kept = after_capacity id c.right below

    pub given_kept : given_of h ≡ given_of g
    given_kept = let z = c.right.least in head_kept 1 (omega arith)

    pub listed_kept : listed_count h ≡ listed_count g
    listed_kept = let z = c.right.least in head_kept 2 (omega arith)

    pub freed_kept : free_count h ≡ free_count g
    freed_kept = let z = c.right.least in head_kept 3 (omega arith)

    pub listed_at_lem : (p : ℕ) → p < listed_count g → listed_at h p ≡ listed_at g p
    listed_at_lem p l = let n = counts c.range in head_kept (4 + p) (omega arith)

    pub free_at_lem : (k : ℕ) → k < free_count g → free_at h k ≡ free_at g k
    free_at_lem k l = let n = counts c.range in ap (λ (m : ℕ). word_at h (4 + m + k)) capacity_kept ∙ head_kept (4 + capacity_of g + k) (omega arith)

    -- the records of the others, and the contact's own
    pub other_word : (i o : ℕ) → i ≢ id → o < contact_size → word_at h (contact_at h i + o) ≡ word_at g (contact_at g i + o)
    other_word i o n l =
        ap (λ (m : ℕ). word_at h (contact_place m i + o)) capacity_kept
        ∙ after_word id (contact_at g i + o) c.right below (word_apart (4 + 2 * capacity_of g) i id o n l)

    own_part : part h (contact_at g id) contact_size ≡ change id (record_of g id)
    unfolding graph_after
    own_part = part_update_at_same (graph_contacts (capacity_of g)) contact_size change change_keeps g id (contact_room c.right id below)

    pub own_word : (o : ℕ) → o < contact_size → word_at h (contact_at h id + o) ≡ word_at (change id (record_of g id)) o
    own_word o l =
        ap (λ (m : ℕ). word_at h (contact_place m id + o)) capacity_kept ∙ sym (get_d_part h (contact_at g id) contact_size o 0 l)
        ∙ ap (λ (ws : List ℕ). word_at ws o) own_part

    -- what any record names, and its place in the list
    pub names_kept : (i o : ℕ) → o < contact_flags → word_at h (contact_at h i + o) ≡ word_at g (contact_at g i + o)
    names_kept i o l =
        elim (same_or_not i id) [
          | inl e ↦ subst (λ (k : ℕ). word_at h (contact_at h k + o) ≡ word_at g (contact_at g k + o)) (sym e) own
          | inr n ↦ other_word i o n (omega arith)
        ]
      where
        own : word_at h (contact_at h id + o) ≡ word_at g (contact_at g id + o)
        own =
            own_word o (omega arith) ∙ record_names s colliders bodies (proposal_of proposals id) id (record_of g id) o l
            ∙ get_d_part g (contact_at g id) contact_size o 0 (omega arith)

    pub listed_word : (p o : ℕ) → p < listed_count g → o < contact_flags → word_at h (contact_at h (listed_at h p) + o) ≡ word_at g (contact_at g (listed_at g p) + o)
    listed_word p o l b = ap (λ (i : ℕ). word_at h (contact_at h i + o)) (listed_at_lem p l) ∙ names_kept (listed_at g p) o b

    pub listed_first : (p : ℕ) → p < listed_count g → word_at h (contact_at h (listed_at h p)) ≡ word_at g (contact_at g (listed_at g p))
    listed_first p l = ap (word_at h) (sym (add-zero (contact_at h (listed_at h p)))) ∙ listed_word p 0 l (omega arith) ∙ ap (word_at g) (add-zero (contact_at g (listed_at g p)))

    pub stands_kept : (i : ℕ) → stands h i ≡ stands g i
    unfolding stands
    stands_kept i = ap (any (λ p. eqb (listed_at h p) i)) listed_kept ∙ any_same (λ p. eqb (listed_at h p) i) (λ p. eqb (listed_at g p) i) (listed_count g) (λ p l. ap (λ (n : ℕ). eqb n i) (listed_at_lem p l))

    pub is_free_kept : (i : ℕ) → is_free h i ≡ is_free g i
    unfolding is_free
    is_free_kept i = ap (any (λ k. eqb (free_at h k) i)) freed_kept ∙ any_same (λ k. eqb (free_at h k) i) (λ k. eqb (free_at g k) i) (free_count g) (λ k l. ap (λ (n : ℕ). eqb n i) (free_at_lem k l))

    pub pair_kept : (p q : ℕ) → p < listed_count g → q < listed_count g → same_pair h p q ≡ same_pair g p q
    unfolding same_pair
    pair_kept p q a b =
        λ i. same_colliders (listed_first p a i) (listed_word p 1 a (omega arith) i) (listed_first q b i) (listed_word q 1 b (omega arith) i)

    -- ---- the range
    pub record_fitting : Fitting (record_of g id) 0
    record_fitting =
        fitting (record_of g id) 0
        (fits_same g (contact_at g id) (record_of g id) 0 (λ o l _. (part_same g (contact_at g id) contact_size).each o l) ∙ fitting_test (standing_fits c.range id st))

    module _ (f : FitPair (record_updated s colliders bodies (proposal_of proposals id) id (record_of g id)).pair) where
      pub after_fitting : Fitting (change id (record_of g id)) 0
      after_fitting = record_fits s colliders bodies (proposal_of proposals id) id (record_of g id) record_size record_fitting f

      own_fitting : Fitting h (contact_at h id)
      own_fitting =
          let ws = change id (record_of g id) in
          fitting h (contact_at h id) (fits_same ws 0 h (contact_at h id) (λ o l _. own_word o l ∙ ap (word_at ws) (sym (zero-add o))) ∙ fitting_test after_fitting)

      pub fitting_kept : (i : ℕ) → Fitting g (contact_at g i) → Fitting h (contact_at h i)
      fitting_kept i t =
          elim (same_or_not i id) [
            | inl e ↦ subst (λ (k : ℕ). Fitting h (contact_at h k)) (sym e) own_fitting
            | inr n ↦ fitting h (contact_at h i) (fits_same g (contact_at g i) h (contact_at h i) (λ o l _. other_word i o n l) ∙ fitting_test t)
          ]

      pub range_kept : EachInRange h
      range_kept =
          let r = c.range in
          let n = counts r in
          record {
            counts = record { given = omega (arith, given_kept, capacity_kept); listed = omega (arith, listed_kept, capacity_kept); freed = omega (arith, freed_kept, capacity_kept) };
            given = λ p l. let b = known p l in omega (arith, listed_at_lem p b, listed_given_lem r p b, given_kept);
            back = λ p l. let b = known p l in listed_word p 6 b (omega arith) ∙ listed_index r p b;
            contacts = λ p l. let b = known p l in subst (λ (i : ℕ). Fitting h (contact_at h i)) (sym (listed_at_lem p b)) (fitting_kept (listed_at g p) (listed_fits_lem r p b));
            freed = λ k l. let b = under k l in omega (arith, free_at_lem k b, free_given_lem r k b, given_kept);
            once = λ j k a l e. let b = under k l in let d : j < free_count g = omega arith in let z = free_once_lem r j k d b (sym (free_at_lem j d) ∙ e ∙ free_at_lem k b) in omega arith;
            apart = λ k l. let b = under k l in stands_kept (free_at h k) ∙ ap (stands g) (free_at_lem k b) ∙ free_not_standing r k b;
            known = λ i l. elim (given_known_lem r i (omega (arith, given_kept))) [ inl s ↦ inl (stands_kept i ∙ s) | inr s ↦ inr (is_free_kept i ∙ s) ];
            pairs = λ p q a l. let b = known q l in pair_kept p q (omega arith) b ∙ pair_once r p q a b;
          }
        where
          known : (p : ℕ) → p < listed_count h → p < listed_count g
          known p l = omega (arith, listed_kept)

          under : (k : ℕ) → k < free_count h → k < free_count g
          under k l = omega (arith, freed_kept)

      pub update_in_range : Checked h
      update_in_range = record { right = right_kept c.right (graph_length_lem g id) capacity_kept; range = each_in_range range_kept }

  -- ---- the plain graph
  -- what the rules make of a record by itself is what they make of the pair in the graph
  pub record_updated_lem : (g : List ℕ) (id : ℕ) → Counted g (contact_at g id + contact_manifolds) → Proposed (proposal_of proposals id) 0
      → record_updated s colliders bodies (proposal_of proposals id) id (record_of g id) ≡ updated (inputs_of s colliders bodies proposals) (pair_at g (contact_at g id) id)
  unfolding record_updated updated inputs_of pair_at names_at
  record_updated_lem g id c q =
      let at = contact_at g id in
      let own = part_same g at contact_size in
      λ j. updated_between s (body_at bodies) (hook_part proposals id j) (proposal_part proposals id q j) (pair_part g at id c j) (collider_at colliders (first_same own tt j))
      (collider_at colliders (word_same own 1 tt j))

  module _ {g : List ℕ} (id : ℕ) (c : Checked g) (st : stands g id ≡ true) (q : Proposed (proposal_of proposals id) 0)
      (f : FitPair (record_updated s colliders bodies (proposal_of proposals id) id (record_of g id)).pair) where
    standing_counted : Counted g (contact_at g id + contact_manifolds)
    standing_counted = let t = standing_fits c.range id st in record { manifolds = t.manifolds; points = t.points }

    -- the contact's own pair
    pub own_pair : pair_at (after g id) (contact_at (after g id) id) id ≡ (updated (inputs_of s colliders bodies proposals) (pair_at g (contact_at g id) id)).pair
    own_pair =
        let ws = change id (record_of g id) in
        let h = after g id in
        let old = record_fitting id c st in
        let new = after_fitting id c st f in
        let same : Same ws 0 h (contact_at h id) 523 = record { each = λ o l. own_word id c st o l ∙ ap (word_at ws) (sym (zero-add o)) } in
        pair_same id (record { manifolds = new.manifolds; points = new.points }) same
        ∙ record_pair s colliders bodies (proposal_of proposals id) id (record_of g id) (record_size id c st) (record { manifolds = old.manifolds; points = old.points }) f
        ∙ ap (λ (u : Updated). u.pair) (record_updated_lem g id standing_counted q)

    -- a listed pair
    pub listed_pair_lem : (p : ℕ) → p < listed_count g → listed_pair (after g id) p ≡ pair_updated (inputs_of s colliders bodies proposals) id (listed_pair g p)
    unfolding pair_updated
    listed_pair_lem p l =
        let i = listed_at g p in
        let h = after g id in
        let inputs = inputs_of s colliders bodies proposals in
        ap (λ (k : ℕ). pair_at h (contact_at h k) k) (listed_at_lem id c st p l)
        ∙ elim (same_or_not i id) [
          | inl e ↦
              ap (λ (k : ℕ). pair_at h (contact_at h k) k) e ∙ own_pair ∙ ap (λ (k : ℕ). (updated inputs (pair_at g (contact_at g k) k)).pair) (sym e)
              ∙ sym (ap (λ (t : Bool). cond t (updated inputs (listed_pair g p)).pair (listed_pair g p)) (eq-eqb (listed_pair g p).names.id id (pair_id g p ∙ e)))
          | inr n ↦
              pair_same i (listed_counted c.range p l) (record { each = λ o b. other_word id c st i o n b })
              ∙ sym (ap (λ (t : Bool). cond t (updated inputs (listed_pair g p)).pair (listed_pair g p)) (ne_eqb (listed_pair g p).names.id id (λ e. n (sym (pair_id g p) ∙ e))))
        ]

    pub free_after : map (free_at (after g id)) (upto (free_count (after g id))) ≡ map (free_at g) (upto (free_count g))
    free_after =
        let h = after g id in
        ap (λ (n : ℕ). map (free_at h) (upto n)) (freed_kept id c st) ∙ map_upto_same (free_at h) (free_at g) (free_count g) (free_at_lem id c st)

    pub pairs_after : map (listed_pair (after g id)) (upto (listed_count (after g id))) ≡ map (pair_updated (inputs_of s colliders bodies proposals) id) (map (listed_pair g) (upto (listed_count g)))
    pairs_after =
        let h = after g id in
        let change = pair_updated (inputs_of s colliders bodies proposals) id in
        ap (λ (n : ℕ). map (listed_pair h) (upto n)) (listed_kept id c st) ∙ map_upto_same (listed_pair h) (λ p. change (listed_pair g p)) (listed_count g) listed_pair_lem
        ∙ sym (map_map change (listed_pair g) (upto (listed_count g)))

    pub update_graph : graph_of (after g id) ≡ plain_update (inputs_of s colliders bodies proposals) id (graph_of g)
    unfolding graph_of plain_update
    update_graph = λ j. record { capacity = capacity_kept id c st j; given = given_kept id c st j; free = free_after j; pairs = pairs_after j }
