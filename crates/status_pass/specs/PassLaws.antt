-- A visit and the whole status pass leave a graph of the right length and in range, and do to the words what the rules do to the plain graph. Assumes nothing.
use Rattle.std.proofs.lemmas.Option.{none-some, same_Some}
use Rattle.std.specs.Prelude.{ℕ, zero, suc, ◌+◌, ◌-◌, ◌*◌, ◌≤◌, ◌<◌, ◌≡◌, ◌⊎◌, ◌≢◌, Bool, true, false, cond, ◌&&◌, ℤ, length, get_or, take, set, Option, None, Some}
use Rattle.std.proofs.Common.{suc-le-suc, add-zero, zero-add, zero-lt-suc, not-suc-le-zero, le_of_suc-le-suc, add-one, arith, subst, ◌∙◌, inl, inr, length-append, length-set, get_or-set_same, get_or-set_other, ext_get_or}
use Rattle.std.proofs.Math.Path.{refl, sym, ap}
use mathlib.Core.List.{List, [], ◌∷◌, ◌++◌, map, append-nil}
use Rattle.std.proofs.Math.Dec.{eqb}
use Rattle.rows.specs.Rows.{part}
use Rattle.rows.specs.Slots.{upto}
use Rattle.rows.specs.Laws.{length_put, length_part, get_d_part, part_put, get_d_put_apart, put_part}
use Rattle.rules.specs.Graph.{Graph, removed_at}
use Rattle.rules.specs.Records.{Pair, Names}
use Rattle.rules.specs.Numbers.{any}
use Rattle.rule_laws.specs.NumberLaws.{any_same}
use Rattle.rules.specs.Status.{Event, Change, Pass, event_if, stop_if, count_of, written, visit_at, visit_found, visit, visit_all, Verdict, vanishes, starts, stops, generates, recounts, persists, verdict, next, changes_for, events_for, visit_as}
use Rattle.rule_laws.specs.VisitLaws.{visit_at_as}
use Rattle.words.specs.Words.{word_at}
use Rattle.manifold_records.specs.Counts.{Counted}
use Rattle.manifold_records.specs.ListLaws.{map_upto_same, get_d_map_upto, length_map_upto}
use Rattle.contact_records.specs.ApartLaws.{pair_same}
use Rattle.contact_records.specs.HeldLaws.{Same}
use Rattle.layout.specs.Contact.{contact_edge_flags, contact_manifolds, contact_pair_index, contact_size}
use Rattle.layout.specs.Graph.{contact_place, graph_list}
use Rattle.contact_records.specs.Recorded.{pair_at}
use Rattle.contact_range.specs.Recorded.{capacity_of, given_of, listed_count, free_count, listed_at, free_at, contact_at, graph_of}
use Rattle.contact_range.specs.Range as range
use Rattle.contact_range.specs.RangeLaws.{counts, Fitting, fitting, stands_at, stands_found, listed_given_lem, listed_index, listed_once, listed_fits_lem, standing_fits, standing_below, free_given_lem, free_once_lem, free_not_standing, given_known_lem, pair_once}
use Rattle.contact_range.specs.RangeShownLaws.{EachInRange, fitting_test, each_in_range}
use Rattle.contact_graph.specs.Calls.{place_of, removed_words}
use Rattle.contact_range.specs.Checked.{Checked}
use Rattle.contact_graph.specs.EffectLaws.{contact_after, contact_room, same_or_not, word_apart}
use Rattle.contact_range.specs.FitsLaws.{fits_same}
use Rattle.contact_graph.specs.AddedGraphLaws.{right_kept, listed_pair, listed_counted}
use Rattle.contact_graph.specs.RemovedGraphLaws.{here, named, removed_effect, removed_in_range, removed_pair_index, removed_at_lem, get_d_any}
use Rattle.status_pass.specs.Settled.{settled_words}
use Rattle.status_pass.specs.SettleLaws.{settled_length, before_marks, settled_word, settled_pair, settled_fitting}
use Rattle.status_pass.specs.Pass.{settled_graph, visited_graph, Passing, visited_pair, visit_words, pass_words, plain_pass, PassReady}

-- ---- a part of a row has the row's words
part_same : (xs : List ℕ) (at n : ℕ) → Same xs at (part xs at n) 0 n
part_same xs at n = record { each = λ i l. ap (word_at (part xs at n)) (zero-add i) ∙ get_d_part xs at n i 0 l }

abbrev record_of : List ℕ → ℕ → List ℕ
record_of g id = part g (contact_at g id) contact_size

-- ---- a record written anew
module _ (v : Verdict) {g : List ℕ} (id : ℕ) (c : Checked g) (st : range.stands g id ≡ true) where
  abbrev h : List ℕ
  h = settled_graph v id g

  below : id < capacity_of g
  below = standing_below c.range id st

  record_size : length (record_of g id) ≡ contact_size
  record_size = length_part g (contact_at g id) contact_size (contact_room c.right id below)

  settled_size : length (settled_words v (record_of g id)) ≡ contact_size
  settled_size = settled_length v (record_of g id) ∙ record_size

  graph_length_lem : length h ≡ length g
  unfolding settled_graph
  graph_length_lem = length_put g (contact_at g id) (settled_words v (record_of g id))

  -- ---- words that stay
  word_kept : (j : ℕ) → (j < contact_at g id) ⊎ (contact_at g id + contact_size ≤ j) → word_at h j ≡ word_at g j
  unfolding settled_graph
  word_kept j a =
      get_d_put_apart g (contact_at g id) (settled_words v (record_of g id)) j 0
      (subst (λ (m : ℕ). (j < contact_at g id) ⊎ (contact_at g id + m ≤ j)) (sym settled_size) a)

  head_kept : (j : ℕ) → j < graph_list + 2 * capacity_of g → word_at h j ≡ word_at g j
  head_kept j l = word_kept j (inl (omega (arith, contact_after c.right id)))

  capacity_kept : capacity_of h ≡ capacity_of g
  capacity_kept = let z = c.right.least in head_kept 0 (omega arith)

  given_kept : given_of h ≡ given_of g
  given_kept = let z = c.right.least in head_kept 1 (omega arith)

  listed_kept : listed_count h ≡ listed_count g
  listed_kept = let z = c.right.least in head_kept 2 (omega arith)

  freed_kept : free_count h ≡ free_count g
  freed_kept = let z = c.right.least in head_kept 3 (omega arith)

  listed_at_lem : (p : ℕ) → p < listed_count g → listed_at h p ≡ listed_at g p
  listed_at_lem p l = let n = counts c.range in head_kept (graph_list + p) (omega arith)

  free_at_lem : (k : ℕ) → k < free_count g → free_at h k ≡ free_at g k
  free_at_lem k l = let n = counts c.range in ap (λ (m : ℕ). word_at h (graph_list + m + k)) capacity_kept ∙ head_kept (graph_list + capacity_of g + k) (omega arith)

  -- the records of the others, and the contact's own
  other_word : (i o : ℕ) → i ≢ id → o < contact_size → word_at h (contact_at h i + o) ≡ word_at g (contact_at g i + o)
  other_word i o n l =
      ap (λ (m : ℕ). word_at h (contact_place m i + o)) capacity_kept ∙ word_kept (contact_at g i + o) (word_apart (graph_list + 2 * capacity_of g) i id o n l)

  own_part : part h (contact_at g id) contact_size ≡ settled_words v (record_of g id)
  unfolding settled_graph
  own_part = part_put g (contact_at g id) (settled_words v (record_of g id)) contact_size settled_size (contact_room c.right id below)

  own_word : (o : ℕ) → o < contact_size → word_at h (contact_at h id + o) ≡ word_at (settled_words v (record_of g id)) o
  own_word o l =
      ap (λ (m : ℕ). word_at h (contact_place m id + o)) capacity_kept ∙ sym (get_d_part h (contact_at g id) contact_size o 0 l)
      ∙ ap (λ (ws : List ℕ). word_at ws o) own_part

  -- what any record names, and its place in the list
  names_kept : (i o : ℕ) → o < contact_edge_flags → word_at h (contact_at h i + o) ≡ word_at g (contact_at g i + o)
  names_kept i o l =
      elim (same_or_not i id) [
        | inl e ↦ subst (λ (k : ℕ). word_at h (contact_at h k + o) ≡ word_at g (contact_at g k + o)) (sym e) own
        | inr n ↦ other_word i o n (omega arith)
      ]
    where
      own : word_at h (contact_at h id + o) ≡ word_at g (contact_at g id + o)
      own = own_word o (omega arith) ∙ settled_word v (record_of g id) o (before_marks o l) ∙ get_d_part g (contact_at g id) contact_size o 0 (omega arith)

  listed_word : (p o : ℕ) → p < listed_count g → o < contact_edge_flags → word_at h (contact_at h (listed_at h p) + o) ≡ word_at g (contact_at g (listed_at g p) + o)
  listed_word p o l b = ap (λ (i : ℕ). word_at h (contact_at h i + o)) (listed_at_lem p l) ∙ names_kept (listed_at g p) o b

  listed_first : (p : ℕ) → p < listed_count g → word_at h (contact_at h (listed_at h p)) ≡ word_at g (contact_at g (listed_at g p))
  listed_first p l = ap (word_at h) (sym (add-zero (contact_at h (listed_at h p)))) ∙ listed_word p 0 l (omega arith) ∙ ap (word_at g) (add-zero (contact_at g (listed_at g p)))

  stands_kept : (i : ℕ) → range.stands h i ≡ range.stands g i
  unfolding range.stands
  stands_kept i =
      ap (any (λ p. eqb (listed_at h p) i)) listed_kept
      ∙ any_same (λ p. eqb (listed_at h p) i) (λ p. eqb (listed_at g p) i) (listed_count g) (λ p l. ap (λ (n : ℕ). eqb n i) (listed_at_lem p l))

  is_free_kept : (i : ℕ) → range.is_free h i ≡ range.is_free g i
  unfolding range.is_free
  is_free_kept i =
      ap (any (λ k. eqb (free_at h k) i)) freed_kept
      ∙ any_same (λ k. eqb (free_at h k) i) (λ k. eqb (free_at g k) i) (free_count g) (λ k l. ap (λ (n : ℕ). eqb n i) (free_at_lem k l))

  pair_kept : (p q : ℕ) → p < listed_count g → q < listed_count g → range.same_pair h p q ≡ range.same_pair g p q
  unfolding range.same_pair
  pair_kept p q a b = λ i. range.same_colliders (listed_first p a i) (listed_word p 1 a (omega arith) i) (listed_first q b i) (listed_word q 1 b (omega arith) i)

  -- ---- the range
  record_fitting : Fitting (record_of g id) 0
  record_fitting =
      fitting (record_of g id) 0
      (fits_same g (contact_at g id) (record_of g id) 0 (λ o l _. (part_same g (contact_at g id) contact_size).each o l) ∙ fitting_test (standing_fits c.range id st))

  own_same : Same (settled_words v (record_of g id)) 0 h (contact_at h id) contact_size
  own_same = record { each = λ o l. own_word o l ∙ ap (word_at (settled_words v (record_of g id))) (sym (zero-add o)) }

  own_fitting : Fitting h (contact_at h id)
  own_fitting =
      let ws = settled_words v (record_of g id) in
      fitting h (contact_at h id) (fits_same ws 0 h (contact_at h id) (λ o l _. own_same.each o l) ∙ fitting_test (settled_fitting v (record_of g id) record_size record_fitting))

  fitting_kept : (i : ℕ) → Fitting g (contact_at g i) → Fitting h (contact_at h i)
  fitting_kept i t =
      elim (same_or_not i id) [
        | inl e ↦ subst (λ (k : ℕ). Fitting h (contact_at h k)) (sym e) own_fitting
        | inr n ↦ fitting h (contact_at h i) (fits_same g (contact_at g i) h (contact_at h i) (λ o l _. other_word i o n l) ∙ fitting_test t)
      ]

  range_kept : EachInRange h
  range_kept =
      let r = c.range in
      let n = counts r in
      record {
        counts = record { given = omega (arith, given_kept, capacity_kept); listed = omega (arith, listed_kept, capacity_kept); freed = omega (arith, freed_kept, capacity_kept) };
        given = λ p l. let b = known p l in omega (arith, listed_at_lem p b, listed_given_lem r p b, given_kept);
        back = λ p l. let b = known p l in listed_word p contact_pair_index b (omega arith) ∙ listed_index r p b;
        contacts = λ p l. let b = known p l in subst (λ (i : ℕ). Fitting h (contact_at h i)) (sym (listed_at_lem p b)) (fitting_kept (listed_at g p) (listed_fits_lem r p b));
        freed = λ k l. let b = under k l in omega (arith, free_at_lem k b, free_given_lem r k b, given_kept);
        once = λ j k a l e. let b = under k l in let d : j < free_count g = omega arith in let z = free_once_lem r j k d b (sym (free_at_lem j d) ∙ e ∙ free_at_lem k b) in omega arith;
        apart = λ k l. let b = under k l in stands_kept (free_at h k) ∙ ap (range.stands g) (free_at_lem k b) ∙ free_not_standing r k b;
        known = λ i l. elim (given_known_lem r i (omega (arith, given_kept))) [ inl s ↦ inl (stands_kept i ∙ s) | inr s ↦ inr (is_free_kept i ∙ s) ];
        pairs = λ p q a l. let b = known q l in pair_kept p q (omega arith) b ∙ pair_once r p q a b;
      }
    where
      known : (p : ℕ) → p < listed_count h → p < listed_count g
      known p l = omega (arith, listed_kept)

      under : (k : ℕ) → k < free_count h → k < free_count g
      under k l = omega (arith, freed_kept)

  settled_in_range : Checked h
  settled_in_range = record { right = right_kept c.right graph_length_lem capacity_kept; range = each_in_range range_kept }

-- ---- a removal leaves the others standing
module _ {g : List ℕ} (id : ℕ) (c : Checked g) (st : range.stands g id ≡ true) where
  still : (j : ℕ) → range.stands g j ≡ true → j ≢ id → range.stands (removed_words g id) j ≡ true
  still j s d =
      let h = removed_words g id in
      let e = removed_effect id c st in
      let f = stands_found g j s in
      let n : f.0 ≢ place_of g id = λ q. d (sym f.2 ∙ ap (listed_at g) q ∙ named id c st) in
      elim (same_or_not f.0 (listed_count g - 1)) [
        | inl q ↦ ap (range.stands h) (sym (e.gap ∙ ap (listed_at g) (sym q) ∙ f.2)) ∙ stands_at h (place_of g id) (omega (arith, e.listed, n, q, here id c st))
        | inr q ↦ ap (range.stands h) (sym (e.list f.0 f.1 n ∙ f.2)) ∙ stands_at h f.0 (omega (arith, e.listed, f.1, q))
      ]

  stood : (j : ℕ) → range.stands (removed_words g id) j ≡ true → range.stands g j ≡ true
  stood j s =
      let h = removed_words g id in
      let e = removed_effect id c st in
      let f = stands_found h j s in
      elim (same_or_not f.0 (place_of g id)) [
        | inl q ↦ ap (range.stands g) (sym f.2 ∙ ap (listed_at h) q ∙ e.gap) ∙ stands_at g (listed_count g - 1) (omega (arith, here id c st))
        | inr q ↦ let b : f.0 < listed_count g = omega (arith, e.listed, f.1) in ap (range.stands g) (sym f.2 ∙ e.list f.0 b q) ∙ stands_at g f.0 b
      ]

  removed_others : (j : ℕ) → j ≢ id → range.stands (removed_words g id) j ≡ range.stands g j
  removed_others j d = go (range.stands (removed_words g id) j) (range.stands g j) refl refl
    where
      go : (a b : Bool) → range.stands (removed_words g id) j ≡ a → range.stands g j ≡ b → a ≡ b
      go true b p q = sym (stood j p) ∙ q
      go false true p q = sym p ∙ still j q d
      go false false p q = refl

-- ---- a visit
-- what holds of a removal and of every record written anew
visited_by : (P : List ℕ → Type 0) (id : ℕ) (g : List ℕ) → P (removed_words g id) → ((v : Verdict) → P (settled_graph v id g)) → (v : Verdict) → P (visited_graph v id g)
unfolding visited_graph
visited_by P id g a b vanishes = a
visited_by P id g a b starts = b starts
visited_by P id g a b stops = b stops
visited_by P id g a b generates = b generates
visited_by P id g a b recounts = b recounts
visited_by P id g a b persists = b persists

pub visited_checked : (v : Verdict) {g : List ℕ} (id : ℕ) → Checked g → range.stands g id ≡ true → Checked (visited_graph v id g)
visited_checked v {g} id c st = visited_by Checked id g (removed_in_range id c st) (λ u. settled_in_range u id c st) v

pub visited_capacity : (v : Verdict) {g : List ℕ} (id : ℕ) → Checked g → range.stands g id ≡ true → capacity_of (visited_graph v id g) ≡ capacity_of g
visited_capacity v {g} id c st = visited_by (λ (h : List ℕ). capacity_of h ≡ capacity_of g) id g (removed_effect id c st).capacity (λ u. capacity_kept u id c st) v

pub visited_others : (v : Verdict) {g : List ℕ} (id : ℕ) → Checked g → range.stands g id ≡ true → (j : ℕ) → j ≢ id → range.stands (visited_graph v id g) j ≡ range.stands g j
visited_others v {g} id c st j d =
    visited_by (λ (h : List ℕ). range.stands h j ≡ range.stands g j) id g (removed_others id c st j d) (λ u. stands_kept u id c st j) v

-- ---- a visit does to the plain graph what the rules do
set_upto {ℓ} : {A : Type ℓ} (f h : ℕ → A) (n p : ℕ) (q : A) → p < n → h p ≡ q → ((k : ℕ) → k < n → k ≢ p → h k ≡ f k) → map h (upto n) ≡ set (map f (upto n)) p q
set_upto f h n p q l e rest =
    let fs = map f (upto n) in
    ext_get_or q (map h (upto n)) (set fs p q) (length_map_upto h n ∙ sym (length-set fs p q ∙ length_map_upto f n))
    (λ k b. let s : k < n = omega (arith, length_map_upto h n) in get_d_map_upto h n k q s ∙ at k s)
  where
    at : (k : ℕ) → k < n → h k ≡ get_or (set (map f (upto n)) p q) k q
    at k s =
        elim (same_or_not k p) [
          | inl z ↦ ap h z ∙ e ∙ sym (get_or-set_same (map f (upto n)) p q q (omega (arith, length_map_upto f n))) ∙ ap (λ (j : ℕ). get_or (set (map f (upto n)) p q) j q) (sym z)
          | inr d ↦ rest k s d ∙ sym (get_d_map_upto f n k q s) ∙ sym (get_or-set_other (map f (upto n)) p k q q d)
        ]

found_at : (s : Pass) (i : ℕ) (ps : List Pair) (d : Pair) → i < length ps → visit_found s (Some i) ps ≡ visit_at s i (get_or ps i d)
unfolding visit_found
found_at s i [] d h = absurd (not-suc-le-zero h)
found_at s i (p ∷ ps) d h = ap (visit_at s i) (get_d_any (p ∷ ps) i p d h)

-- the pair at place i of a graph set
abbrev pub with_pair : Graph → ℕ → Pair → Graph
with_pair g i p = record { capacity = g.capacity; given = g.given; free = g.free; pairs = set g.pairs i p }

-- a pair that stays was not disjoint
staying : (v : Verdict) (p q : Pair) → next v p ≡ Some q → v ≡ vanishes → ⊥
staying v p q e z = none-some q (ap (λ (u : Verdict). next u p) (sym z) ∙ e)

module _ {g : List ℕ} (id : ℕ) (c : Checked g) (st : range.stands g id ≡ true) where
  own_listed : listed_pair g (place_of g id) ≡ visited_pair g id
  own_listed = ap (λ (k : ℕ). pair_at g (contact_at g k) k) (named id c st)

  own_counted : Counted g (contact_at g id + contact_manifolds)
  own_counted = let t = standing_fits c.range id st in record { manifolds = t.manifolds; points = t.points }

  module _ (v : Verdict) {q : Pair} (e : next v (visited_pair g id) ≡ Some q) where
    own_pair : visited_pair (settled_graph v id g) id ≡ q
    own_pair =
        let t = settled_fitting v (record_of g id) (record_size v id c st) (record_fitting v id c st) in
        pair_same id (record { manifolds = t.manifolds; points = t.points }) (own_same v id c st)
        ∙ same_Some (pair_at (settled_words v (record_of g id)) 0 id) q
        (sym (settled_pair v (record_of g id) id (record_size v id c st) (staying v (visited_pair g id) q e))
        ∙ ap (next v) (pair_same id own_counted (part_same g (contact_at g id) contact_size)) ∙ e)

    other_pair : (p : ℕ) → p < listed_count g → p ≢ place_of g id → listed_pair (settled_graph v id g) p ≡ listed_pair g p
    other_pair p l d =
        let h = settled_graph v id g in
        let i = listed_at g p in
        let n : i ≢ id = λ z. d (listed_once c.range p (place_of g id) l (here id c st) (z ∙ sym (named id c st))) in
        ap (λ (k : ℕ). pair_at h (contact_at h k) k) (listed_at_lem v id c st p l)
        ∙ pair_same i (listed_counted c.range p l) (record { each = λ o b. other_word v id c st i o n b })

    place_pair : listed_pair (settled_graph v id g) (place_of g id) ≡ q
    place_pair =
        let h = settled_graph v id g in
        ap (λ (k : ℕ). pair_at h (contact_at h k) k) (listed_at_lem v id c st (place_of g id) (here id c st) ∙ named id c st) ∙ own_pair

    settled_pairs : map (listed_pair (settled_graph v id g)) (upto (listed_count (settled_graph v id g))) ≡ set (map (listed_pair g) (upto (listed_count g))) (place_of g id) q
    settled_pairs =
        let h = settled_graph v id g in
        ap (λ (n : ℕ). map (listed_pair h) (upto n)) (listed_kept v id c st)
        ∙ set_upto (listed_pair g) (listed_pair h) (listed_count g) (place_of g id) q (here id c st) place_pair other_pair

    settled_free : map (free_at (settled_graph v id g)) (upto (free_count (settled_graph v id g))) ≡ map (free_at g) (upto (free_count g))
    settled_free =
        let h = settled_graph v id g in
        ap (λ (n : ℕ). map (free_at h) (upto n)) (freed_kept v id c st) ∙ map_upto_same (free_at h) (free_at g) (free_count g) (free_at_lem v id c st)

    pub settled_graph_lem : graph_of (settled_graph v id g) ≡ with_pair (graph_of g) (place_of g id) q
    unfolding graph_of
    settled_graph_lem = λ i. record { capacity = capacity_kept v id c st i; given = given_kept v id c st i; free = settled_free i; pairs = settled_pairs i }

-- what the words have after a visit by a verdict
abbrev visited_as : Passing → ℕ → Verdict → Passing
visited_as s id v =
    let p = visited_pair s.graph id in
    record { graph = visited_graph v id s.graph; events = s.events ++ events_for v p; changes = s.changes ++ changes_for v p }

module _ (s : Passing) (id : ℕ) (c : Checked s.graph) (st : range.stands s.graph id ≡ true) where
  abbrev own : Pair
  own = visited_pair s.graph id

  abbrev at : ℕ
  at = place_of s.graph id

  as_written : (v : Verdict) {q : Pair} → next v own ≡ Some q
      → written (plain_pass s) at q (events_for v own) (changes_for v own)
      ≡ record { graph = graph_of (settled_graph v id s.graph); events = s.events ++ events_for v own; changes = s.changes ++ changes_for v own }
  as_written v e = λ i. record { graph = sym (settled_graph_lem id c st v e) i; events = s.events ++ events_for v own; changes = s.changes ++ changes_for v own }

  visit_as_lem : (v : Verdict) → visit_as (plain_pass s) at own v ≡ plain_pass (visited_as s id v)
  unfolding visited_graph settled_graph settled_words
  visit_as_lem vanishes =
      λ i. record {
        graph = (ap (removed_at (graph_of s.graph) at) (sym (own_listed id c st)) ∙ sym (removed_at_lem id c st)) i;
        events = s.events ++ events_for vanishes own;
        changes = s.changes ++ changes_for vanishes own;
      }
  visit_as_lem starts = as_written starts refl
  visit_as_lem stops = as_written stops refl
  visit_as_lem generates = as_written generates refl
  visit_as_lem recounts = as_written recounts refl
  visit_as_lem persists =
      λ i. record {
        graph = graph_of (sym (put_part s.graph (contact_at s.graph id) contact_size) i);
        events = sym (append-nil s.events) i;
        changes = sym (append-nil s.changes) i;
      }

  visit_found_lem : visit (plain_pass s) id ≡ visit_at (plain_pass s) at own
  unfolding visit graph_of
  visit_found_lem =
      let g = s.graph in
      let ps = map (listed_pair g) (upto (listed_count g)) in
      let d = listed_pair g at in
      ap (λ (o : Option ℕ). visit_found (plain_pass s) o ps) (removed_pair_index id c st)
      ∙ found_at (plain_pass s) at ps d (omega (arith, here id c st, length_map_upto (listed_pair g) (listed_count g)))
      ∙ ap (visit_at (plain_pass s) at) (get_d_map_upto (listed_pair g) (listed_count g) at d (here id c st) ∙ own_listed id c st)

pub visited_means : (s : Passing) (id : ℕ) → Checked s.graph → range.stands s.graph id ≡ true → visit (plain_pass s) id ≡ plain_pass (visit_words s id)
unfolding visit_words
visited_means s id c st =
    visit_found_lem s id c st ∙ visit_at_as (plain_pass s) (place_of s.graph id) (visited_pair s.graph id)
    ∙ visit_as_lem s id c st (verdict (visited_pair s.graph id))

-- ---- the pass, visit by visit
pub pass_next : (s : Passing) (ids : List ℕ) (k : ℕ) → k < length ids → pass_words s (take (k + 1) ids) ≡ visit_words (pass_words s (take k ids)) (get_or ids k 0)
unfolding pass_words
pass_next s ids k h = ap (λ (n : ℕ). pass_words s (take n ids)) (add-one k) ∙ go s ids k h
  where
    go : (s : Passing) (ids : List ℕ) (k : ℕ) → k < length ids → pass_words s (take (suc k) ids) ≡ visit_words (pass_words s (take k ids)) (get_or ids k 0)
    go s [] k h = absurd (not-suc-le-zero h)
    go s (id ∷ ids) zero h = refl
    go s (id ∷ ids) (suc k) h = go (visit_words s id) ids k (le_of_suc-le-suc h)

-- the first visit leaves the others ready
pub ready_next : (s : Passing) (id : ℕ) (ids : List ℕ) → PassReady s (id ∷ ids) → PassReady (visit_words s id) ids
unfolding visit_words
ready_next s id ids r =
    let v = verdict (visited_pair s.graph id) in
    let here = r.standing 0 (zero-lt-suc (length ids)) in
    record {
      checked = visited_checked v id r.checked here;
      standing =
          λ k h. visited_others v id r.checked here (get_or ids k 0) (λ e. r.distinct 0 (suc k) (zero-lt-suc k) (suc-le-suc h) (sym e))
          ∙ r.standing (suc k) (suc-le-suc h);
      distinct = λ j k a b e. r.distinct (suc j) (suc k) (suc-le-suc a) (suc-le-suc b) e;
    }

visit_capacity : (s : Passing) (id : ℕ) (ids : List ℕ) → PassReady s (id ∷ ids) → capacity_of (visit_words s id).graph ≡ capacity_of s.graph
unfolding visit_words
visit_capacity s id ids r = visited_capacity (verdict (visited_pair s.graph id)) id r.checked (r.standing 0 (zero-lt-suc (length ids)))

pub pass_at : (s : Passing) (ids : List ℕ) → PassReady s ids → (k : ℕ) → k < length ids
    → Checked (pass_words s (take k ids)).graph
    × (range.stands (pass_words s (take k ids)).graph (get_or ids k 0) ≡ true) × (capacity_of (pass_words s (take k ids)).graph ≡ capacity_of s.graph)
unfolding pass_words
pass_at s [] r k h = absurd (not-suc-le-zero h)
pass_at s (id ∷ ids) r zero h = (r.checked, r.standing 0 h, refl)
pass_at s (id ∷ ids) r (suc k) h =
    let t = pass_at (visit_words s id) ids (ready_next s id ids r) k (le_of_suc-le-suc h) in
    (t.0, t.1, t.2 ∙ visit_capacity s id ids r)

pub pass_checked : (s : Passing) (ids : List ℕ) → PassReady s ids → Checked (pass_words s ids).graph
unfolding pass_words
pass_checked s [] r = r.checked
pass_checked s (id ∷ ids) r = pass_checked (visit_words s id) ids (ready_next s id ids r)

pub pass_capacity : (s : Passing) (ids : List ℕ) → PassReady s ids → capacity_of (pass_words s ids).graph ≡ capacity_of s.graph
unfolding pass_words
pass_capacity s [] r = refl
pass_capacity s (id ∷ ids) r = pass_capacity (visit_words s id) ids (ready_next s id ids r) ∙ visit_capacity s id ids r

pub pass_means : (s : Passing) (ids : List ℕ) → PassReady s ids → visit_all (plain_pass s) ids ≡ plain_pass (pass_words s ids)
unfolding pass_words visit_all
pass_means s [] r = refl
pass_means s (id ∷ ids) r =
    ap (λ (p : Pass). visit_all p ids) (visited_means s id r.checked (r.standing 0 (zero-lt-suc (length ids))))
    ∙ pass_means (visit_words s id) ids (ready_next s id ids r)

-- ---- how much is listed: at most an event and a change for each visit
event_few : (b : Bool) (e : Event) → length (event_if b e) ≤ 1
event_few true e = omega arith
event_few false e = omega arith

events_for_few : (v : Verdict) (p : Pair) → length (events_for v p) ≤ 1
events_for_few vanishes p = event_few (p.edge.touching && p.edge.contact_events) _
events_for_few starts p = event_few p.edge.contact_events _
events_for_few stops p = event_few p.edge.contact_events _
events_for_few generates p = omega arith
events_for_few recounts p = omega arith
events_for_few persists p = omega arith

-- the same names with other bodies, to go by what those are
abbrev bodied : Names → Option ℕ → Option ℕ → Names
bodied n a b = record { id = n.id; collider1 = n.collider1; collider2 = n.collider2; body1 = a; body2 = b }

stop_few : (b : Bool) (n : Names) → length (stop_if b n) ≤ 1
stop_few false n = omega arith
stop_few true n = go n.body1 n.body2
  where
    go : (a b : Option ℕ) → length (stop_if true (bodied n a b)) ≤ 1
    go None b = omega arith
    go (Some a) None = omega arith
    go (Some a) (Some b) = omega arith

count_few : (n : Names) (d : ℤ) → length (count_of n d) ≤ 1
count_few n d = go n.body1 n.body2
  where
    go : (a b : Option ℕ) → length (count_of (bodied n a b) d) ≤ 1
    go None b = omega arith
    go (Some a) None = omega arith
    go (Some a) (Some b) = omega arith

start_few : (b : Bool) (c : Change) → length (cond b (c ∷ []) []) ≤ 1
start_few true c = omega arith
start_few false c = omega arith

changes_for_few : (v : Verdict) (p : Pair) → length (changes_for v p) ≤ 1
changes_for_few vanishes p = stop_few p.flags.generate_constraints p.names
changes_for_few starts p = start_few p.flags.generate_constraints _
changes_for_few stops p = stop_few p.flags.generate_constraints p.names
changes_for_few generates p = omega arith
changes_for_few recounts p = count_few p.names p.count_change
changes_for_few persists p = omega arith

pub pass_events : (s : Passing) (ids : List ℕ) → length (pass_words s ids).events ≤ length s.events + length ids
unfolding pass_words visit_words
pass_events s [] = omega arith
pass_events s (id ∷ ids) =
    let p = visited_pair s.graph id in
    let r = pass_events (visit_words s id) ids in
    omega (arith, r, length-append s.events (events_for (verdict p) p), events_for_few (verdict p) p)

pub pass_changes : (s : Passing) (ids : List ℕ) → length (pass_words s ids).changes ≤ length s.changes + length ids
unfolding pass_words visit_words
pass_changes s [] = omega arith
pass_changes s (id ∷ ids) =
    let p = visited_pair s.graph id in
    let r = pass_changes (visit_words s id) ids in
    omega (arith, r, length-append s.changes (changes_for (verdict p) p), changes_for_few (verdict p) p)
