-- A removal leaves a graph of the right length and in range, and to the words it does what the plain removal does to the graph. Assumes nothing.
use Rattle.std.specs.Prelude.{ℕ, zero, suc, ◌+◌, ◌-◌, ◌≤◌, ◌<◌, min, ◌≡◌, refl, ◌≢◌, Bool, true, cond, List, [], ◌∷◌, ◌++◌, map, length, get_or, take, set, Option, Some}
use Rattle.std.proofs.Common.{suc-le-suc, add_assoc, zero-lt-suc, not-suc-le-zero, le_of_suc-le-suc, arith, sym, ◌∙◌, inl, inr, eq-eqb, ne_eqb, length-take, length-set, get_or-take, get_or-set_same, get_or-set_other, ext_get_or}
use Rattle.std.proofs.Math.Nat.{min-eq_left}
use Rattle.std.proofs.Math.Path.{ap}
use Rattle.std.specs.Float.Ieee.{binary32, of_bits}
use Rattle.rows.specs.Slots.{upto}
use Rattle.rules.specs.Graph.{Graph, later, pair_index, swap_remove, removed_at, removed_found, plain_remove}
use Rattle.rules.specs.Records.{Pair}
use Rattle.words.specs.Words.{word_at}
use Rattle.manifold_records.specs.Counts.{Counted}
use Rattle.manifold_records.specs.ListLaws.{map_upto_next, map_upto_same, get_d_map_upto, length_map_upto}
use Rattle.contact_records.specs.ApartLaws.{names_same, edge_same, flags_same, manifolds_same, cache_same}
use Rattle.contact_records.specs.HeldLaws.{Same}
use Rattle.layout.specs.Contact.{cache_size, contact_cache, contact_manifolds, contact_pair_index, contact_size}
use Rattle.contact_records.specs.Recorded.{int_of, names_at, pair_at}
use Rattle.contact_range.specs.Recorded.{listed_count, free_count, listed_at, free_at, contact_at, graph_of}
use Rattle.contact_range.specs.Range.{stands}
use Rattle.contact_range.specs.RangeLaws.{listed_below, listed_once, standing_place}
use Rattle.contact_graph.specs.Calls.{place_of, removed_words}
use Rattle.contact_range.specs.Checked.{Checked}
use Rattle.contact_graph.specs.EffectLaws.{RemoveEffect, remove_effect, same_or_not}
use Rattle.contact_graph.specs.RemoveKeepsLaws.{remove_keeps}
use Rattle.contact_graph.specs.CallLaws.{removal_room}
use Rattle.contact_graph.specs.AddedGraphLaws.{right_kept, listed_pair, listed_counted}
use Rattle.layout.specs.Manifold.{manifolds_size}

pub removed_effect : {g : List ℕ} (id : ℕ) → Checked g → stands g id ≡ true → RemoveEffect g (removed_words g id) id (place_of g id) (listed_at g (listed_count g - 1))
unfolding removed_words
removed_effect {g} id c s =
    let m = removal_room id c s in
    remove_effect g id (place_of g id) (listed_at g (listed_count g - 1)) c.right m.place m.listed m.last m.spare

pub removed_in_range : {g : List ℕ} (id : ℕ) → Checked g → stands g id ≡ true → Checked (removed_words g id)
removed_in_range {g} id c s =
    let e = removed_effect id c s in
    let p = standing_place c.range id s in
    record { right = right_kept c.right e.size e.capacity; range = remove_keeps c.range p.0 p.1 e }

-- ---- a pair is what its record's words say, but for the place in the list
module _ (xs : List ℕ) (a : ℕ) (ys : List ℕ) (b : ℕ) (same : (o : ℕ) → o < contact_size → o ≢ contact_pair_index → word_at ys (b + o) ≡ word_at xs (a + o)) where
  pub run : (k m : ℕ) → contact_pair_index < k → k + m ≤ contact_size → Same xs (a + k) ys (b + k) m
  run k m h l = record { each = λ j i. ap (word_at ys) (add_assoc b k j) ∙ same (k + j) (omega arith) (omega arith) ∙ ap (word_at xs) (sym (add_assoc a k j)) }

  pub pair_but_place : (id : ℕ) → Counted xs (a + contact_manifolds) → pair_at ys b id ≡ pair_at xs a id
  unfolding pair_at
  pair_but_place id c =
      let named : Same xs a ys b 6 = record { each = λ j h. same j (omega arith) (omega arith) } in
      λ i. record {
        names = names_same id named i;
        edge = edge_same (run 7 2 (omega arith) (omega arith)) i;
        flags = flags_same (run 9 9 (omega arith) (omega arith)) i;
        manifolds = manifolds_same c (run contact_manifolds manifolds_size (omega arith) (omega arith)) i;
        count_change = int_of (same 18 (omega arith) (omega arith) i);
        speculative = of_bits binary32 (same 19 (omega arith) (omega arith) i);
        cache = cache_same (run contact_cache cache_size (omega arith) (omega arith)) i;
      }

-- ---- lists of pairs
-- the first pair of that id is the one at the place
pub pair_index_at : (id : ℕ) (ps : List Pair) (k : ℕ) (d : Pair) → k < length ps → (get_or ps k d).names.id ≡ id → ((j : ℕ) → j < k → (get_or ps j d).names.id ≡ id → ⊥) → pair_index id ps ≡ Some k
unfolding pair_index
pair_index_at id [] k d h e n = absurd (not-suc-le-zero h)
pair_index_at id (p ∷ ps) zero d h e n = ap (λ (t : Bool). cond t (Some 0) (later (pair_index id ps))) (eq-eqb p.names.id id e)
pair_index_at id (p ∷ ps) (suc k) d h e n =
    ap (λ (t : Bool). cond t (Some 0) (later (pair_index id ps))) (ne_eqb p.names.id id (n zero (zero-lt-suc k)))
    ∙ ap later (pair_index_at id ps k d (le_of_suc-le-suc h) e (λ j l. n (suc j) (suc-le-suc l)))

pub get_d_any {ℓ} : {A : Type ℓ} (l : List A) (i : ℕ) (d e : A) → i < length l → get_or l i d ≡ get_or l i e
get_d_any [] i d e h = absurd (not-suc-le-zero h)
get_d_any (x ∷ l) zero d e h = refl
get_d_any (x ∷ l) (suc i) d e h = get_d_any l i d e (le_of_suc-le-suc h)

pub found_at : (g : Graph) (i : ℕ) (ps : List Pair) (d : Pair) → i < length ps → removed_found g (Some i) ps ≡ removed_at g i (get_or ps i d)
unfolding removed_found
found_at g i [] d h = absurd (not-suc-le-zero h)
found_at g i (p ∷ ps) d h = ap (removed_at g i) (get_d_any (p ∷ ps) i p d h)

-- the last element takes the place p of a list by index
pub swapped : (f h : ℕ → Pair) (n p : ℕ) (d : Pair) → p < n → h p ≡ f (n - 1) → ((q : ℕ) → q < n - 1 → q ≢ p → h q ≡ f q) → map h (upto (n - 1)) ≡ swap_remove (map f (upto n)) p d
unfolding swap_remove
swapped f h n p d l gap rest =
    let ps = map f (upto n) in
    let len : length ps ≡ n = length_map_upto f n in
    let end : get_or ps (length ps - 1) d ≡ f (n - 1) = ap (λ (m : ℕ). get_or ps (m - 1) d) len ∙ get_d_map_upto f n (n - 1) d (omega arith) in
    let size : length (take (n - 1) (set ps p (f (n - 1)))) ≡ n - 1 = length-take (n - 1) (set ps p (f (n - 1))) ∙ ap (min (n - 1)) (length-set ps p (f (n - 1)) ∙ len) ∙ min-eq_left (omega arith) in
    ext_get_or d (map h (upto (n - 1))) (take (n - 1) (set ps p (f (n - 1)))) (length_map_upto h (n - 1) ∙ sym size)
    (λ q k. let b : q < n - 1 = omega (arith, length_map_upto h (n - 1)) in
    get_d_map_upto h (n - 1) q d b ∙ at q b ∙ sym (get_or-take (n - 1) (set ps p (f (n - 1))) q d b))
    ∙ sym (λ i. take (len i - 1) (set ps p (end i)))
  where
    at : (q : ℕ) → q < n - 1 → h q ≡ get_or (set (map f (upto n)) p (f (n - 1))) q d
    at q b =
        elim (same_or_not q p) [
          | inl s ↦ ap h s ∙ gap ∙ sym (get_or-set_same (map f (upto n)) p (f (n - 1)) d (omega (arith, length_map_upto f n))) ∙ ap (λ (j : ℕ). get_or (set (map f (upto n)) p (f (n - 1))) j d) (sym s)
          | inr o ↦ rest q b o ∙ sym (get_d_map_upto f n q d (omega arith)) ∙ sym (get_or-set_other (map f (upto n)) p q (f (n - 1)) d o)
        ]

-- ---- the plain graph
pub pair_id : (g : List ℕ) (p : ℕ) → (listed_pair g p).names.id ≡ listed_at g p
unfolding pair_at names_at
pair_id g p = refl

module _ {g : List ℕ} (id : ℕ) (c : Checked g) (s : stands g id ≡ true) where
  abbrev pub after : List ℕ
  after = removed_words g id

  abbrev pub pairs : List Pair
  pairs = map (listed_pair g) (upto (listed_count g))

  abbrev pub gone : Pair
  gone = listed_pair g (place_of g id)

  pub effect : RemoveEffect g after id (place_of g id) (listed_at g (listed_count g - 1))
  effect = removed_effect id c s

  pub here : place_of g id < listed_count g
  here = (standing_place c.range id s).0

  pub named : listed_at g (place_of g id) ≡ id
  named = (standing_place c.range id s).1

  pub at_place : (k : ℕ) → k < listed_count g → (get_or pairs k gone).names.id ≡ listed_at g k
  at_place k l = ap (λ (p : Pair). p.names.id) (get_d_map_upto (listed_pair g) (listed_count g) k gone l) ∙ pair_id g k

  pub removed_pair_index : pair_index id pairs ≡ Some (place_of g id)
  removed_pair_index =
      pair_index_at id pairs (place_of g id) gone (omega (arith, here, length_map_upto (listed_pair g) (listed_count g))) (at_place (place_of g id) here ∙ named)
      (λ j l e. let b : j < listed_count g = omega (arith, here) in
      let z = listed_once c.range j (place_of g id) b here (sym (at_place j b) ∙ e ∙ sym named) in omega arith)

  -- what the new list names at q is what the old one names at k
  pub same_pair_lem : (q k : ℕ) → k < listed_count g → listed_at after q ≡ listed_at g k → listed_pair after q ≡ listed_pair g k
  same_pair_lem q k l e =
      pair_but_place g (contact_at g (listed_at g k)) after (contact_at after (listed_at after q))
      (λ o a d. ap (λ (i : ℕ). word_at after (contact_at after i + o)) e ∙ effect.words (listed_at g k) o (listed_below c.range k l) a (λ x y. d y)) (listed_at after q)
      (listed_counted c.range k l)
      ∙ ap (pair_at g (contact_at g (listed_at g k))) e

  pub pairs_after : map (listed_pair after) (upto (listed_count after)) ≡ swap_remove pairs (place_of g id) gone
  pairs_after =
      ap (λ (m : ℕ). map (listed_pair after) (upto m)) effect.listed
      ∙ swapped (listed_pair g) (listed_pair after) (listed_count g) (place_of g id) gone here (same_pair_lem (place_of g id) (listed_count g - 1) (omega (arith, here)) effect.gap)
      (λ q l n. let b : q < listed_count g = omega arith in same_pair_lem q q b (effect.list q b n))

  pub free_after : map (free_at after) (upto (free_count after)) ≡ map (free_at g) (upto (free_count g)) ++ gone.names.id ∷ []
  free_after =
      ap (λ (m : ℕ). map (free_at after) (upto m)) effect.freed ∙ map_upto_next (free_at after) (free_count g)
      ∙ (λ i. map_upto_same (free_at after) (free_at g) (free_count g) effect.free i ++ (effect.free_last ∙ sym named ∙ sym (pair_id g (place_of g id))) i ∷ [])

  pub removed_at_lem : graph_of after ≡ removed_at (graph_of g) (place_of g id) gone
  unfolding graph_of
  removed_at_lem = λ i. record { capacity = effect.capacity i; given = effect.given i; free = free_after i; pairs = pairs_after i }

  pub plain_removed : plain_remove id (graph_of g) ≡ removed_at (graph_of g) (place_of g id) gone
  unfolding graph_of plain_remove
  plain_removed =
      ap (λ (o : Option ℕ). removed_found (graph_of g) o pairs) removed_pair_index
      ∙ found_at (graph_of g) (place_of g id) pairs gone (omega (arith, here, length_map_upto (listed_pair g) (listed_count g)))
      ∙ ap (removed_at (graph_of g) (place_of g id)) (get_d_map_upto (listed_pair g) (listed_count g) (place_of g id) gone here)

pub removed_graph : {g : List ℕ} (id : ℕ) → Checked g → stands g id ≡ true → graph_of (removed_words g id) ≡ plain_remove id (graph_of g)
removed_graph id c s = removed_at_lem id c s ∙ sym (plain_removed id c s)
