-- Impulses that were written leave a graph of the right length and in range, and the plain graph but for them. Assumes nothing.
use Rattle.std.specs.Prelude.{ℕ, ◌+◌, ◌*◌, ◌≤◌, ◌<◌, ◌≡◌, refl, ◌⊎◌, ◌≢◌, true, cond, ◌&&◌, T, ltb}
use Rattle.std.proofs.Common.{add-zero, add_assoc, arith, subst, ◌∙◌, inl, inr, lit≤}
use Rattle.std.proofs.Math.Path.{sym, ap}
use mathlib.Core.List.{List, [], ◌∷◌, map}
use Rattle.std.proofs.Math.Dec.{eqb}
use Rattle.std.specs.Float.Ieee.{binary32, of_bits}
use Rattle.math.specs.Constants.{zero_f}
use Rattle.math.specs.Vec.{vec2}
use Rattle.rows.specs.Laws.{length_put, get_d_put_apart}
use Rattle.rows.specs.Rows.{put}
use Rattle.rows.specs.Slots.{upto}
use Rattle.rows.specs.SlotLaws.{slots_apart}
use Rattle.rules.specs.Limits.{bodies}
use Rattle.rules.specs.Numbers.{any}
use Rattle.rule_laws.specs.NumberLaws.{any_same}
use Rattle.rule_laws.specs.Stripped.{stripped_point, stripped_manifold, stripped}
use Rattle.words.specs.Words.{word_at}
use Rattle.manifold_records.specs.ListLaws.{map_upto_same}
use Rattle.manifold_records.specs.Recorded.{point_at, points_at, manifold_at, manifolds_at}
use Rattle.contact_records.specs.ApartLaws.{vec3_same, names_same, edge_same, flags_same, cache_same}
use Rattle.contact_records.specs.HeldLaws.{Same, same_in, word_same, first_same}
use Rattle.layout.specs.Contact.{cache_size, contact_cache, contact_manifolds, contact_size}
use Rattle.layout.specs.Graph.{contact_place, graph_list}
use Rattle.layout.specs.Manifold.{manifold_points, manifold_size}
use Rattle.layout.specs.Point.{point_size}
use Rattle.contact_records.specs.Recorded.{int_of, pair_at}
use Rattle.contact_range.specs.Recorded.{capacity_of, given_of, listed_count, free_count, listed_at, free_at, contact_at, graph_of}
use Rattle.contact_range.specs.Range.{is_mark, optional_fits, stands, is_free, same_colliders, same_pair}
use Rattle.contact_range.specs.RangeLaws.{counts, Fitting, listed_given_lem, listed_index, listed_fits_lem, standing_fits, free_given_lem, free_once_lem, free_not_standing, given_known_lem, pair_once}
use Rattle.contact_range.specs.RangeShownLaws.{EachInRange, each_in_range}
use Rattle.contact_range.specs.Checked.{Checked}
use Rattle.contact_graph.specs.EffectLaws.{contact_after, differ, same_or_not}
use Rattle.contact_graph.specs.AddedGraphLaws.{right_kept, listed_pair}
use Rattle.contact_graph.specs.Impulses.{stored_point_place, ImpulseAt, ImpulsesWritten, SameButImpulses}

-- ---- a place of a record is one contact's, one manifold's, one point's and one word's
pub same_offset : (size i k o p : ℕ) → o < size → p < size → i * size + o ≡ k * size + p → o ≡ p
same_offset size i k o p a b e =
    elim (same_or_not i k) [
      | inl q ↦ let z : i * size ≡ k * size = ap (λ (n : ℕ). n * size) q in omega arith
      | inr d ↦ absurd (elim (slots_apart 0 size i k d) [ inl z ↦ omega arith | inr z ↦ omega arith ])
    ]

pub same_word : (m n j k u v : ℕ) → j < 4 → k < 4 → u < 18 → v < 18 → stored_point_place m j + u ≡ stored_point_place n k + v → u ≡ v
same_word m n j k u v a b c d e = same_offset 18 j k u v c d (same_offset manifold_size m n (j * 18 + u) (k * 18 + v) (omega arith) (omega arith) (omega arith))

-- a list twice mapped
pub map_map {ℓ ℓ'} : {A : Type ℓ} {B : Type ℓ'} (f : A → B) (h : ℕ → A) (l : List ℕ) → map f (map h l) ≡ map (λ k. f (h k)) l
map_map f h [] = refl
map_map f h (x ∷ l) = ap (λ r. f (h x) ∷ r) (map_map f h l)

module _ {g h : List ℕ} (c : Checked g) (w : ImpulsesWritten g h) where
  pub head_kept : (j : ℕ) → j < graph_list + 2 * capacity_of g → word_at h j ≡ word_at g j
  head_kept j l = w.rest j (λ a. omega (arith, a.place, contact_after c.right a.contact))

  pub capacity_kept : capacity_of h ≡ capacity_of g
  capacity_kept = head_kept 0 (omega arith)

  pub given_kept : given_of h ≡ given_of g
  given_kept = let z = c.right.least in head_kept 1 (omega arith)

  pub listed_kept : listed_count h ≡ listed_count g
  listed_kept = let z = c.right.least in head_kept 2 (omega arith)

  pub freed_kept : free_count h ≡ free_count g
  freed_kept = let z = c.right.least in head_kept 3 (omega arith)

  pub listed_at_lem : (p : ℕ) → p < listed_count g → listed_at h p ≡ listed_at g p
  listed_at_lem p l = let n = counts c.range in head_kept (graph_list + p) (omega arith)

  pub free_at_lem : (k : ℕ) → k < free_count g → free_at h k ≡ free_at g k
  free_at_lem k l = let n = counts c.range in ap (λ (m : ℕ). word_at h (graph_list + m + k)) capacity_kept ∙ head_kept (graph_list + capacity_of g + k) (omega arith)

  -- ---- a record's words
  pub record_word : (i o : ℕ) → o < contact_size
      → ((m k v : ℕ) → m < 6 → k < 4 → 11 ≤ v → v ≤ 15 → v ≢ 12 → o ≡ stored_point_place m k + v → ⊥) → word_at h (contact_at h i + o) ≡ word_at g (contact_at g i + o)
  record_word i o l n =
      ap (λ (m : ℕ). word_at h (contact_place m i + o)) capacity_kept
      ∙ w.rest (contact_at g i + o)
      (λ a. let f = standing_fits c.range a.contact a.standing in
      let few : a.manifold < 6 = omega (arith, a.counted, f.manifolds) in
      let held : a.point < 4 = omega (arith, a.stored, f.points a.manifold a.counted) in
      n a.manifold a.point a.word few held a.least a.most a.unlike
      (same_offset contact_size i a.contact o (stored_point_place a.manifold a.point + a.word) l (omega (arith, a.most)) (omega (arith, a.place))))

  -- what stands before the manifolds, and their number
  pub first_words_lem : (i o : ℕ) → o ≤ contact_manifolds → word_at h (contact_at h i + o) ≡ word_at g (contact_at g i + o)
  first_words_lem i o l = record_word i o (omega arith) (λ m k v a b p q s e. omega arith)

  pub first_run : (i o n : ℕ) → o + n ≤ 37 → Same g (contact_at g i + o) h (contact_at h i + o) n
  first_run i o n l =
      record { each = λ j b. ap (word_at h) (add_assoc (contact_at h i) o j) ∙ first_words_lem i (o + j) (omega arith) ∙ ap (word_at g) (sym (add_assoc (contact_at g i) o j)) }

  pub own_run : (i n : ℕ) → n ≤ 37 → Same g (contact_at g i) h (contact_at h i) n
  own_run i n l = record { each = λ j b. first_words_lem i j (omega arith) }

  pub optional_kept : (i o : ℕ) → o < contact_manifolds → optional_fits bodies h (contact_at h i + o) ≡ optional_fits bodies g (contact_at g i + o)
  optional_kept i o l =
      let s = first_run i o 2 (omega arith) in
      λ j. is_mark (first_same s tt j) && cond (eqb (first_same s tt j) 1) (ltb (word_same s 1 tt j) bodies) true

  -- what stands before a manifold's points
  pub manifold_words_lem : (i m o : ℕ) → m < 6 → o < manifold_points
      → word_at h (contact_at h i + contact_manifolds + 1 + m * manifold_size + o) ≡ word_at g (contact_at g i + contact_manifolds + 1 + m * manifold_size + o)
  manifold_words_lem i m o a b =
      ap (word_at h) (let e : contact_at h i + contact_manifolds + 1 + m * manifold_size + o ≡ contact_at h i + (37 + m * manifold_size + o) = omega arith in e)
      ∙ record_word i (37 + m * manifold_size + o) (omega arith) (λ n k v p q s t u e. let z = same_offset manifold_size m n o (9 + k * 18 + v) (omega arith) (omega arith) (omega arith) in omega arith)
      ∙ ap (word_at g) (let e : contact_at g i + (37 + m * manifold_size + o) ≡ contact_at g i + contact_manifolds + 1 + m * manifold_size + o = omega arith in e)

  pub manifold_run : (i m : ℕ) → m < 6 → Same g (contact_at g i + contact_manifolds + 1 + m * manifold_size) h (contact_at h i + contact_manifolds + 1 + m * manifold_size) manifold_points
  manifold_run i m l = record { each = λ o b. manifold_words_lem i m o l b }

  -- a point's words but for the impulses
  pub point_word : (i m k u : ℕ) → m < 6 → k < 4 → u < 18 → ((11 ≤ u) → (u ≤ 15) → u ≢ 12 → ⊥)
      → word_at h (contact_at h i + contact_manifolds + 1 + m * manifold_size + manifold_points + k * point_size + u)
      ≡ word_at g (contact_at g i + contact_manifolds + 1 + m * manifold_size + manifold_points + k * point_size + u)
  point_word i m k u a b l n =
      ap (word_at h) (let e : contact_at h i + contact_manifolds + 1 + m * manifold_size + 9 + k * 18 + u ≡ contact_at h i + (stored_point_place m k + u) = omega arith in e)
      ∙ record_word i (stored_point_place m k + u) (omega arith)
      (λ m' k' v p q s t d e. let z = same_word m m' k k' u v b q l (omega arith) e in n (omega arith) (omega arith) (λ f. d (sym z ∙ f)))
      ∙ ap (word_at g) (let e : contact_at g i + (stored_point_place m k + u) ≡ contact_at g i + contact_manifolds + 1 + m * manifold_size + 9 + k * 18 + u = omega arith in e)

  -- ---- the range
  pub fitting_kept : (i : ℕ) → Fitting g (contact_at g i) → Fitting h (contact_at h i)
  fitting_kept i f =
      record {
        collider1 = omega (arith, first_same (own_run i 37 (lit≤ tt)) tt, f.collider1);
        collider2 = omega (arith, first_words_lem i 1 (omega arith), f.collider2);
        body1 = subst T (sym (optional_kept i 2 (omega arith))) f.body1;
        body2 = subst T (sym (optional_kept i 4 (omega arith))) f.body2;
        marks = λ k l. omega (arith, (first_run i 7 11 (lit≤ tt)).each k l, f.marks k l);
        cache = omega (arith, first_words_lem i contact_cache (omega arith), f.cache);
        manifolds = omega (arith, first_words_lem i contact_manifolds (omega arith), f.manifolds);
        points = λ k l. let b : k < word_at g (contact_at g i + contact_manifolds) = omega (arith, first_words_lem i contact_manifolds (omega arith)) in
            omega (arith, first_same (manifold_run i k (omega (arith, f.manifolds))) tt, f.points k b);
      }

  pub stands_kept : (i : ℕ) → stands h i ≡ stands g i
  unfolding stands
  stands_kept i = ap (any (λ p. eqb (listed_at h p) i)) listed_kept ∙ any_same (λ p. eqb (listed_at h p) i) (λ p. eqb (listed_at g p) i) (listed_count g) (λ p l. ap (λ (n : ℕ). eqb n i) (listed_at_lem p l))

  pub is_free_kept : (i : ℕ) → is_free h i ≡ is_free g i
  unfolding is_free
  is_free_kept i = ap (any (λ k. eqb (free_at h k) i)) freed_kept ∙ any_same (λ k. eqb (free_at h k) i) (λ k. eqb (free_at g k) i) (free_count g) (λ k l. ap (λ (n : ℕ). eqb n i) (free_at_lem k l))

  -- the record of a listed contact
  pub listed_word : (p o : ℕ) → p < listed_count g → o ≤ contact_manifolds → word_at h (contact_at h (listed_at h p) + o) ≡ word_at g (contact_at g (listed_at g p) + o)
  listed_word p o l b = ap (λ (i : ℕ). word_at h (contact_at h i + o)) (listed_at_lem p l) ∙ first_words_lem (listed_at g p) o b

  pub listed_first : (p : ℕ) → p < listed_count g → word_at h (contact_at h (listed_at h p)) ≡ word_at g (contact_at g (listed_at g p))
  listed_first p l = ap (word_at h) (sym (add-zero (contact_at h (listed_at h p)))) ∙ listed_word p 0 l (omega arith) ∙ ap (word_at g) (add-zero (contact_at g (listed_at g p)))

  pub pair_kept : (p q : ℕ) → p < listed_count g → q < listed_count g → same_pair h p q ≡ same_pair g p q
  unfolding same_pair
  pair_kept p q a b = λ i. same_colliders (listed_first p a i) (listed_word p 1 a (omega arith) i) (listed_first q b i) (listed_word q 1 b (omega arith) i)

  pub range_kept : EachInRange h
  range_kept =
      let r = c.range in
      let n = counts r in
      record {
        counts = record { given = omega (arith, given_kept, capacity_kept); listed = omega (arith, listed_kept, capacity_kept); freed = omega (arith, freed_kept, capacity_kept) };
        given = λ p l. let b = below p l in omega (arith, listed_at_lem p b, listed_given_lem r p b, given_kept);
        back = λ p l. let b = below p l in listed_word p 6 b (omega arith) ∙ listed_index r p b;
        contacts = λ p l. let b = below p l in subst (λ (i : ℕ). Fitting h (contact_at h i)) (sym (listed_at_lem p b)) (fitting_kept (listed_at g p) (listed_fits_lem r p b));
        freed = λ k l. let b = under k l in omega (arith, free_at_lem k b, free_given_lem r k b, given_kept);
        once = λ j k a l e. let b = under k l in let d : j < free_count g = omega arith in let z = free_once_lem r j k d b (sym (free_at_lem j d) ∙ e ∙ free_at_lem k b) in omega arith;
        apart = λ k l. let b = under k l in stands_kept (free_at h k) ∙ ap (stands g) (free_at_lem k b) ∙ free_not_standing r k b;
        known = λ i l. elim (given_known_lem r i (omega (arith, given_kept))) [ inl s ↦ inl (stands_kept i ∙ s) | inr s ↦ inr (is_free_kept i ∙ s) ];
        pairs = λ p q a l. let b = below q l in pair_kept p q (omega arith) b ∙ pair_once r p q a b;
      }
    where
      below : (p : ℕ) → p < listed_count h → p < listed_count g
      below p l = omega (arith, listed_kept)

      under : (k : ℕ) → k < free_count h → k < free_count g
      under k l = omega (arith, freed_kept)

  pub impulses_in_range : Checked h
  impulses_in_range = record { right = right_kept c.right w.size capacity_kept; range = each_in_range range_kept }

  -- ---- the plain graph
  -- where manifold m of a contact begins, and its point k
  abbrev pub manifold_of : List ℕ → ℕ → ℕ → ℕ
  manifold_of xs i m = contact_at xs i + contact_manifolds + 1 + m * manifold_size

  abbrev pub point_of : List ℕ → ℕ → ℕ → ℕ → ℕ
  point_of xs i m k = manifold_of xs i m + manifold_points + k * point_size

  -- a point's words before the impulses
  pub point_run : (i m k : ℕ) → m < 6 → k < 4 → Same g (point_of g i m k) h (point_of h i m k) 11
  point_run i m k a b = record { each = λ u l. point_word i m k u a b (omega arith) (λ s t d. omega arith) }

  pub point_stripped : (i m k : ℕ) → m < 6 → k < 4 → stripped_point (point_at h (point_of h i m k)) ≡ stripped_point (point_at g (point_of g i m k))
  unfolding point_at
  point_stripped i m k a b =
      let s = point_run i m k a b in
      let first : Same g (point_of g i m k) h (point_of h i m k) 3 = record { each = λ u l. s.each u (omega arith) } in
      λ j. record {
        anchor1 = vec3_same first j;
        anchor2 = vec3_same (same_in s 3 3 (lit≤ tt)) j;
        point = vec3_same (same_in s 6 3 (lit≤ tt)) j;
        penetration = of_bits binary32 (word_same s 9 tt j);
        base_penetration = of_bits binary32 (word_same s 10 tt j);
        normal_impulse = zero_f;
        normal_speed = of_bits binary32 (point_word i m k 12 a b (omega arith) (λ p q d. d refl) j);
        warm_start_normal = zero_f;
        warm_start_tangent = vec2 zero_f zero_f;
        feature1 = point_word i m k 16 a b (omega arith) (λ p q d. omega arith) j;
        feature2 = point_word i m k 17 a b (omega arith) (λ p q d. omega arith) j;
      }

  pub points_stripped : (i m n : ℕ) → m < 6 → n ≤ 4 → map stripped_point (points_at h (manifold_of h i m + manifold_points) n) ≡ map stripped_point (points_at g (manifold_of g i m + manifold_points) n)
  unfolding points_at
  points_stripped i m n a b =
      map_map stripped_point (λ k. point_at h (point_of h i m k)) (upto n)
      ∙ map_upto_same (λ k. stripped_point (point_at h (point_of h i m k))) (λ k. stripped_point (point_at g (point_of g i m k))) n (λ k l. point_stripped i m k a (omega arith))
      ∙ sym (map_map stripped_point (λ k. point_at g (point_of g i m k)) (upto n))

  pub manifold_stripped : (i m : ℕ) → m < 6 → word_at g (manifold_of g i m) ≤ 4 → stripped_manifold (manifold_at h (manifold_of h i m)) ≡ stripped_manifold (manifold_at g (manifold_of g i m))
  unfolding manifold_at
  manifold_stripped i m a b =
      let s = manifold_run i m a in
      λ j. record {
        points =
            (ap (λ (n : ℕ). map stripped_point (points_at h (manifold_of h i m + manifold_points) n)) (first_same s tt) ∙ points_stripped i m (word_at g (manifold_of g i m)) a b) j;
        normal = vec3_same (same_in s 1 3 (lit≤ tt)) j;
        friction = of_bits binary32 (word_same s 4 tt j);
        restitution = of_bits binary32 (word_same s 5 tt j);
        tangent_velocity = vec3_same (same_in s 6 3 (lit≤ tt)) j;
      }

  pub manifolds_stripped : (i : ℕ) → Fitting g (contact_at g i)
      → map stripped_manifold (manifolds_at h (contact_at h i + contact_manifolds)) ≡ map stripped_manifold (manifolds_at g (contact_at g i + contact_manifolds))
  unfolding manifolds_at
  manifolds_stripped i f =
      let n = word_at g (contact_at g i + contact_manifolds) in
      ap (λ (m : ℕ). map stripped_manifold (map (λ k. manifold_at h (manifold_of h i k)) (upto m))) (first_words_lem i contact_manifolds (omega arith))
      ∙ map_map stripped_manifold (λ k. manifold_at h (manifold_of h i k)) (upto n)
      ∙ map_upto_same (λ k. stripped_manifold (manifold_at h (manifold_of h i k))) (λ k. stripped_manifold (manifold_at g (manifold_of g i k))) n (λ k l. manifold_stripped i k (omega (arith, f.manifolds)) (f.points k l))
      ∙ sym (map_map stripped_manifold (λ k. manifold_at g (manifold_of g i k)) (upto n))

  pub pair_stripped : (i : ℕ) → Fitting g (contact_at g i) → stripped (pair_at h (contact_at h i) i) ≡ stripped (pair_at g (contact_at g i) i)
  unfolding stripped pair_at
  pair_stripped i f =
      λ j. record {
        names = names_same i (own_run i 6 (lit≤ tt)) j;
        edge = edge_same (first_run i 7 2 (lit≤ tt)) j;
        flags = flags_same (first_run i 9 9 (lit≤ tt)) j;
        manifolds = manifolds_stripped i f j;
        count_change = int_of (first_words_lem i 18 (lit≤ tt) j);
        speculative = of_bits binary32 (first_words_lem i 19 (lit≤ tt) j);
        cache = cache_same (first_run i contact_cache cache_size (lit≤ tt)) j;
      }

  pub impulses_graph : SameButImpulses (graph_of g) (graph_of h)
  unfolding graph_of
  impulses_graph =
      record {
        capacity = capacity_kept;
        given = given_kept;
        free = ap (λ (n : ℕ). map (free_at h) (upto n)) freed_kept ∙ map_upto_same (free_at h) (free_at g) (free_count g) free_at_lem;
        pairs =
            ap (λ (n : ℕ). map stripped (map (listed_pair h) (upto n))) listed_kept ∙ map_map stripped (listed_pair h) (upto (listed_count g))
            ∙ map_upto_same (λ p. stripped (listed_pair h p)) (λ p. stripped (listed_pair g p)) (listed_count g)
            (λ p l. ap (λ (i : ℕ). stripped (pair_at h (contact_at h i) i)) (listed_at_lem p l) ∙ pair_stripped (listed_at g p) (listed_fits_lem c.range p l))
            ∙ sym (map_map stripped (listed_pair g) (upto (listed_count g)));
      }

  -- ---- one after another
  pub impulse_back : {j : ℕ} → ImpulseAt h j → ImpulseAt g j
  impulse_back a =
      let i = a.contact in
      let s : stands g i ≡ true = sym (stands_kept i) ∙ a.standing in
      let m : a.manifold < word_at g (contact_at g i + contact_manifolds) = omega (arith, a.counted, first_words_lem i contact_manifolds (omega arith)) in
      let few : a.manifold < 6 = omega (arith, (standing_fits c.range i s).manifolds) in
      record {
        contact = i;
        manifold = a.manifold;
        point = a.point;
        word = a.word;
        standing = s;
        counted = m;
        stored = omega (arith, a.stored, first_same (manifold_run i a.manifold few) tt);
        least = a.least;
        most = a.most;
        unlike = a.unlike;
        place = a.place ∙ ap (λ (n : ℕ). contact_place n i + stored_point_place a.manifold a.point + a.word) capacity_kept;
      }

  pub impulses_then : {k : List ℕ} → ImpulsesWritten h k → ImpulsesWritten g k
  impulses_then v = record { size = v.size ∙ w.size; rest = λ j n. v.rest j (λ a. n (impulse_back a)) ∙ w.rest j n }

-- none, and one
pub impulses_none : (g : List ℕ) → ImpulsesWritten g g
impulses_none g = record { size = refl; rest = λ j n. refl }

pub impulse_put : (g : List ℕ) (j v : ℕ) → ImpulseAt g j → ImpulsesWritten g (put g j (v ∷ []))
impulse_put g j v a = record { size = length_put g j (v ∷ []); rest = λ k n. get_d_put_apart g j (v ∷ []) k 0 (other k n) }
  where
    other : (k : ℕ) → (ImpulseAt g k → ⊥) → (k < j) ⊎ (j + 1 ≤ k)
    other k n = elim (differ k j (λ e. n (subst (ImpulseAt g) (sym e) a))) [ inl l ↦ inl l | inr l ↦ inr (omega arith) ]
