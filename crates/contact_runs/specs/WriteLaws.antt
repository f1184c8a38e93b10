-- What a solver writes into a graph's words is what the plain run writes into the graph that they record, and the graph stays in range;
-- and whatever impulses are changed, some list of writes makes that change. Assumes nothing.
use Prim.Native.Nat.{ℕ, zero, suc, ◌+◌, ◌*◌, ◌≤◌, ◌<◌}
use Rattle.std.proofs.Common.{add-zero, arith, ◌∙◌, true≢false, lit≤, ext_get_or}
use Rattle.std.specs.Prelude.{◌≡◌, ◌⊎◌, ◌≢◌, Bool, cond, ◌&&◌, eqb, length}
use Rattle.std.proofs.Math.Path.{refl, sym, ap, subst}
use Rattle.std.proofs.Math.Logic.{inl, inr}
use Rattle.std.proofs.Math.Bool.{true, false}
use mathlib.Core.List.{List, [], ◌∷◌, ◌++◌, map, map-append}
use Rattle.std.proofs.Math.Dec.{ltb}
use Rattle.std.specs.Float.Ieee.{binary32, of_bits}
use borrow.Author.Tests.{ltb-true, ltb-false, lt-ltb}
use Rattle.math.specs.Vec.{vec2}
use Rattle.rows.specs.Laws.{get_d_put, get_d_put_apart}
use Rattle.rows.specs.Rows.{put}
use Rattle.rows.specs.Slots.{upto}
use Rattle.rows.specs.SlotLaws.{slots_apart, slot_fits}
use Rattle.rules.specs.Matching.{with_points}
use Rattle.rules.specs.Records.{Manifold}
use Rattle.rules.specs.Solver.{Impulse, normal_impulse, warm_start_normal_impulse, warm_start_tangent_impulse_x, warm_start_tangent_impulse_y, point_with, point_written, changed_at, manifold_written, with_manifolds, pair_written, with_pairs, plain_write, plain_writes}
use Rattle.rule_laws.specs.LookupLaws.{Test, same, other, test}
use Rattle.rule_laws.specs.SolverLaws.{changed_past}
use Rattle.words.specs.Words.{word_at}
use Rattle.manifold_records.specs.Counts.{Counted}
use Rattle.manifold_records.specs.ListLaws.{map_upto_same, length_map_upto}
use Rattle.manifold_records.specs.Recorded.{point_at, points_at, manifold_at, manifolds_at}
use Rattle.contact_records.specs.ApartLaws.{vec3_same, point_same, manifold_same, names_same, edge_same, flags_same, cache_same, pair_apart}
use Rattle.contact_records.specs.HeldLaws.{Same, same_in, word_same, first_same, same_put}
use Rattle.layout.specs.Contact.{contact_manifolds, contact_size}
use Rattle.layout.specs.Graph.{contact_place, graph_contacts}
use Rattle.layout.specs.Manifold.{manifold_points, manifold_size}
use Rattle.layout.specs.Point.{point_normal_impulse, point_normal_speed, point_size, point_warm_start_tangent_impulse}
use Rattle.contact_records.specs.Recorded.{int_of, names_at, pair_at}
use Rattle.contact_range.specs.Checked.{Checked}
use Rattle.contact_range.specs.Range.{stands}
use Rattle.contact_range.specs.RangeLaws.{first_of_lem, rest_of, listed_below, stands_at, standing_below, standing_fits}
use Rattle.contact_range.specs.Recorded.{capacity_of, listed_count, free_count, listed_at, free_at, contact_at, graph_of}
use Rattle.contact_graph.specs.AddedGraphLaws.{listed_pair, listed_counted}
use Rattle.contact_graph.specs.EffectLaws.{differ, same_or_not}
use Rattle.contact_graph.specs.ImpulseLaws.{map_map, capacity_kept, given_kept, listed_kept, freed_kept, listed_at_lem, free_at_lem, first_words_lem, manifold_run, stands_kept, impulses_in_range, impulses_then, impulses_none, impulse_put}
use Rattle.contact_graph.specs.Impulses.{stored_point_place, ImpulseAt, ImpulsesWritten}
use Rattle.contact_runs.specs.Solver.{Write, impulse_place, stored, written_place, write_word, write_words, plain_of_write}

-- ---- one element changed
module _ {ℓ} {A : Type ℓ} (f : A → A) where
  changed_next : (n : ℕ) (xs : List A) (x : A) → length xs ≢ n → changed_at n f (xs ++ x ∷ []) ≡ changed_at n f xs ++ x ∷ []
  unfolding changed_at
  changed_next zero [] x d = absurd (d refl)
  changed_next (suc n) [] x d = refl
  changed_next zero (y ∷ xs) x d = refl
  changed_next (suc n) (y ∷ xs) x d = λ j. y ∷ changed_next n xs x (λ e. d (ap suc e)) j

  changed_last : (xs : List A) (x : A) → changed_at (length xs) f (xs ++ x ∷ []) ≡ xs ++ f x ∷ []
  unfolding changed_at
  changed_last [] x = refl
  changed_last (y ∷ xs) x = λ j. y ∷ changed_last xs x j

  changed_upto : (a b : ℕ → A) (n count : ℕ) → ((k : ℕ) → k < count → k ≢ n → b k ≡ a k) → (n < count → b n ≡ f (a n)) → map b (upto count) ≡ changed_at n f (map a (upto count))
  unfolding changed_at upto
  changed_upto a b n zero others own = refl
  changed_upto a b n (suc count) others own =
      map-append b (upto count) (count ∷ [])
      ∙ elim (same_or_not count n) [
        | inl e ↦
            (λ j. map_upto_same b a count (λ k l. others k (omega arith) (λ q. omega arith)) j ++ (ap b e ∙ own (omega arith) ∙ ap (λ (k : ℕ). f (a k)) (sym e)) j ∷ [])
            ∙ sym (changed_last (map a (upto count)) (a count)) ∙ ap (λ (k : ℕ). changed_at k f (map a (upto count) ++ a count ∷ [])) (length_map_upto a count ∙ e)
        | inr d ↦
            (λ j. changed_upto a b n count (λ k l. others k (omega arith)) (λ l. own (omega arith)) j ++ others count (omega arith) d j ∷ [])
            ∙ sym (changed_next n (map a (upto count)) (a count) (λ e. d (sym (length_map_upto a count) ∙ e)))
      ]
      ∙ ap (changed_at n f) (sym (map-append a (upto count) (count ∷ [])))

-- ---- one word of a point
impulse_least : (i : Impulse) → point_normal_impulse ≤ impulse_place i
impulse_least normal_impulse = lit≤ tt
impulse_least warm_start_normal_impulse = lit≤ tt
impulse_least warm_start_tangent_impulse_x = lit≤ tt
impulse_least warm_start_tangent_impulse_y = lit≤ tt

impulse_most : (i : Impulse) → impulse_place i ≤ point_warm_start_tangent_impulse + 1
impulse_most normal_impulse = lit≤ tt
impulse_most warm_start_normal_impulse = lit≤ tt
impulse_most warm_start_tangent_impulse_x = lit≤ tt
impulse_most warm_start_tangent_impulse_y = lit≤ tt

impulse_unlike : (i : Impulse) → impulse_place i ≢ point_normal_speed
impulse_unlike normal_impulse e = omega arith
impulse_unlike warm_start_normal_impulse e = omega arith
impulse_unlike warm_start_tangent_impulse_x e = omega arith
impulse_unlike warm_start_tangent_impulse_y e = omega arith

-- a point by its words, with other impulses
point_words_lem : {g h : List ℕ} {at : ℕ} → Same g at h at 11 → word_at h (at + 12) ≡ word_at g (at + 12) → word_at h (at + 16) ≡ word_at g (at + 16) → word_at h (at + 17) ≡ word_at g (at + 17)
    → {a b x y : ℕ} → word_at h (at + 11) ≡ a → word_at h (at + 13) ≡ b → word_at h (at + 14) ≡ x → word_at h (at + 15) ≡ y
    → point_at h at ≡ point_with (point_at g at) (of_bits binary32 a) (of_bits binary32 b) (vec2 (of_bits binary32 x) (of_bits binary32 y))
unfolding point_at
point_words_lem {g} {h} {at} s speed one two normal warm tangent1 tangent2 =
    let first : Same g at h at 3 = record { each = λ u l. s.each u (omega arith) } in
    λ i. record {
      anchor1 = vec3_same first i;
      anchor2 = vec3_same (same_in s 3 3 (lit≤ tt)) i;
      point = vec3_same (same_in s 6 3 (lit≤ tt)) i;
      penetration = of_bits binary32 (word_same s 9 tt i);
      base_penetration = of_bits binary32 (word_same s 10 tt i);
      normal_impulse = of_bits binary32 (normal i);
      normal_speed = of_bits binary32 (speed i);
      warm_start_normal = of_bits binary32 (warm i);
      warm_start_tangent = record { x = of_bits binary32 (tangent1 i); y = of_bits binary32 (tangent2 i) };
      feature1 = one i;
      feature2 = two i;
    }

module _ (g : List ℕ) (at v : ℕ) where
  put_still : (o u : ℕ) → (u < o) ⊎ (o < u) → word_at (put g (at + o) (v ∷ [])) (at + u) ≡ word_at g (at + u)
  put_still o u (inl l) = get_d_put_apart g (at + o) (v ∷ []) (at + u) 0 (inl (omega arith))
  put_still o u (inr l) = get_d_put_apart g (at + o) (v ∷ []) (at + u) 0 (inr (omega arith))

  put_new : (o : ℕ) → at + o < length g → word_at (put g (at + o) (v ∷ [])) (at + o) ≡ v
  put_new o l = ap (word_at (put g (at + o) (v ∷ []))) (sym (add-zero (at + o))) ∙ get_d_put g (at + o) (v ∷ []) 0 0 (omega arith) (omega arith)

  point_put : (i : Impulse) → at + point_size ≤ length g → point_at (put g (at + impulse_place i) (v ∷ [])) at ≡ point_written i (of_bits binary32 v) (point_at g at)
  unfolding point_written point_at
  point_put normal_impulse l =
      point_words_lem (same_put g (at + 11) (v ∷ []) at 11 (inl (omega arith))) (put_still 11 12 (inr (lit≤ tt))) (put_still 11 16 (inr (lit≤ tt))) (put_still 11 17 (inr (lit≤ tt)))
      (put_new 11 (omega arith)) (put_still 11 13 (inr (lit≤ tt))) (put_still 11 14 (inr (lit≤ tt))) (put_still 11 15 (inr (lit≤ tt)))
  point_put warm_start_normal_impulse l =
      point_words_lem (same_put g (at + 13) (v ∷ []) at 11 (inl (omega arith))) (put_still 13 12 (inl (lit≤ tt))) (put_still 13 16 (inr (lit≤ tt))) (put_still 13 17 (inr (lit≤ tt)))
      (put_still 13 11 (inl (lit≤ tt))) (put_new 13 (omega arith)) (put_still 13 14 (inr (lit≤ tt))) (put_still 13 15 (inr (lit≤ tt)))
  point_put warm_start_tangent_impulse_x l =
      point_words_lem (same_put g (at + 14) (v ∷ []) at 11 (inl (omega arith))) (put_still 14 12 (inl (lit≤ tt))) (put_still 14 16 (inr (lit≤ tt))) (put_still 14 17 (inr (lit≤ tt)))
      (put_still 14 11 (inl (lit≤ tt))) (put_still 14 13 (inl (lit≤ tt))) (put_new 14 (omega arith)) (put_still 14 15 (inr (lit≤ tt)))
  point_put warm_start_tangent_impulse_y l =
      point_words_lem (same_put g (at + 15) (v ∷ []) at 11 (inl (omega arith))) (put_still 15 12 (inl (lit≤ tt))) (put_still 15 16 (inr (lit≤ tt))) (put_still 15 17 (inr (lit≤ tt)))
      (put_still 15 11 (inl (lit≤ tt))) (put_still 15 13 (inl (lit≤ tt))) (put_still 15 14 (inl (lit≤ tt))) (put_new 15 (omega arith))

-- ---- a contact's record that begins at that place, with one impulse written
module _ (g : List ℕ) (at : ℕ) (w : Write) (n : Counted g (at + contact_manifolds)) (counted : w.manifold < word_at g (at + contact_manifolds))
    (held : w.point < word_at g (at + contact_manifolds + 1 + w.manifold * manifold_size)) (room : at + contact_size ≤ length g)
    (j : ℕ) (e : j ≡ at + stored_point_place w.manifold w.point + impulse_place w.impulse) where
  abbrev written : List ℕ
  written = put g j (w.word ∷ [])

  abbrev manifold_of : ℕ → ℕ
  manifold_of m = at + contact_manifolds + 1 + m * manifold_size

  abbrev point_of : ℕ → ℕ
  point_of k = manifold_of w.manifold + manifold_points + k * point_size

  few : w.manifold < 6
  few = omega (arith, n.manifolds)

  small : w.point < 4
  small = omega (arith, n.points w.manifold counted)

  most : impulse_place w.impulse ≤ 15
  most = impulse_most w.impulse

  point_own : point_at written (point_of w.point) ≡ point_written w.impulse (of_bits binary32 w.word) (point_at g (point_of w.point))
  point_own =
      let z : j ≡ point_of w.point + impulse_place w.impulse = omega arith in
      ap (λ (p : ℕ). point_at (put g p (w.word ∷ [])) (point_of w.point)) z ∙ point_put g (point_of w.point) w.word w.impulse (omega (arith, few, small))

  point_other : (k : ℕ) → k ≢ w.point → point_at written (point_of k) ≡ point_at g (point_of k)
  point_other k d =
      point_same (same_put g j (w.word ∷ []) (point_of k) 18
      (elim (slots_apart (manifold_of w.manifold + manifold_points) 18 k w.point d) [ inl a ↦ inl (omega (arith, e)) | inr a ↦ inr (omega (arith, e, most)) ]))

  manifold_own : manifold_at written (manifold_of w.manifold) ≡ manifold_written (plain_of_write w) (manifold_at g (manifold_of w.manifold))
  unfolding manifold_at points_at
  manifold_own =
      let s : Same g (manifold_of w.manifold) written (manifold_of w.manifold) 9 = same_put g j (w.word ∷ []) (manifold_of w.manifold) 9 (inl (omega (arith, e))) in
      λ i. record {
        points =
            (ap (λ (c : ℕ). points_at written (manifold_of w.manifold + manifold_points) c) (first_same s tt)
            ∙ changed_upto (point_written w.impulse (of_bits binary32 w.word)) (λ k. point_at g (point_of k)) (λ k. point_at written (point_of k)) w.point
            (word_at g (manifold_of w.manifold)) (λ k l d. point_other k d) (λ l. point_own)) i;
        normal = vec3_same (same_in s 1 3 (lit≤ tt)) i;
        friction = of_bits binary32 (word_same s 4 tt i);
        restitution = of_bits binary32 (word_same s 5 tt i);
        tangent_velocity = vec3_same (same_in s 6 3 (lit≤ tt)) i;
      }

  manifold_other : (m : ℕ) → m < word_at g (at + contact_manifolds) → m ≢ w.manifold → manifold_at written (manifold_of m) ≡ manifold_at g (manifold_of m)
  manifold_other m l d =
      manifold_same (n.points m l) (same_put g j (w.word ∷ []) (manifold_of m) 81
      (elim (slots_apart (at + contact_manifolds + 1) 81 m w.manifold d) [ inl a ↦ inl (omega (arith, e)) | inr a ↦ inr (omega (arith, e, most, small)) ]))

  pair_own : (id : ℕ) → pair_at written at id ≡ with_manifolds (pair_at g at id) (changed_at w.manifold (manifold_written (plain_of_write w)) (pair_at g at id).manifolds)
  unfolding pair_at manifolds_at
  pair_own id =
      let s : Same g at written at 37 = same_put g j (w.word ∷ []) at 37 (inl (omega (arith, e))) in
      let first : Same g at written at 6 = record { each = λ u l. s.each u (omega arith) } in
      λ i. record {
        names = names_same id first i;
        edge = edge_same (same_in s 7 2 (lit≤ tt)) i;
        flags = flags_same (same_in s 9 9 (lit≤ tt)) i;
        manifolds =
            (ap (λ (c : ℕ). map (λ k. manifold_at written (manifold_of k)) (upto c)) (word_same s 36 tt)
            ∙ changed_upto (manifold_written (plain_of_write w)) (λ k. manifold_at g (manifold_of k)) (λ k. manifold_at written (manifold_of k)) w.manifold
            (word_at g (at + contact_manifolds)) manifold_other (λ l. manifold_own)) i;
        count_change = int_of (word_same s 18 tt i);
        speculative = of_bits binary32 (word_same s 19 tt i);
        cache = cache_same (same_in s 20 16 (lit≤ tt)) i;
      }

-- ---- a write that names a stored point
-- where the number of manifolds of its contact stands, and the number of points of its manifold
abbrev manifold_count_place : List ℕ → Write → ℕ
manifold_count_place g w = contact_at g w.contact + contact_manifolds

abbrev point_count_place : List ℕ → Write → ℕ
point_count_place g w = manifold_count_place g w + 1 + w.manifold * manifold_size

abbrev has_manifold : List ℕ → Write → Bool
has_manifold g w = ltb w.manifold (word_at g (manifold_count_place g w))

abbrev has_point : List ℕ → Write → Bool
has_point g w = ltb w.point (word_at g (point_count_place g w))

module _ (g : List ℕ) (w : Write) (e : stored g w ≡ true) where
  stored_stands : stands g w.contact ≡ true
  unfolding stored
  stored_stands = first_of_lem (stands g w.contact) (has_manifold g w && has_point g w) e

  stored_manifold : w.manifold < word_at g (manifold_count_place g w)
  unfolding stored
  stored_manifold =
      ltb-true w.manifold (word_at g (manifold_count_place g w)) (first_of_lem (has_manifold g w) (has_point g w) (rest_of (stands g w.contact) (has_manifold g w && has_point g w) e))

  stored_point : w.point < word_at g (point_count_place g w)
  unfolding stored
  stored_point = ltb-true w.point (word_at g (point_count_place g w)) (rest_of (has_manifold g w) (has_point g w) (rest_of (stands g w.contact) (has_manifold g w && has_point g w) e))

  stored_at : ImpulseAt g (written_place g w)
  stored_at =
      record {
        contact = w.contact;
        manifold = w.manifold;
        point = w.point;
        word = impulse_place w.impulse;
        standing = stored_stands;
        counted = stored_manifold;
        stored = stored_point;
        least = impulse_least w.impulse;
        most = impulse_most w.impulse;
        unlike = impulse_unlike w.impulse;
        place = refl;
      }

  stored_written : ImpulsesWritten g (put g (written_place g w) (w.word ∷ []))
  stored_written = impulse_put g (written_place g w) w.word stored_at

module _ {g : List ℕ} (c : Checked g) (w : Write) (e : stored g w ≡ true) where
  abbrev after : List ℕ
  after = put g (written_place g w) (w.word ∷ [])

  -- the impulse stands in the contact's record
  stored_in : stored_point_place w.manifold w.point + impulse_place w.impulse < contact_size
  stored_in =
      let f = standing_fits c.range w.contact (stored_stands g w e) in
      let m = stored_manifold g w e in
      omega (arith, f.manifolds, f.points w.manifold m, stored_point g w e, impulse_most w.impulse)

  -- the pair with that id is written, every other one is as it was
  stored_pair : (p : ℕ) → p < listed_count g → (b : Bool) → Test (listed_at g p) w.contact b
      → pair_at after (contact_at g (listed_at g p)) (listed_at g p)
      ≡ cond b (with_manifolds (listed_pair g p) (changed_at w.manifold (manifold_written (plain_of_write w)) (listed_pair g p).manifolds)) (listed_pair g p)
  stored_pair p l true (same q) =
      let room : contact_at g (listed_at g p) + 523 ≤ length g =
      slot_fits (graph_contacts (capacity_of g)) 523 (capacity_of g) (listed_at g p) (length g) (listed_below c.range p l) (omega (arith, c.right.size)) in
      pair_own g (contact_at g (listed_at g p)) w (listed_counted c.range p l)
      (subst (λ (i : ℕ). w.manifold < word_at g (contact_at g i + contact_manifolds)) (sym q) (stored_manifold g w e))
      (subst (λ (i : ℕ). w.point < word_at g (contact_at g i + contact_manifolds + 1 + w.manifold * manifold_size)) (sym q) (stored_point g w e))
      room (written_place g w) (ap (λ (i : ℕ). contact_at g i + stored_point_place w.manifold w.point + impulse_place w.impulse) (sym q)) (listed_at g p)
  stored_pair p l false (other d) =
      pair_apart g (written_place g w) (w.word ∷ []) (contact_at g (listed_at g p)) (listed_at g p) (listed_counted c.range p l)
      (elim (slots_apart (graph_contacts (capacity_of g)) 523 (listed_at g p) w.contact d) [
        | inl a ↦ inl (omega arith)
        | inr a ↦ inr (omega (arith, stored_in))
      ])

  stored_listed : (p : ℕ) → p < listed_count g → listed_pair after p ≡ pair_written (plain_of_write w) (listed_pair g p)
  unfolding pair_written pair_at names_at
  stored_listed p l =
      ap (λ (i : ℕ). pair_at after (contact_at after i) i) (listed_at_lem c (stored_written g w e) p l)
      ∙ ap (λ (n : ℕ). pair_at after (contact_place n (listed_at g p)) (listed_at g p)) (capacity_kept c (stored_written g w e))
      ∙ stored_pair p l (eqb (listed_at g p) w.contact) (test (listed_at g p) w.contact)

  stored_mean : graph_of after ≡ plain_write (plain_of_write w) (graph_of g)
  unfolding graph_of
  stored_mean =
      let v = stored_written g w e in
      λ i. record {
        capacity = capacity_kept c v i;
        given = given_kept c v i;
        free = (ap (λ (n : ℕ). map (free_at after) (upto n)) (freed_kept c v) ∙ map_upto_same (free_at after) (free_at g) (free_count g) (free_at_lem c v)) i;
        pairs =
            (ap (λ (n : ℕ). map (listed_pair after) (upto n)) (listed_kept c v)
            ∙ map_upto_same (listed_pair after) (λ p. pair_written (plain_of_write w) (listed_pair g p)) (listed_count g) stored_listed
            ∙ sym (map_map (pair_written (plain_of_write w)) (listed_pair g) (upto (listed_count g)))) i;
      }

-- ---- a write that names none
third_of : (a b d : Bool) → a && (b && d) ≡ false → a ≡ true → b ≡ true → d ≡ false
third_of true true d e p q = e
third_of true false d e p q = absurd (true≢false (sym q))
third_of false b d e p q = absurd (true≢false (sym p))

module _ (g : List ℕ) (w : Write) (e : stored g w ≡ false) where
  none_held : stands g w.contact ≡ true → has_manifold g w ≡ true → word_at g (point_count_place g w) ≤ w.point
  unfolding stored
  none_held s m = ltb-false w.point (word_at g (point_count_place g w)) (third_of (stands g w.contact) (has_manifold g w) (has_point g w) e s m)

  -- of a standing contact: the manifold has no such point, or the contact no such manifold
  none_manifold : word_at g (point_count_place g w) ≤ w.point → manifold_at g (point_count_place g w) ≡ manifold_written (plain_of_write w) (manifold_at g (point_count_place g w))
  unfolding manifold_at points_at
  none_manifold n =
      let at = point_count_place g w in
      ap (with_points (manifold_at g at))
      (sym (changed_past (point_written w.impulse (of_bits binary32 w.word)) w.point (points_at g (at + manifold_points) (word_at g at))
      (omega (arith, length_map_upto (λ k. point_at g (at + manifold_points + k * point_size)) (word_at g at)))))

  none_manifolds : stands g w.contact ≡ true → (t : Bool) → has_manifold g w ≡ t
      → manifolds_at g (manifold_count_place g w) ≡ changed_at w.manifold (manifold_written (plain_of_write w)) (manifolds_at g (manifold_count_place g w))
  unfolding manifolds_at
  none_manifolds s true m =
      let each : ℕ → Manifold = λ k. manifold_at g (manifold_count_place g w + 1 + k * manifold_size) in
      changed_upto (manifold_written (plain_of_write w)) each each w.manifold (word_at g (manifold_count_place g w)) (λ k l d. refl) (λ l. none_manifold (none_held s m))
  none_manifolds s false m =
      let n = ltb-false w.manifold (word_at g (manifold_count_place g w)) m in
      sym (changed_past (manifold_written (plain_of_write w)) w.manifold (manifolds_at g (manifold_count_place g w))
      (omega (arith, length_map_upto (λ k. manifold_at g (manifold_count_place g w + 1 + k * manifold_size)) (word_at g (manifold_count_place g w)))))

  none_pair : (p : ℕ) → p < listed_count g → (b : Bool) → Test (listed_at g p) w.contact b
      → listed_pair g p ≡ cond b (with_manifolds (listed_pair g p) (changed_at w.manifold (manifold_written (plain_of_write w)) (listed_pair g p).manifolds)) (listed_pair g p)
  unfolding pair_at
  none_pair p l true (same q) =
      ap (with_manifolds (listed_pair g p))
      (subst (λ (i : ℕ). manifolds_at g (contact_at g i + contact_manifolds)
      ≡ changed_at w.manifold (manifold_written (plain_of_write w)) (manifolds_at g (contact_at g i + contact_manifolds))) (sym q)
      (none_manifolds (ap (stands g) (sym q) ∙ stands_at g p l) (has_manifold g w) refl))
  none_pair p l false (other d) = refl

  none_listed : (p : ℕ) → p < listed_count g → listed_pair g p ≡ pair_written (plain_of_write w) (listed_pair g p)
  unfolding pair_written pair_at names_at
  none_listed p l = none_pair p l (eqb (listed_at g p) w.contact) (test (listed_at g p) w.contact)

  none_mean : graph_of g ≡ plain_write (plain_of_write w) (graph_of g)
  unfolding graph_of
  none_mean =
      ap (with_pairs (graph_of g))
      (map_upto_same (listed_pair g) (λ p. pair_written (plain_of_write w) (listed_pair g p)) (listed_count g) none_listed
      ∙ sym (map_map (pair_written (plain_of_write w)) (listed_pair g) (upto (listed_count g))))

-- ---- any write
write_impulses : (g : List ℕ) (w : Write) → ImpulsesWritten g (write_word g w)
unfolding write_word
write_impulses g w = go (stored g w) refl
  where
    go : (b : Bool) → stored g w ≡ b → ImpulsesWritten g (cond b (put g (written_place g w) (w.word ∷ [])) g)
    go true e = stored_written g w e
    go false e = impulses_none g

write_mean : {g : List ℕ} → Checked g → (w : Write) → graph_of (write_word g w) ≡ plain_write (plain_of_write w) (graph_of g)
unfolding write_word
write_mean {g} c w = go (stored g w) refl
  where
    go : (b : Bool) → stored g w ≡ b → graph_of (cond b (put g (written_place g w) (w.word ∷ [])) g) ≡ plain_write (plain_of_write w) (graph_of g)
    go true e = stored_mean c w e
    go false e = none_mean g w e

-- ---- one after another
pub writes_impulses : {g : List ℕ} → Checked g → (ws : List Write) → ImpulsesWritten g (write_words g ws)
unfolding write_words
writes_impulses {g} c [] = impulses_none g
writes_impulses {g} c (w ∷ ws) = impulses_then c (write_impulses g w) (writes_impulses {g = write_word g w} (impulses_in_range c (write_impulses g w)) ws)

pub writes_checked : {g : List ℕ} → Checked g → (ws : List Write) → Checked (write_words g ws)
writes_checked c ws = impulses_in_range c (writes_impulses c ws)

pub writes_mean : {g : List ℕ} → Checked g → (ws : List Write) → graph_of (write_words g ws) ≡ plain_writes (map plain_of_write ws) (graph_of g)
unfolding write_words plain_writes
writes_mean c [] = refl
writes_mean {g} c (w ∷ ws) = writes_mean {g = write_word g w} (impulses_in_range c (write_impulses g w)) ws ∙ ap (plain_writes (map plain_of_write ws)) (write_mean c w)

-- ---- and every change of impulses is a list of writes
data Among (v : Write) : List Write → Type 0 where
  here : (vs : List Write) → Among v (v ∷ vs)
  there : (u : Write) (vs : List Write) → Among v vs → Among v (u ∷ vs)

among_left : {v : Write} {us : List Write} (vs : List Write) → Among v us → Among v (us ++ vs)
among_left vs (here us) = here (us ++ vs)
among_left vs (there u us a) = there u (us ++ vs) (among_left vs a)

among_right : {v : Write} (us : List Write) {vs : List Write} → Among v vs → Among v (us ++ vs)
among_right [] a = a
among_right (u ∷ us) {vs} a = there u (us ++ vs) (among_right us a)

-- what f lists for each number below n
each : ℕ → (ℕ → List Write) → List Write
each zero f = []
each (suc n) f = each n f ++ f n

among_each : {v : Write} (n : ℕ) (f : ℕ → List Write) (k : ℕ) → k < n → Among v (f k) → Among v (each n f)
unfolding each
among_each zero f k l a = absurd (omega arith)
among_each {v} (suc n) f k l a =
    elim (same_or_not k n) [
      | inl e ↦ among_right (each n f) (subst (λ (i : ℕ). Among v (f i)) e a)
      | inr d ↦ among_left (f n) (among_each n f k (omega arith) a)
    ]

-- a write of a point's impulse, its word still to come
abbrev named : ℕ → ℕ → ℕ → Impulse → Write
named i m k p = record { contact = i; manifold = m; point = k; impulse = p; word = 0 }

abbrev point_named : ℕ → ℕ → ℕ → List Write
point_named i m k = named i m k normal_impulse ∷ named i m k warm_start_normal_impulse ∷ named i m k warm_start_tangent_impulse_x ∷ named i m k warm_start_tangent_impulse_y ∷ []

abbrev all_named : ℕ → List Write
all_named capacity = each capacity (λ i. each 6 (λ m. each 4 (λ k. point_named i m k)))

among_point : (i m k : ℕ) (p : Impulse) → Among (named i m k p) (point_named i m k)
among_point i m k normal_impulse = here _
among_point i m k warm_start_normal_impulse = there _ _ (here _)
among_point i m k warm_start_tangent_impulse_x = there _ _ (there _ _ (here _))
among_point i m k warm_start_tangent_impulse_y = there _ _ (there _ _ (there _ _ (here _)))

among_all : (capacity i m k : ℕ) (p : Impulse) → i < capacity → m < 6 → k < 4 → Among (named i m k p) (all_named capacity)
among_all capacity i m k p a b l =
    among_each capacity (λ i. each 6 (λ m. each 4 (λ k. point_named i m k))) i a
    (among_each 6 (λ m. each 4 (λ k. point_named i m k)) m b (among_each 4 (λ k. point_named i m k) k l (among_point i m k p)))

impulse_of : (u : ℕ) → point_normal_impulse ≤ u → u ≤ point_warm_start_tangent_impulse + 1 → u ≢ point_normal_speed → (p : Impulse) × (u ≡ impulse_place p)
impulse_of u a b d =
    elim (differ u 12 d) [
      | inl l ↦ (normal_impulse, omega arith)
      | inr l ↦
          elim (same_or_not u 13) [
            | inl e ↦ (warm_start_normal_impulse, e)
            | inr x ↦
                elim (same_or_not u 14) [
                  | inl e ↦ (warm_start_tangent_impulse_x, e)
                  | inr y ↦ (warm_start_tangent_impulse_y, elim (differ u 13 x) [ inl k ↦ omega arith | inr k ↦ elim (differ u 14 y) [ inl m ↦ omega arith | inr m ↦ omega arith ] ])
                ]
          ]
    ]

module _ {g h : List ℕ} (c : Checked g) (w : ImpulsesWritten g h) where
  -- with the word that h has at its place
  abbrev filled : Write → Write
  filled v = record { contact = v.contact; manifold = v.manifold; point = v.point; impulse = v.impulse; word = word_at h (written_place g v) }

  module _ {r : List ℕ} (t : ImpulsesWritten g r) where
    place_kept : (v : Write) → written_place r v ≡ written_place g v
    place_kept v = ap (λ (n : ℕ). contact_place n v.contact + stored_point_place v.manifold v.point + impulse_place v.impulse) (capacity_kept c t)

    stored_kept : (v : Write) → stored g v ≡ true → stored r (filled v) ≡ true
    unfolding stored
    stored_kept v e =
        let few : v.manifold < 6 = omega (arith, (standing_fits c.range v.contact (stored_stands g v e)).manifolds, stored_manifold g v e) in
        (λ i. stands_kept c t v.contact i
        && (ltb v.manifold (first_words_lem c t v.contact contact_manifolds (omega arith) i) && ltb v.point (first_same (manifold_run c t v.contact v.manifold few) tt i)))
        ∙ e

    -- a stored write leaves h's word at its place
    filled_new : (v : Write) → stored r (filled v) ≡ true → word_at (put r (written_place r v) (word_at h (written_place g v) ∷ [])) (written_place r v) ≡ word_at h (written_place r v)
    filled_new v e =
        let k = impulses_in_range c t in
        let room : contact_at r v.contact + 523 ≤ length r =
        slot_fits (graph_contacts (capacity_of r)) 523 (capacity_of r) v.contact (length r) (standing_below k.range v.contact (stored_stands r (filled v) e)) (omega (arith, k.right.size)) in
        put_new r (contact_at r v.contact + stored_point_place v.manifold v.point) (word_at h (written_place g v)) (impulse_place v.impulse) (omega (arith, stored_in k (filled v) e))
        ∙ ap (word_at h) (sym (place_kept v))

    filled_own : (v : Write) → stored g v ≡ true → word_at (write_word r (filled v)) (written_place g v) ≡ word_at h (written_place g v)
    unfolding write_word
    filled_own v s =
        let e = stored_kept v s in
        ap (λ (b : Bool). word_at (cond b (put r (written_place r v) (word_at h (written_place g v) ∷ [])) r) (written_place g v)) e
        ∙ subst (λ (j : ℕ). word_at (put r (written_place r v) (word_at h (written_place g v) ∷ [])) j ≡ word_at h j) (place_kept v) (filled_new v e)

    -- and a word that is h's stays so
    filled_keeps : (v : Write) (j : ℕ) → word_at r j ≡ word_at h j → word_at (write_word r (filled v)) j ≡ word_at h j
    unfolding write_word
    filled_keeps v j q = go (stored r (filled v)) refl
      where
        go : (b : Bool) → stored r (filled v) ≡ b → word_at (cond b (put r (written_place r v) (word_at h (written_place g v) ∷ [])) r) j ≡ word_at h j
        go true e =
            elim (same_or_not (written_place r v) j) [
              | inl s ↦ subst (λ (k : ℕ). word_at (put r (written_place r v) (word_at h (written_place g v) ∷ [])) k ≡ word_at h k) s (filled_new v e)
              | inr d ↦
                  get_d_put_apart r (written_place r v) (word_at h (written_place g v) ∷ []) j 0 (elim (differ j (written_place r v) (λ s. d (sym s))) [ inl l ↦ inl l | inr l ↦ inr (omega arith) ])
                  ∙ q
            ]
        go false e = q

    filled_impulses : (v : Write) → ImpulsesWritten g (write_word r (filled v))
    filled_impulses v = impulses_then c t (write_impulses r (filled v))

  all_keep : (vs : List Write) {r : List ℕ} → ImpulsesWritten g r → (j : ℕ) → word_at r j ≡ word_at h j → word_at (write_words r (map filled vs)) j ≡ word_at h j
  unfolding write_words
  all_keep [] t j q = q
  all_keep (v ∷ vs) t j q = all_keep vs (filled_impulses t v) j (filled_keeps t v j q)

  all_own : {v : Write} {vs : List Write} → Among v vs → {r : List ℕ} → ImpulsesWritten g r → stored g v ≡ true → word_at (write_words r (map filled vs)) (written_place g v) ≡ word_at h (written_place g v)
  unfolding write_words
  all_own {v} (here vs) t s = all_keep vs (filled_impulses t v) (written_place g v) (filled_own t v s)
  all_own (there u vs a) t s = all_own a (filled_impulses t u) s

  abbrev all_writes : List Write
  all_writes = map filled (all_named (capacity_of g))

  impulse_written : (j : ℕ) → ImpulseAt g j → word_at (write_words g all_writes) j ≡ word_at h j
  unfolding stored
  impulse_written j a =
      let i = a.contact in
      let f = standing_fits c.range i a.standing in
      let p = impulse_of a.word a.least a.most a.unlike in
      let few : a.manifold < 6 = omega (arith, a.counted, f.manifolds) in
      let held : a.point < 4 = omega (arith, a.stored, f.points a.manifold a.counted) in
      let v : Write = named i a.manifold a.point p.0 in
      let s : stored g v ≡ true = λ k. a.standing k && (lt-ltb a.manifold (word_at g (manifold_count_place g v)) a.counted k && lt-ltb a.point (word_at g (point_count_place g v)) a.stored k) in
      subst (λ (k : ℕ). word_at (write_words g all_writes) k ≡ word_at h k) (sym (a.place ∙ ap (λ (u : ℕ). contact_at g i + stored_point_place a.manifold a.point + u) p.1))
      (all_own (among_all (capacity_of g) i a.manifold a.point p.0 (standing_below c.range i a.standing) few held) (impulses_none g) s)

  all_written : write_words g all_writes ≡ h
  all_written = ext_get_or 0 (write_words g all_writes) h ((writes_impulses c all_writes).size ∙ sym w.size) (λ j l. at j)
    where
      at : (j : ℕ) → word_at (write_words g all_writes) j ≡ word_at h j
      at j =
          elim (same_or_not (word_at (write_words g all_writes) j) (word_at h j)) [
            | inl e ↦ e
            | inr d ↦ all_keep (all_named (capacity_of g)) (impulses_none g) j (sym (w.rest j (λ a. d (impulse_written j a))))
          ]

pub impulses_writes : {g h : List ℕ} → Checked g → ImpulsesWritten g h → (ws : List Write) × (write_words g ws ≡ h)
impulses_writes c w = (all_writes c w, all_written c w)
