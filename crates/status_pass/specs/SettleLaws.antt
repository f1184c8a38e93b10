-- What the status pass writes into a record of the right length: the rules' next pair, and a record in range. Assumes nothing.
use Rattle.std.specs.Prelude.{ℕ, ◌+◌, ◌*◌, ◌≤◌, ◌<◌, ◌≡◌, refl, ◌≢◌, Bool, true, cond, not, ◌&&◌, T, ltb, length, Some}
use Rattle.std.proofs.Common.{add-zero, add_assoc, arith, sym, subst, ◌∙◌, inl, inr, lit≤}
use Rattle.std.proofs.Math.Path.{ap}
use mathlib.Core.List.{List, [], ◌∷◌, map}
use Rattle.std.proofs.Math.Dec.{eqb}
use Rattle.std.specs.Float.Ieee.{binary32, of_bits}
use Rattle.rows.specs.Rows.{put}
use Rattle.rows.specs.Slots.{upto}
use Rattle.rows.specs.Laws.{length_put, get_d_put, get_d_put_apart}
use Rattle.rules.specs.Limits.{bodies}
use Rattle.rules.specs.Status.{with_status, with_status_marks, Verdict, vanishes, starts, stops, generates, recounts, persists, next}
use Rattle.words.specs.Words.{word_at}
use Rattle.manifold_records.specs.ListLaws.{map_upto_same}
use Rattle.manifold_records.specs.Recorded.{points_at, manifold_at, manifolds_at}
use Rattle.contact_records.specs.ApartLaws.{vec3_same, point_same, names_same, cache_same}
use Rattle.contact_records.specs.HeldLaws.{Same, same_in, first_same}
use Rattle.layout.specs.Contact.{cache_size, contact_cache, contact_count_change, contact_edge_flags, contact_flags, contact_manifolds, contact_size, edge_touching}
use Rattle.contact_records.specs.Recorded.{int_of, flags_at, edge_at, pair_at}
use Rattle.contact_range.specs.Range.{optional_fits}
use Rattle.contact_range.specs.RangeLaws.{Fitting}
use Rattle.contact_graph.specs.EffectLaws.{differ, same_or_not}
use Rattle.status_pass.specs.Settled.{started_place, stopped_place, generating_place, started_words, stopped_words, settled_words}
use Rattle.layout.specs.Manifold.{manifold_size}
use Rattle.layout.specs.Point.{point_size}

-- ---- one word stored
pub put_other : (w : List ℕ) (at x o : ℕ) → o ≢ at → word_at (put w at (x ∷ [])) o ≡ word_at w o
put_other w at x o n = get_d_put_apart w at (x ∷ []) o 0 (elim (differ o at n) [ inl l ↦ inl l | inr l ↦ inr (omega arith) ])

pub put_own : (w : List ℕ) (at x : ℕ) → at < length w → word_at (put w at (x ∷ [])) at ≡ x
put_own w at x h = ap (word_at (put w at (x ∷ []))) (sym (add-zero at)) ∙ get_d_put w at (x ∷ []) 0 0 (omega arith) (omega arith)

length_one : (w : List ℕ) (at x : ℕ) → length (put w at (x ∷ [])) ≡ length w
length_one w at x = length_put w at (x ∷ [])

pub settled_length : (v : Verdict) (w : List ℕ) → length (settled_words v w) ≡ length w
unfolding settled_words
settled_length vanishes w = refl
settled_length starts w =
    length_one (put (put w contact_edge_flags (1 ∷ [])) started_place (0 ∷ [])) generating_place 0
    ∙ length_one (put w contact_edge_flags (1 ∷ [])) started_place 0 ∙ length_one w contact_edge_flags 1
settled_length stops w = length_one (put w contact_edge_flags (0 ∷ [])) stopped_place 0 ∙ length_one w contact_edge_flags 0
settled_length generates w = length_one w generating_place 0
settled_length recounts w = length_one w contact_count_change 0
settled_length persists w = refl

-- ---- the words that stay
pub record Untouched (o : ℕ) : Type 0 where
  pub edge : o ≢ contact_edge_flags
  pub began : o ≢ started_place
  pub ceased : o ≢ stopped_place
  pub generating : o ≢ generating_place
  pub change : o ≢ contact_count_change

pub before_marks : (o : ℕ) → o < contact_edge_flags → Untouched o
before_marks o h = record { edge = omega arith; began = omega arith; ceased = omega arith; generating = omega arith; change = omega arith }

pub after_marks : (o : ℕ) → contact_count_change < o → Untouched o
after_marks o h = record { edge = omega arith; began = omega arith; ceased = omega arith; generating = omega arith; change = omega arith }

-- at a numeral, by a test
abbrev untouched : ℕ → Bool
untouched o = not (eqb o edge_touching) && (not (eqb o started_place) && (not (eqb o stopped_place) && (not (eqb o generating_place) && not (eqb o contact_count_change))))

by_test : (o : ℕ) → T (untouched o) → Untouched o
by_test o t =
    let no : (k : ℕ) → o ≡ k → T (untouched k) = λ k e. subst (λ (m : ℕ). T (untouched m)) e t in
    record { edge = no edge_touching; began = no started_place; ceased = no stopped_place; generating = no generating_place; change = no contact_count_change }

pub settled_word : (v : Verdict) (w : List ℕ) (o : ℕ) → Untouched o → word_at (settled_words v w) o ≡ word_at w o
unfolding settled_words
settled_word vanishes w o u = refl
settled_word starts w o u =
    put_other (put (put w contact_edge_flags (1 ∷ [])) started_place (0 ∷ [])) generating_place 0 o u.generating
    ∙ put_other (put w contact_edge_flags (1 ∷ [])) started_place 0 o u.began ∙ put_other w contact_edge_flags 1 o u.edge
settled_word stops w o u = put_other (put w contact_edge_flags (0 ∷ [])) stopped_place 0 o u.ceased ∙ put_other w contact_edge_flags 0 o u.edge
settled_word generates w o u = put_other w generating_place 0 o u.generating
settled_word recounts w o u = put_other w contact_count_change 0 o u.change
settled_word persists w o u = refl

-- ---- the pair
-- points, manifolds and their lists where all further words are the same, whatever the counts
module _ (xs ys : List ℕ) where
  points_alike : (at n : ℕ) → ((o : ℕ) → word_at ys (at + o) ≡ word_at xs (at + o)) → points_at ys at n ≡ points_at xs at n
  unfolding points_at
  points_alike at n s = map_upto_same _ _ n (λ k h. point_same (record { each = λ i l. further (k * point_size) i }))
    where
      further : (a i : ℕ) → word_at ys (at + a + i) ≡ word_at xs (at + a + i)
      further a i = ap (word_at ys) (add_assoc at a i) ∙ s (a + i) ∙ ap (word_at xs) (sym (add_assoc at a i))

  manifold_alike : (at : ℕ) → ((o : ℕ) → word_at ys (at + o) ≡ word_at xs (at + o)) → manifold_at ys at ≡ manifold_at xs at
  unfolding manifold_at
  manifold_alike at s =
      let own : Same xs at ys at 9 = record { each = λ i l. s i } in
      let after : (o : ℕ) → word_at ys (at + 9 + o) ≡ word_at xs (at + 9 + o) = λ o. ap (word_at ys) (add_assoc at 9 o) ∙ s (9 + o) ∙ ap (word_at xs) (sym (add_assoc at 9 o)) in
      λ i. record {
        points = (ap (points_at ys (at + 9)) (first_same own tt) ∙ points_alike (at + 9) (word_at xs at) after) i;
        normal = vec3_same (same_in own 1 3 (lit≤ tt)) i;
        friction = of_bits binary32 (s 4 i);
        restitution = of_bits binary32 (s 5 i);
        tangent_velocity = vec3_same (same_in own 6 3 (lit≤ tt)) i;
      }

  manifolds_alike : (at : ℕ) → ((o : ℕ) → at ≤ o → word_at ys o ≡ word_at xs o) → manifolds_at ys at ≡ manifolds_at xs at
  unfolding manifolds_at
  manifolds_alike at s =
      ap (λ (n : ℕ). map (λ (k : ℕ). manifold_at ys (at + 1 + k * manifold_size)) (upto n)) (s at (omega arith))
      ∙ map_upto_same _ _ (word_at xs at) (λ k h. manifold_alike (at + 1 + k * manifold_size) (λ o. s (at + 1 + k * manifold_size + o) (omega arith)))

-- a record that differs at the marks and the count change alone
module _ (w h : List ℕ) (same : (o : ℕ) → Untouched o → word_at h o ≡ word_at w o) where
  at : (o : ℕ) → T (untouched o) → word_at h o ≡ word_at w o
  at o t = same o (by_test o t)

  flags_marked : {a b c : ℕ} → word_at h started_place ≡ a → word_at h stopped_place ≡ b → word_at h generating_place ≡ c → flags_at h contact_flags ≡ with_status_marks (flags_at w contact_flags) (eqb a 1) (eqb b 1) (eqb c 1)
  unfolding flags_at
  flags_marked p q r =
      λ i. record {
        touching = eqb (at 9 tt i) 1;
        disjoint_aabb = eqb (at 10 tt i) 1;
        started_touching = eqb (p i) 1;
        stopped_touching = eqb (q i) 1;
        generate_constraints = eqb (at 13 tt i) 1;
        started_generating = eqb (r i) 1;
        static1 = eqb (at 15 tt i) 1;
        static2 = eqb (at 16 tt i) 1;
        modify_contacts = eqb (at 17 tt i) 1;
      }

  pair_marked : (id : ℕ) {t a b c d : ℕ} → word_at h edge_touching ≡ t → word_at h started_place ≡ a → word_at h stopped_place ≡ b → word_at h generating_place ≡ c → word_at h contact_count_change ≡ d
      → pair_at h 0 id ≡ with_status (pair_at w 0 id) (eqb t 1) (with_status_marks (flags_at w contact_flags) (eqb a 1) (eqb b 1) (eqb c 1)) (int_of d)
  unfolding pair_at edge_at
  pair_marked id e p q r n =
      let named : Same w 0 h 0 6 = record { each = λ o l. same (0 + o) (before_marks (0 + o) (omega arith)) } in
      let cached : Same w contact_cache h contact_cache cache_size = record { each = λ o l. same (contact_cache + o) (after_marks (contact_cache + o) (omega arith)) } in
      λ i. record {
        names = names_same id named i;
        edge = record { touching = eqb (e i) 1; contact_events = eqb (at 8 tt i) 1 };
        flags = flags_marked p q r i;
        manifolds = manifolds_alike w h contact_manifolds (λ o l. same o (after_marks o (omega arith))) i;
        count_change = int_of (n i);
        speculative = of_bits binary32 (at 19 tt i);
        cache = cache_same cached i;
      }

-- what becomes of a pair that stays
pub settled_pair : (v : Verdict) (w : List ℕ) (id : ℕ) → length w ≡ contact_size → (v ≡ vanishes → ⊥) → next v (pair_at w 0 id) ≡ Some (pair_at (settled_words v w) 0 id)
unfolding settled_words pair_at flags_at edge_at
settled_pair vanishes w id l n = absurd (n refl)
settled_pair starts w id l n =
    let a = put w edge_touching (1 ∷ []) in
    let b = put a started_place (0 ∷ []) in
    let la = length_one w edge_touching 1 in
    let lb = length_one a started_place 0 in
    let past : (o : ℕ) → o ≢ edge_touching → o ≢ started_place → o ≢ generating_place → word_at (started_words w) o ≡ word_at w o = λ o p q r. put_other b generating_place 0 o r ∙ put_other a started_place 0 o q ∙ put_other w edge_touching 1 o p in
    ap Some
    (sym (pair_marked w (started_words w) (settled_word starts w) id
    (put_other b generating_place 0 edge_touching (omega arith) ∙ put_other a started_place 0 edge_touching (omega arith) ∙ put_own w edge_touching 1 (omega arith))
    (put_other b generating_place 0 started_place (omega arith) ∙ put_own a started_place 0 (omega arith))
    (past stopped_place (omega arith) (omega arith) (omega arith))
    (put_own b generating_place 0 (omega arith))
    (past contact_count_change (omega arith) (omega arith) (omega arith))))
settled_pair stops w id l n =
    let a = put w edge_touching (0 ∷ []) in
    let la = length_one w edge_touching 0 in
    let past : (o : ℕ) → o ≢ edge_touching → o ≢ stopped_place → word_at (stopped_words w) o ≡ word_at w o = λ o p q. put_other a stopped_place 0 o q ∙ put_other w edge_touching 0 o p in
    ap Some
    (sym (pair_marked w (stopped_words w) (settled_word stops w) id
    (put_other a stopped_place 0 edge_touching (omega arith) ∙ put_own w edge_touching 0 (omega arith))
    (past started_place (omega arith) (omega arith))
    (put_own a stopped_place 0 (omega arith))
    (past generating_place (omega arith) (omega arith))
    (past contact_count_change (omega arith) (omega arith))))
settled_pair generates w id l n =
    let past : (o : ℕ) → o ≢ generating_place → word_at (put w generating_place (0 ∷ [])) o ≡ word_at w o = put_other w generating_place 0 in
    ap Some
    (sym (pair_marked w (put w generating_place (0 ∷ [])) (settled_word generates w) id
    (past edge_touching (omega arith)) (past started_place (omega arith)) (past stopped_place (omega arith)) (put_own w generating_place 0 (omega arith)) (past contact_count_change (omega arith))))
settled_pair recounts w id l n =
    let past : (o : ℕ) → o ≢ contact_count_change → word_at (put w contact_count_change (0 ∷ [])) o ≡ word_at w o = put_other w contact_count_change 0 in
    ap Some
    (sym (pair_marked w (put w contact_count_change (0 ∷ [])) (settled_word recounts w) id
    (past edge_touching (omega arith)) (past started_place (omega arith)) (past stopped_place (omega arith)) (past generating_place (omega arith)) (put_own w contact_count_change 0 (omega arith))))
settled_pair persists w id l n = refl

-- ---- the range
-- a mark stays 0 or 1
put_mark : (w : List ℕ) (at x o : ℕ) → at < length w → x < 2 → word_at w o < 2 → word_at (put w at (x ∷ [])) o < 2
put_mark w at x o b h m =
    elim (same_or_not o at) [
      | inl e ↦ subst (λ (k : ℕ). word_at (put w at (x ∷ [])) k < 2) (sym e) (let z = put_own w at x b in omega arith)
      | inr n ↦ let z = put_other w at x o n in omega arith
    ]

pub settled_mark : (v : Verdict) (w : List ℕ) (o : ℕ) → length w ≡ contact_size → word_at w o < 2 → word_at (settled_words v w) o < 2
unfolding settled_words
settled_mark vanishes w o l m = m
settled_mark starts w o l m =
    let a = put w edge_touching (1 ∷ []) in
    let b = put a started_place (0 ∷ []) in
    let la = length_one w edge_touching 1 in
    let lb = length_one a started_place 0 in
    put_mark b generating_place 0 o (omega arith) (omega arith) (put_mark a started_place 0 o (omega arith) (omega arith) (put_mark w edge_touching 1 o (omega arith) (omega arith) m))
settled_mark stops w o l m =
    let a = put w edge_touching (0 ∷ []) in
    let la = length_one w edge_touching 0 in
    put_mark a stopped_place 0 o (omega arith) (omega arith) (put_mark w edge_touching 0 o (omega arith) (omega arith) m)
settled_mark generates w o l m = put_mark w generating_place 0 o (omega arith) (omega arith) m
settled_mark recounts w o l m = put_mark w contact_count_change 0 o (omega arith) (omega arith) m
settled_mark persists w o l m = m

module _ (v : Verdict) (w : List ℕ) (l : length w ≡ contact_size) (f : Fitting w 0) where
  abbrev h : List ℕ
  h = settled_words v w

  early : (o : ℕ) → o < contact_edge_flags → word_at h o ≡ word_at w o
  early o b = settled_word v w o (before_marks o b)

  late : (o : ℕ) → contact_count_change < o → word_at h o ≡ word_at w o
  late o b = settled_word v w o (after_marks o b)

  -- a body's mark and number
  optional_kept : (o : ℕ) → o + 1 < contact_edge_flags → T (optional_fits bodies w o) → T (optional_fits bodies h o)
  optional_kept o b t =
      let fits : ℕ → ℕ → Bool = λ m n. ltb m 2 && cond (eqb m 1) (ltb n bodies) true in
      subst T (sym (λ i. fits (early o (omega arith) i) (early (o + 1) b i))) t

  pub settled_fitting : Fitting h 0
  settled_fitting =
      record {
        collider1 = rw (early 0 (omega arith)) f.collider1;
        collider2 = rw (early 1 (omega arith)) f.collider2;
        body1 = optional_kept 2 (omega arith) f.body1;
        body2 = optional_kept 4 (omega arith) f.body2;
        marks = λ k b. settled_mark v w (contact_edge_flags + k) l (f.marks k b);
        cache = rw (late contact_cache (omega arith)) f.cache;
        manifolds = rw (late contact_manifolds (omega arith)) f.manifolds;
        points = λ k b. let c : k < word_at w contact_manifolds = rw (late contact_manifolds (omega arith)) at b in rw (late (contact_manifolds + 1 + k * manifold_size) (omega arith)) (f.points k c);
      }
