-- What an update writes in a contact's record is read back as the rules' pair, and leaves the record in range. Assumes nothing.
use Prim.Native.Nat.{ℕ, zero, suc, ◌+◌, ◌*◌, ◌≤◌, ◌<◌, suc-le-suc}
use Rattle.std.proofs.Common.{add-zero, zero-lt-suc, not-suc-le-zero, le_of_suc-le-suc, arith, subst, ◌∙◌, inl, inr, lit≤, lit<}
use Rattle.std.specs.Prelude.{◌≡◌, ◌⊎◌, ◌≢◌, Bool, cond, ◌&&◌, T, ltb, Float, length, get_or, Option, None, Some}
use Rattle.std.proofs.Math.Path.{refl, sym, ap}
use Rattle.std.proofs.Math.Bool.{true, false}
use mathlib.Core.List.{List, [], ◌∷◌, ◌++◌, map}
use Rattle.std.proofs.Math.Dec.{eqb}
use Rattle.std.specs.Float.Ieee.{binary32, of_bits}
use Rattle.math.specs.Constants.{zero_f}
use Rattle.math.specs.Fit.{FitFloat}
use Rattle.math.specs.Floats.{◌⊖◌}
use Rattle.math.specs.Laws.{bits_back}
use Rattle.math.specs.Vec.{dot}
use Rattle.math.specs.declared.vec.Vec3.{Vec3}
use Rattle.rows.specs.Rows.{put}
use Rattle.rows.specs.Laws.{length_put, get_d_put, get_d_put_apart}
use Rattle.rows.specs.Slots.{upto}
use Rattle.rules.specs.Inputs.{Settings, Collider, Body, ProposedManifold}
use Rattle.rules.specs.Limits.{bodies}
use Rattle.rules.specs.Matching.{with_points}
use Rattle.rules.specs.Records.{Point, Manifold, Cache, PairFlags, Pair}
use Rattle.rules.specs.Recycling.{recycles, with_penetration, delta_separation, recycled_point, recycled_manifold}
use Rattle.rules.specs.Sides.{overlap, interact, Side, side_of}
use Rattle.rules.specs.Update.{Way, skipped, aabbs_disjoint, recycled, full, Updated, body_of, disjoint, static_flags, recycled_pair, renewed, overlapping, updated_between}
use Rattle.words.specs.Words.{word_at, float_at, vec3_at, float_word, mark_word}
use Rattle.collider.specs.Recorded.{collider_at, body_at}
use Rattle.proposals.specs.Recorded.{proposal_at, hook_at}
use Rattle.manifold_records.specs.Counts.{Counted}
use Rattle.manifold_records.specs.ListLaws.{get_d_map_upto, length_map_upto, map_upto_same}
use Rattle.manifold_records.specs.Recorded.{point_at, points_at, manifold_at, manifolds_at}
use Rattle.manifold_records.specs.Written.{zeros, manifolds_words}
use Rattle.contact_records.specs.ApartLaws.{vec3_same, names_same, edge_same, manifolds_same, counted_same, cache_same}
use Rattle.contact_records.proofs.BackLaws.{with_state, state_back, counted_state}
use Rattle.contact_records.specs.Fit.{FitManifolds, FitPair}
use Rattle.contact_records.specs.HeldLaws.{Holds, Same, put_holds, holds_left, holds_right, same_in, word_same, first_same}
use Rattle.layout.specs.Contact.{contact_cache, contact_flags, contact_manifolds, contact_size, contact_speculative_distance}
use Rattle.layout.specs.Manifold.{manifold_points, manifold_size}
use Rattle.layout.specs.Point.{point_penetration, point_size}
use Rattle.contact_records.specs.LengthLaws.{length_cache, length_flags, length_state}
use Rattle.contact_records.specs.Recorded.{int_of, flags_at, pair_at}
use Rattle.contact_records.specs.Written.{int_word, cache_words, flags_words, state_words}
use Rattle.contact_range.specs.Range.{is_mark, optional_fits}
use Rattle.contact_range.specs.RangeLaws.{Fitting}
use Rattle.contact_graph.specs.EffectLaws.{differ, same_or_not}
use Rattle.contact_graph.specs.ImpulseLaws.{same_offset, same_word, map_map}
use Rattle.contact_update.specs.After.{points_put, manifolds_put, disjoint_place, static_place, after_words, record_updated, record_after}

-- ---- lengths
pub length_points : (ps : List Point) (at : ℕ) (w : List ℕ) → length (points_put ps at w) ≡ length w
unfolding points_put
length_points [] at w = refl
length_points (p ∷ ps) at w =
    length_points ps (at + point_size) (put w (at + point_penetration) (float_word p.penetration ∷ []))
    ∙ length_put w (at + point_penetration) (float_word p.penetration ∷ [])

pub length_manifolds : (ms : List Manifold) (at : ℕ) (w : List ℕ) → length (manifolds_put ms at w) ≡ length w
unfolding manifolds_put
length_manifolds [] at w = refl
length_manifolds (m ∷ ms) at w =
    length_manifolds ms (at + manifold_size) (points_put m.points (at + manifold_points) w) ∙ length_points m.points (at + manifold_points) w

pub after_length : (way : Way) (p : Pair) (w : List ℕ) → length (after_words way p w) ≡ length w
unfolding after_words
after_length skipped p w = refl
after_length aabbs_disjoint p w = length_put (put w disjoint_place (1 ∷ [])) contact_speculative_distance (0 ∷ []) ∙ length_put w disjoint_place (1 ∷ [])
after_length recycled p w =
    let ys = manifolds_put p.manifolds (contact_manifolds + 1) w in
    let ms : List ℕ = mark_word p.flags.static1 ∷ mark_word p.flags.static2 ∷ [] in
    length_put (put ys static_place ms) contact_speculative_distance (0 ∷ []) ∙ length_put ys static_place ms ∙ length_manifolds p.manifolds (contact_manifolds + 1) w
after_length full p w = length_put w contact_flags (state_words p)

pub record_length : (s : Settings) (colliders bodies proposal : List ℕ) (id : ℕ) (w : List ℕ) → length (record_after s colliders bodies proposal id w) ≡ length w
unfolding record_after
record_length s colliders bodies proposal id w =
    let u = record_updated s colliders bodies proposal id w in
    after_length u.way u.pair w

-- ---- penetrations: a word that is none of them stays, and each of them is the list's
-- a single store
pub word_other : (w : List ℕ) (at v j : ℕ) → j ≢ at → word_at (put w at (v ∷ [])) j ≡ word_at w j
word_other w at v j n = get_d_put_apart w at (v ∷ []) j 0 (elim (differ j at n) [ inl l ↦ inl l | inr l ↦ inr (omega arith) ])

pub word_own : (w : List ℕ) (at v : ℕ) → at < length w → word_at (put w at (v ∷ [])) at ≡ v
word_own w at v l = ap (word_at (put w at (v ∷ []))) (sym (add-zero at)) ∙ get_d_put w at (v ∷ []) 0 0 (omega arith) (omega arith)

pub points_word : (ps : List Point) (at : ℕ) (w : List ℕ) (j : ℕ) → ((k : ℕ) → k < length ps → j ≢ at + k * point_size + point_penetration) → word_at (points_put ps at w) j ≡ word_at w j
unfolding points_put
points_word [] at w j n = refl
points_word (p ∷ ps) at w j n =
    points_word ps (at + 18) (put w (at + 9) (float_word p.penetration ∷ [])) j (λ k l e. n (suc k) (suc-le-suc l) (omega arith))
    ∙ word_other w (at + 9) (float_word p.penetration) j (λ e. n zero (zero-lt-suc (length ps)) (omega arith))

pub points_penetration : (ps : List Point) (at : ℕ) (w : List ℕ) (k : ℕ) (d : Point) → k < length ps → at + length ps * point_size ≤ length w
    → word_at (points_put ps at w) (at + k * point_size + point_penetration) ≡ float_word (get_or ps k d).penetration
unfolding points_put
points_penetration [] at w k d l r = absurd (not-suc-le-zero l)
points_penetration (p ∷ ps) at w zero d l r =
    let v = float_word p.penetration in
    ap (word_at (points_put (p ∷ ps) at w)) (let e : at + 0 * 18 + 9 ≡ at + 9 = omega arith in e)
    ∙ points_word ps (at + 18) (put w (at + 9) (v ∷ [])) (at + 9) (λ k b e. omega arith) ∙ word_own w (at + 9) v (omega arith)
points_penetration (p ∷ ps) at w (suc k) d l r =
    let ys = put w (at + 9) (float_word p.penetration ∷ []) in
    ap (word_at (points_put ps (at + 18) ys)) (let e : at + suc k * 18 + 9 ≡ at + 18 + k * 18 + 9 = omega arith in e)
    ∙ points_penetration ps (at + 18) ys k d (le_of_suc-le-suc l) (omega (arith, length_put w (at + 9) (float_word p.penetration ∷ [])))

pub manifolds_word : (ms : List Manifold) (at : ℕ) (w : List ℕ) (j : ℕ)
    → ((m k : ℕ) (d : Manifold) → m < length ms → k < length (get_or ms m d).points → j ≢ at + m * manifold_size + manifold_points + k * point_size + point_penetration)
    → word_at (manifolds_put ms at w) j ≡ word_at w j
unfolding manifolds_put
manifolds_word [] at w j n = refl
manifolds_word (m ∷ ms) at w j n =
    manifolds_word ms (at + 81) (points_put m.points (at + 9) w) j (λ i k d l b e. n (suc i) k d (suc-le-suc l) b (omega arith))
    ∙ points_word m.points (at + 9) w j (λ k b e. n zero k m (zero-lt-suc (length ms)) b (omega arith))

pub manifolds_penetration : (ms : List Manifold) (at : ℕ) (w : List ℕ) (m k : ℕ) (d : Manifold) (e : Point) → m < length ms → k < length (get_or ms m d).points
    → ((i : ℕ) (past : Manifold) → i < length ms → length (get_or ms i past).points ≤ 4) → at + length ms * manifold_size ≤ length w
    → word_at (manifolds_put ms at w) (at + m * manifold_size + manifold_points + k * point_size + point_penetration) ≡ float_word (get_or (get_or ms m d).points k e).penetration
unfolding manifolds_put
manifolds_penetration [] at w m k d e l b few r = absurd (not-suc-le-zero l)
manifolds_penetration (x ∷ ms) at w zero k d e l b few r =
    let f : length x.points ≤ 4 = few zero x l in
    ap (word_at (manifolds_put (x ∷ ms) at w)) (let z : at + 0 * 81 + 9 + k * 18 + 9 ≡ at + 9 + k * 18 + 9 = omega arith in z)
    ∙ manifolds_word ms (at + 81) (points_put x.points (at + 9) w) (at + 9 + k * 18 + 9) (λ i j p q s z. omega arith)
    ∙ points_penetration x.points (at + 9) w k e b (omega arith)
manifolds_penetration (x ∷ ms) at w (suc m) k d e l b few r =
    let ys = points_put x.points (at + 9) w in
    ap (word_at (manifolds_put ms (at + 81) ys)) (let z : at + suc m * 81 + 9 + k * 18 + 9 ≡ at + 81 + m * 81 + 9 + k * 18 + 9 = omega arith in z)
    ∙ manifolds_penetration ms (at + 81) ys m k d e (le_of_suc-le-suc l) b (λ i p q. few (suc i) p (suc-le-suc q)) (omega (arith, length_points x.points (at + 9) w))

-- ---- words that stay
pub disjoint_word : (p : Pair) (w : List ℕ) (j : ℕ) → j ≢ disjoint_place → j ≢ contact_speculative_distance → word_at (after_words aabbs_disjoint p w) j ≡ word_at w j
unfolding after_words
disjoint_word p w j a b = word_other (put w disjoint_place (1 ∷ [])) contact_speculative_distance 0 j b ∙ word_other w disjoint_place 1 j a

pub recycled_word : (p : Pair) (w : List ℕ) (j : ℕ) → (j < static_place) ⊎ (static_place + 2 ≤ j) → j ≢ contact_speculative_distance
    → ((m k : ℕ) (d : Manifold) → m < length p.manifolds → k < length (get_or p.manifolds m d).points
    → j ≢ contact_manifolds + 1 + m * manifold_size + manifold_points + k * point_size + point_penetration)
    → word_at (after_words recycled p w) j ≡ word_at w j
unfolding after_words
recycled_word p w j a b n =
    let ys = manifolds_put p.manifolds (contact_manifolds + 1) w in
    let ms : List ℕ = mark_word p.flags.static1 ∷ mark_word p.flags.static2 ∷ [] in
    word_other (put ys static_place ms) contact_speculative_distance 0 j b ∙ get_d_put_apart ys static_place ms j 0 a ∙ manifolds_word p.manifolds (contact_manifolds + 1) w j n

pub after_names : (way : Way) (p : Pair) (w : List ℕ) (j : ℕ) → j < contact_flags → word_at (after_words way p w) j ≡ word_at w j
unfolding after_words
after_names skipped p w j l = refl
after_names aabbs_disjoint p w j l = disjoint_word p w j (λ e. omega arith) (λ e. omega arith)
after_names recycled p w j l = recycled_word p w j (inl (omega arith)) (λ e. omega arith) (λ m k d a b e. omega arith)
after_names full p w j l = get_d_put_apart w contact_flags (state_words p) j 0 (inl l)

-- what the record names, its place in the list and the edge's marks
pub record_names : (s : Settings) (colliders bodies proposal : List ℕ) (id : ℕ) (w : List ℕ) (j : ℕ) → j < contact_flags → word_at (record_after s colliders bodies proposal id w) j ≡ word_at w j
unfolding record_after
record_names s colliders bodies proposal id w j l =
    let u = record_updated s colliders bodies proposal id w in
    after_names u.way u.pair w j l

-- ---- what the words record afterwards
-- words that are the same at the same places
pub stays : (xs ys : List ℕ) (k n : ℕ) → ((j : ℕ) → k ≤ j → j < k + n → word_at ys j ≡ word_at xs j) → Same xs k ys k n
stays xs ys k n f = record { each = λ i l. f (k + i) (omega arith) (omega arith) }

-- rule 2
pub disjoint_mark : (p : Pair) (w : List ℕ) → length w ≡ contact_size → word_at (after_words aabbs_disjoint p w) disjoint_place ≡ 1
unfolding after_words
disjoint_mark p w size = word_other (put w disjoint_place (1 ∷ [])) contact_speculative_distance 0 disjoint_place (λ e. omega arith) ∙ word_own w disjoint_place 1 (omega arith)

pub after_disjoint : (p : Pair) (w : List ℕ) (id : ℕ) → length w ≡ contact_size → Counted w contact_manifolds → pair_at (after_words aabbs_disjoint p w) 0 id ≡ disjoint (pair_at w 0 id)
unfolding pair_at flags_at disjoint after_words
after_disjoint p w id size c =
    let ys = after_words aabbs_disjoint p w in
    let same : (j : ℕ) → j ≢ 10 → j ≢ 19 → word_at ys j ≡ word_at w j = disjoint_word p w in
    let None : word_at ys 19 ≡ 0 = word_own (put w 10 (1 ∷ [])) 19 0 (omega (arith, length_put w 10 (1 ∷ []))) in
    λ i. record {
      names = names_same id (stays w ys 0 6 (λ j a b. same j (λ e. omega arith) (λ e. omega arith))) i;
      edge = edge_same (stays w ys 7 2 (λ j a b. same j (λ e. omega arith) (λ e. omega arith))) i;
      flags = record {
        touching = eqb (same 9 (λ e. omega arith) (λ e. omega arith) i) 1;
        disjoint_aabb = eqb (disjoint_mark p w size i) 1;
        started_touching = eqb (same 11 (λ e. omega arith) (λ e. omega arith) i) 1;
        stopped_touching = eqb (same 12 (λ e. omega arith) (λ e. omega arith) i) 1;
        generate_constraints = eqb (same 13 (λ e. omega arith) (λ e. omega arith) i) 1;
        started_generating = eqb (same 14 (λ e. omega arith) (λ e. omega arith) i) 1;
        static1 = eqb (same 15 (λ e. omega arith) (λ e. omega arith) i) 1;
        static2 = eqb (same 16 (λ e. omega arith) (λ e. omega arith) i) 1;
        modify_contacts = eqb (same 17 (λ e. omega arith) (λ e. omega arith) i) 1;
      };
      manifolds = manifolds_same c (stays w ys 36 487 (λ j a b. same j (λ e. omega arith) (λ e. omega arith))) i;
      count_change = int_of (same 18 (λ e. omega arith) (λ e. omega arith) i);
      speculative = of_bits binary32 (None i);
      cache = cache_same (stays w ys 20 16 (λ j a b. same j (λ e. omega arith) (λ e. omega arith))) i;
    }

-- rules 6 to 12
pub after_full : (p : Pair) (w : List ℕ) (id : ℕ) → length w ≡ contact_size → FitPair p → pair_at (after_words full p w) 0 id ≡ with_state (pair_at w 0 id) p
unfolding after_words
after_full p w id size f = state_back w 0 p id f (omega arith)

-- a float that was written, and a mark
float_back : (x : Float) → FitFloat x → {w : ℕ} → w ≡ float_word x → of_bits binary32 w ≡ x
float_back x f e = ap (of_bits binary32) e ∙ bits_back x (subst T (sym f) tt)

mark_back : (b : Bool) {w : ℕ} → w ≡ mark_word b → eqb w 1 ≡ b
mark_back true e = ap (λ (w : ℕ). eqb w 1) e
mark_back false e = ap (λ (w : ℕ). eqb w 1) e

-- the static marks and the speculative distance of a recycled pair
pub static_word : (p : Pair) (w : List ℕ) → length w ≡ contact_size → (k : ℕ) → k < 2
    → word_at (after_words recycled p w) (static_place + k) ≡ get_or (mark_word p.flags.static1 ∷ mark_word p.flags.static2 ∷ []) k 0
unfolding after_words
static_word p w size k l =
    let zs = manifolds_put p.manifolds (contact_manifolds + 1) w in
    let ms : List ℕ = mark_word p.flags.static1 ∷ mark_word p.flags.static2 ∷ [] in
    word_other (put zs static_place ms) contact_speculative_distance 0 (static_place + k) (λ e. omega arith)
    ∙ get_d_put zs static_place ms k 0 l (omega (arith, length_manifolds p.manifolds (contact_manifolds + 1) w))

pub speculative_word : (p : Pair) (w : List ℕ) → length w ≡ contact_size → word_at (after_words recycled p w) contact_speculative_distance ≡ 0
unfolding after_words
speculative_word p w size =
    let zs = manifolds_put p.manifolds (contact_manifolds + 1) w in
    let ms : List ℕ = mark_word p.flags.static1 ∷ mark_word p.flags.static2 ∷ [] in
    word_own (put zs static_place ms) contact_speculative_distance 0 (omega (arith, length_put zs static_place ms, length_manifolds p.manifolds (contact_manifolds + 1) w))

-- rule 5, whatever the penetrations are: v gives each from the manifold's normal and the point
abbrev pub point_with : (Vec3 → Point → Float) → Vec3 → Point → Point
point_with v n p = with_penetration p (v n p)

abbrev pub manifold_with : (Vec3 → Point → Float) → Manifold → Manifold
manifold_with v m = with_points m (map (point_with v m.normal) m.points)

-- where manifold m of a record begins, and its points
abbrev pub manifold_of : ℕ → ℕ
manifold_of m = contact_manifolds + 1 + m * manifold_size

abbrev pub point_of : ℕ → ℕ → ℕ
point_of m k = manifold_of m + manifold_points + k * point_size

-- a word before the manifolds, and of a manifold before its points
module _ (p : Pair) (w : List ℕ) (f : FitManifolds p.manifolds) where
  few_points : (m : ℕ) (d : Manifold) → m < length p.manifolds → length (get_or p.manifolds m d).points ≤ 4
  few_points m d l = (f.each m d l).points.few

  head_word : (j : ℕ) → j ≤ contact_manifolds → (j < static_place) ⊎ (static_place + 2 ≤ j) → j ≢ contact_speculative_distance → word_at (after_words recycled p w) j ≡ word_at w j
  head_word j l a b = recycled_word p w j a b (λ m k d x y e. omega arith)

  manifold_word : (m o : ℕ) → o < manifold_points → word_at (after_words recycled p w) (manifold_of m + o) ≡ word_at w (manifold_of m + o)
  manifold_word m o l =
      recycled_word p w (manifold_of m + o) (inr (omega arith)) (λ e. omega arith)
      (λ n k d a b e. let z : k < 4 = omega (arith, few_points n d a) in
      let y = same_offset 81 m n o (9 + k * 18 + 9) (omega arith) (omega arith) (omega arith) in omega arith)

module _ (v : Vec3 → Point → Float) (p : Pair) (w : List ℕ) (size : length w ≡ contact_size) (c : Counted w contact_manifolds) (f : FitManifolds p.manifolds)
    (made : p.manifolds ≡ map (manifold_with v) (manifolds_at w contact_manifolds)) where
  abbrev ys : List ℕ
  ys = after_words recycled p w

  abbrev count : ℕ
  count = word_at w contact_manifolds

  -- what the list has at each index
  made_upto : p.manifolds ≡ map (λ m. manifold_with v (manifold_at w (manifold_of m))) (upto count)
  unfolding manifolds_at
  made_upto = made ∙ map_map (manifold_with v) (λ m. manifold_at w (manifold_of m)) (upto count)

  made_count : length p.manifolds ≡ count
  made_count = ap length made_upto ∙ length_map_upto (λ m. manifold_with v (manifold_at w (manifold_of m))) count

  made_at : (m : ℕ) (d : Manifold) → m < count → get_or p.manifolds m d ≡ manifold_with v (manifold_at w (manifold_of m))
  made_at m d l = ap (λ (ms : List Manifold). get_or ms m d) made_upto ∙ get_d_map_upto (λ m. manifold_with v (manifold_at w (manifold_of m))) count m d l

  -- the points of manifold m
  made_points : (m : ℕ) (d : Manifold) → m < count
      → (get_or p.manifolds m d).points ≡ map (λ k. point_with v (vec3_at w (manifold_of m + 1)) (point_at w (point_of m k))) (upto (word_at w (manifold_of m)))
  unfolding manifold_at points_at
  made_points m d l =
      ap (λ (q : Manifold). q.points) (made_at m d l) ∙ map_map (point_with v (vec3_at w (manifold_of m + 1))) (λ k. point_at w (point_of m k)) (upto (word_at w (manifold_of m)))

  made_length : (m : ℕ) (d : Manifold) → m < count → length (get_or p.manifolds m d).points ≡ word_at w (manifold_of m)
  made_length m d l = ap length (made_points m d l) ∙ length_map_upto (λ k. point_with v (vec3_at w (manifold_of m + 1)) (point_at w (point_of m k))) (word_at w (manifold_of m))

  made_point : (m k : ℕ) (d : Manifold) (q : Point) → m < count → k < word_at w (manifold_of m)
      → get_or (get_or p.manifolds m d).points k q ≡ point_with v (vec3_at w (manifold_of m + 1)) (point_at w (point_of m k))
  made_point m k d q l b =
      ap (λ (ps : List Point). get_or ps k q) (made_points m d l)
      ∙ get_d_map_upto (λ k. point_with v (vec3_at w (manifold_of m + 1)) (point_at w (point_of m k))) (word_at w (manifold_of m)) k q b

  -- a word of a point
  point_word : (m k u : ℕ) → k < 4 → u < point_size → u ≢ point_penetration → word_at ys (point_of m k + u) ≡ word_at w (point_of m k + u)
  point_word m k u l b n =
      recycled_word p w (point_of m k + u) (inr (omega arith)) (λ e. omega arith)
      (λ i j d x y e. let z : j < 4 = omega (arith, few_points p w f i d x) in n (same_word m i k j u 9 l z b (omega arith) e))

  penetration_word : (m k : ℕ) → m < count → k < word_at w (manifold_of m)
      → word_at ys (point_of m k + point_penetration) ≡ float_word (v (vec3_at w (manifold_of m + 1)) (point_at w (point_of m k)))
  unfolding after_words
  penetration_word m k l b =
      let zs = manifolds_put p.manifolds (contact_manifolds + 1) w in
      let ms : List ℕ = mark_word p.flags.static1 ∷ mark_word p.flags.static2 ∷ [] in
      let d = manifold_at w (manifold_of m) in
      let q = point_at w (point_of m k) in
      let j = point_of m k + point_penetration in
      word_other (put zs static_place ms) contact_speculative_distance 0 j (λ e. omega arith) ∙ get_d_put_apart zs static_place ms j 0 (inr (omega arith))
      ∙ manifolds_penetration p.manifolds 37 w m k d q (omega (arith, made_count)) (omega (arith, made_length m d l)) (few_points p w f) (omega (arith, f.few))
      ∙ ap (λ (r : Point). float_word r.penetration) (made_point m k d q l b)

  penetration_back : (m k : ℕ) → m < count → k < word_at w (manifold_of m) → float_at ys (point_of m k + point_penetration) ≡ v (vec3_at w (manifold_of m + 1)) (point_at w (point_of m k))
  penetration_back m k l b =
      let d = manifold_at w (manifold_of m) in
      let q = point_at w (point_of m k) in
      let fit = ((f.each m d (omega (arith, made_count))).points.each k q (omega (arith, made_length m d l))).penetration in
      float_back (v (vec3_at w (manifold_of m + 1)) q) (subst (λ (r : Point). FitFloat r.penetration) (made_point m k d q l b) fit) (penetration_word m k l b)

  -- the records
  recycled_point_lem : (m k : ℕ) → m < count → k < word_at w (manifold_of m) → point_at ys (point_of m k) ≡ point_with v (vec3_at w (manifold_of m + 1)) (point_at w (point_of m k))
  unfolding point_at
  recycled_point_lem m k l b =
      let few : k < 4 = omega (arith, c.points m l) in
      let word : (u : ℕ) → u < 18 → u ≢ 9 → word_at ys (point_of m k + u) ≡ word_at w (point_of m k + u) = λ u a n. point_word m k u few a n in
      let s : Same w (point_of m k) ys (point_of m k) 9 = record { each = λ u a. word u (omega arith) (λ e. omega arith) } in
      let first : Same w (point_of m k) ys (point_of m k) 3 = record { each = λ u a. s.each u (omega arith) } in
      λ i. record {
        anchor1 = vec3_same first i;
        anchor2 = vec3_same (same_in s 3 3 (lit≤ tt)) i;
        point = vec3_same (same_in s 6 3 (lit≤ tt)) i;
        penetration = penetration_back m k l b i;
        base_penetration = of_bits binary32 (word 10 (omega arith) (λ e. omega arith) i);
        normal_impulse = of_bits binary32 (word 11 (omega arith) (λ e. omega arith) i);
        normal_speed = of_bits binary32 (word 12 (omega arith) (λ e. omega arith) i);
        warm_start_normal = of_bits binary32 (word 13 (omega arith) (λ e. omega arith) i);
        warm_start_tangent = record { x = of_bits binary32 (word 14 (omega arith) (λ e. omega arith) i); y = of_bits binary32 (word 15 (omega arith) (λ e. omega arith) i) };
        feature1 = word 16 (omega arith) (λ e. omega arith) i;
        feature2 = word 17 (omega arith) (λ e. omega arith) i;
      }

  recycled_points : (m : ℕ) → m < count
      → points_at ys (manifold_of m + manifold_points) (word_at w (manifold_of m))
      ≡ map (point_with v (vec3_at w (manifold_of m + 1))) (points_at w (manifold_of m + manifold_points) (word_at w (manifold_of m)))
  unfolding points_at
  recycled_points m l =
      let n = vec3_at w (manifold_of m + 1) in
      let size = word_at w (manifold_of m) in
      map_upto_same (λ k. point_at ys (point_of m k)) (λ k. point_with v n (point_at w (point_of m k))) size (λ k b. recycled_point_lem m k l b)
      ∙ sym (map_map (point_with v n) (λ k. point_at w (point_of m k)) (upto size))

  recycled_manifold_lem : (m : ℕ) → m < count → manifold_at ys (manifold_of m) ≡ manifold_with v (manifold_at w (manifold_of m))
  unfolding manifold_at
  recycled_manifold_lem m l =
      let s : Same w (manifold_of m) ys (manifold_of m) 9 = record { each = λ o a. manifold_word p w f m o a } in
      λ i. record {
        points = (ap (points_at ys (manifold_of m + 9)) (first_same s tt) ∙ recycled_points m l) i;
        normal = vec3_same (same_in s 1 3 (lit≤ tt)) i;
        friction = of_bits binary32 (word_same s 4 tt i);
        restitution = of_bits binary32 (word_same s 5 tt i);
        tangent_velocity = vec3_same (same_in s 6 3 (lit≤ tt)) i;
      }

  recycled_manifolds : manifolds_at ys contact_manifolds ≡ p.manifolds
  unfolding manifolds_at
  recycled_manifolds =
      ap (λ (n : ℕ). map (λ m. manifold_at ys (manifold_of m)) (upto n)) (head_word p w f 36 (omega arith) (inr (omega arith)) (λ e. omega arith))
      ∙ map_upto_same (λ m. manifold_at ys (manifold_of m)) (λ m. manifold_with v (manifold_at w (manifold_of m))) count recycled_manifold_lem ∙ sym made_upto

  recycled_flags : flags_at ys contact_flags ≡ static_flags (flags_at w contact_flags) p.flags.static1 p.flags.static2
  unfolding flags_at
  recycled_flags =
      let early : (j : ℕ) → j < 15 → word_at ys j ≡ word_at w j = λ j l. head_word p w f j (omega arith) (inl l) (λ e. omega arith) in
      λ i. record {
        touching = eqb (early 9 (omega arith) i) 1;
        disjoint_aabb = eqb (early 10 (omega arith) i) 1;
        started_touching = eqb (early 11 (omega arith) i) 1;
        stopped_touching = eqb (early 12 (omega arith) i) 1;
        generate_constraints = eqb (early 13 (omega arith) i) 1;
        started_generating = eqb (early 14 (omega arith) i) 1;
        static1 = mark_back p.flags.static1 (static_word p w size 0 (omega arith)) i;
        static2 = mark_back p.flags.static2 (static_word p w size 1 (omega arith)) i;
        modify_contacts = eqb (head_word p w f 17 (omega arith) (inr (omega arith)) (λ e. omega arith) i) 1;
      }

  pub after_recycled : (id : ℕ)
      → pair_at ys 0 id ≡ record {
        names = (pair_at w 0 id).names;
        edge = (pair_at w 0 id).edge;
        flags = static_flags (pair_at w 0 id).flags p.flags.static1 p.flags.static2;
        manifolds = p.manifolds;
        count_change = (pair_at w 0 id).count_change;
        speculative = zero_f;
        cache = (pair_at w 0 id).cache;
      }
  unfolding pair_at
  after_recycled id =
      λ i. record {
        names = names_same id (stays w ys 0 6 (λ j a b. head_word p w f j (omega arith) (inl (omega arith)) (λ e. omega arith))) i;
        edge = edge_same (stays w ys 7 2 (λ j a b. head_word p w f j (omega arith) (inl (omega arith)) (λ e. omega arith))) i;
        flags = recycled_flags i;
        manifolds = recycled_manifolds i;
        count_change = int_of (head_word p w f 18 (omega arith) (inr (omega arith)) (λ e. omega arith) i);
        speculative = of_bits binary32 (speculative_word p w size i);
        cache = cache_same (stays w ys 20 16 (λ j a b. head_word p w f j (omega arith) (inr (omega arith)) (λ e. omega arith))) i;
      }

-- ---- the pair that the words record is the rules' pair
module _ (w : List ℕ) (id : ℕ) (size : length w ≡ contact_size) (c : Counted w contact_manifolds) where
  abbrev old : Pair
  old = pair_at w 0 id

  -- what an update made is read back
  abbrev Read : Updated → Type 0
  Read u = FitPair u.pair → pair_at (after_words u.way u.pair w) 0 id ≡ u.pair

  read_recycled : (a b : Side) (k : Cache) → FitPair (recycled_pair a b k old) → pair_at (after_words recycled (recycled_pair a b k old) w) 0 id ≡ recycled_pair a b k old
  unfolding recycled_pair recycled_manifold recycled_point pair_at
  read_recycled a b k f =
      after_recycled (λ n p. p.base_penetration ⊖ dot (delta_separation a b k p) n) (recycled_pair a b k old) w size c f.manifolds refl id

  read_renewed : (s : Settings) (answer : Bool) (proposal : List ProposedManifold) (c1 c2 : Collider) (a b : Side) → Read (renewed s answer proposal c1 c2 a b old)
  unfolding renewed
  read_renewed s answer proposal c1 c2 a b f = after_full (renewed s answer proposal c1 c2 a b old).pair w id size f

  read_overlapping : (s : Settings) (answer : Bool) (proposal : List ProposedManifold) (c1 c2 : Collider) (a b : Side) (t : Bool) (o : Option Cache)
      → Read (overlapping s answer proposal c1 c2 a b old t o)
  unfolding overlapping
  read_overlapping s answer proposal c1 c2 a b true (Some k) f = read_recycled a b k f
  read_overlapping s answer proposal c1 c2 a b true None f = read_renewed s answer proposal c1 c2 a b f
  read_overlapping s answer proposal c1 c2 a b false o f = read_renewed s answer proposal c1 c2 a b f

  read_either : (t : Bool) (u v : Updated) → Read u → Read v → Read (cond t u v)
  read_either true u v p q = p
  read_either false u v p q = q

  read_between : (s : Settings) (body : ℕ → Option Body) (answer : Bool) (proposal : List ProposedManifold) (o1 o2 : Option Collider)
      → Read (updated_between s body answer proposal old o1 o2)
  unfolding updated_between after_words
  read_between s body answer proposal None o2 f = refl
  read_between s body answer proposal (Some c1) None f = refl
  read_between s body answer proposal (Some c1) (Some c2) f =
      let a = side_of c1 (body_of body c1.body) in
      let b = side_of c2 (body_of body c2.body) in
      read_either (overlap c1 c2 old.speculative && interact c1 c2)
      (overlapping s answer proposal c1 c2 a b old (recycles s old.flags.touching a b old.cache) old.cache)
      (record { pair = disjoint old; way = aabbs_disjoint; bit = true; max_contact_distance = zero_f })
      (read_overlapping s answer proposal c1 c2 a b (recycles s old.flags.touching a b old.cache) old.cache)
      (λ g. after_disjoint (disjoint old) w id size c) f

pub record_pair : (s : Settings) (colliders bodies proposal : List ℕ) (id : ℕ) (w : List ℕ) → length w ≡ contact_size → Counted w contact_manifolds
    → FitPair (record_updated s colliders bodies proposal id w).pair → pair_at (record_after s colliders bodies proposal id w) 0 id ≡ (record_updated s colliders bodies proposal id w).pair
unfolding record_after record_updated
record_pair s colliders bodies proposal id w size c f =
    read_between w id size c s (body_at bodies) (hook_at proposal 0) (proposal_at proposal 0) (collider_at colliders (word_at w 0)) (collider_at colliders (word_at w 1)) f

-- ---- the record stays in range
-- a mark that is written
marks_below : (bs : List Bool) (k : ℕ) → get_or (map mark_word bs) k 0 < 2
marks_below [] k = lit< tt
marks_below (true ∷ bs) zero = lit< tt
marks_below (false ∷ bs) zero = lit< tt
marks_below (b ∷ bs) (suc k) = marks_below bs k

flags_below : (f : PairFlags) (k : ℕ) → get_or (flags_words f) k 0 < 2
unfolding flags_words
flags_below f k =
    marks_below
    (f.touching ∷ f.disjoint_aabb ∷ f.started_touching ∷ f.stopped_touching ∷ f.generate_constraints ∷ f.started_generating ∷ f.static1 ∷ f.static2 ∷ f.modify_contacts ∷ []) k

cache_below : (o : Option Cache) → get_or (cache_words o) 0 0 < 2
unfolding cache_words zeros
cache_below None = lit< tt
cache_below (Some k) = lit< tt

-- the marks are those of the edge, and then the pair's
marks_split : (ys : List ℕ) → ((j : ℕ) → j < 2 → word_at ys (7 + j) < 2) → ((j : ℕ) → j < 9 → word_at ys (9 + j) < 2) → (k : ℕ) → k < 11 → word_at ys (7 + k) < 2
marks_split ys a b zero l = a 0 (omega arith)
marks_split ys a b (suc zero) l = a 1 (omega arith)
marks_split ys a b (suc (suc k)) l = subst (λ (j : ℕ). word_at ys j < 2) (let e : 9 + k ≡ 7 + suc (suc k) = omega arith in e) (b k (omega arith))

module _ (p : Pair) (w : List ℕ) (size : length w ≡ contact_size) (fits : Fitting w 0) (f : FitPair p) where
  optional_kept : (way : Way) (at : ℕ) → at + 1 < contact_flags → optional_fits bodies (after_words way p w) at ≡ optional_fits bodies w at
  optional_kept way at l =
      let same : (j : ℕ) → j < 9 → word_at (after_words way p w) j ≡ word_at w j = after_names way p w in
      λ i. is_mark (same at (omega arith) i) && cond (eqb (same at (omega arith) i) 1) (ltb (same (at + 1) l i) bodies) true

  -- what the record names, once the marks, the cache's mark and the counts fit
  named_fits : (way : Way) → ((j : ℕ) → j < 9 → word_at (after_words way p w) (9 + j) < 2) → word_at (after_words way p w) contact_cache < 2 → Counted (after_words way p w) contact_manifolds
      → Fitting (after_words way p w) 0
  named_fits way marks cache c =
      let ys = after_words way p w in
      let same : (j : ℕ) → j < 9 → word_at ys j ≡ word_at w j = after_names way p w in
      record {
        collider1 = omega (arith, same 0 (omega arith), fits.collider1);
        collider2 = omega (arith, same 1 (omega arith), fits.collider2);
        body1 = subst T (sym (optional_kept way 2 (omega arith))) fits.body1;
        body2 = subst T (sym (optional_kept way 4 (omega arith))) fits.body2;
        marks = marks_split ys (λ j l. omega (arith, same (7 + j) (omega arith), fits.marks j (omega arith))) marks;
        cache = cache;
        manifolds = c.manifolds;
        points = c.points;
      }

  counted : Counted w contact_manifolds
  counted = record { manifolds = fits.manifolds; points = fits.points }

  -- the pair's marks as they were
  old_mark : (j : ℕ) → j < 9 → word_at w (9 + j) < 2
  old_mark j l = subst (λ (k : ℕ). word_at w k < 2) (let e : 7 + (2 + j) ≡ 9 + j = omega arith in e) (fits.marks (2 + j) (omega arith))

  disjoint_fits : Fitting (after_words aabbs_disjoint p w) 0
  disjoint_fits =
      let ys = after_words aabbs_disjoint p w in
      named_fits aabbs_disjoint
      (λ j l. elim (same_or_not j 1) [
        | inl e ↦ subst (λ (k : ℕ). word_at ys (9 + k) < 2) (sym e) (omega (arith, disjoint_mark p w size))
        | inr n ↦ omega (arith, disjoint_word p w (9 + j) (λ e. n (omega arith)) (λ e. omega arith), old_mark j l)
      ])
      (omega (arith, disjoint_word p w 20 (λ e. omega arith) (λ e. omega arith), fits.cache))
      (counted_same counted (stays w ys 36 487 (λ j a b. disjoint_word p w j (λ e. omega arith) (λ e. omega arith))))

  recycled_fits : Fitting (after_words recycled p w) 0
  recycled_fits =
      let count = head_word p w f.manifolds 36 (omega arith) (inr (omega arith)) (λ e. omega arith) in
      named_fits recycled marks (omega (arith, head_word p w f.manifolds 20 (omega arith) (inr (omega arith)) (λ e. omega arith), fits.cache))
      (record { manifolds = omega (arith, count, fits.manifolds); points = λ m l. omega (arith, points m, fits.points m (omega (arith, count))) })
    where
      points : (m : ℕ) → word_at (after_words recycled p w) (manifold_of m) ≡ word_at w (manifold_of m)
      points m = ap (word_at (after_words recycled p w)) (sym (add-zero (manifold_of m))) ∙ manifold_word p w f.manifolds m 0 (omega arith) ∙ ap (word_at w) (add-zero (manifold_of m))

      static : (k : ℕ) → k < 2 → word_at (after_words recycled p w) (15 + k) < 2
      static k l = rw (static_word p w size k l) (marks_below (p.flags.static1 ∷ p.flags.static2 ∷ []) k)

      marks : (j : ℕ) → j < 9 → word_at (after_words recycled p w) (9 + j) < 2
      marks j l =
          elim (same_or_not j 6) [
            | inl e ↦ subst (λ (k : ℕ). word_at (after_words recycled p w) (9 + k) < 2) (sym e) (static 0 (omega arith))
            | inr m ↦
                elim (same_or_not j 7) [
                  | inl e ↦ subst (λ (k : ℕ). word_at (after_words recycled p w) (9 + k) < 2) (sym e) (static 1 (omega arith))
                  | inr n ↦
                      let e = head_word p w f.manifolds (9 + j) (omega arith) (elim (differ j 6 m) [ inl a ↦ inl (omega arith) | inr a ↦ inr (omega arith) ]) (λ e. omega arith) in
                      omega (arith, old_mark j l)
                ]
          ]

  full_fits : Fitting (after_words full p w) 0
  unfolding after_words state_words
  full_fits =
      let ys = put w 9 (state_words p) in
      let fs = flags_words p.flags in
      let cs = cache_words p.cache in
      let ws : List ℕ = int_word p.count_change ∷ float_word p.speculative ∷ cs in
      let h : Holds ys 9 (state_words p) = put_holds w 9 (state_words p) (omega (arith, length_state p)) in
      let s : Holds ys 9 (fs ++ ws) = holds_left (fs ++ ws) (manifolds_words p.manifolds) h in
      let marks : Holds ys 9 fs = holds_left fs ws s in
      let r : Holds ys 18 ws = holds_right fs ws 9 (length_flags p.flags) s in
      let cache : Holds ys 20 cs = holds_right (int_word p.count_change ∷ float_word p.speculative ∷ []) cs 2 refl r in
      named_fits full (λ j l. omega (arith, marks.each j (omega (arith, length_flags p.flags)), flags_below p.flags j))
      (omega (arith, cache.each 0 (omega (arith, length_cache p.cache)), cache_below p.cache)) (counted_state w 0 p f (omega arith))

  pub after_fits : (way : Way) → Fitting (after_words way p w) 0
  unfolding after_words
  after_fits skipped = fits
  after_fits aabbs_disjoint = disjoint_fits
  after_fits recycled = recycled_fits
  after_fits full = full_fits

pub record_fits : (s : Settings) (colliders bodies proposal : List ℕ) (id : ℕ) (w : List ℕ) → length w ≡ contact_size → Fitting w 0
    → FitPair (record_updated s colliders bodies proposal id w).pair → Fitting (record_after s colliders bodies proposal id w) 0
unfolding record_after
record_fits s colliders bodies proposal id w size fits f =
    let u = record_updated s colliders bodies proposal id w in
    after_fits u.pair w size fits f u.way
