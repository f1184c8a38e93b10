-- A row that holds a record's words has that record there: what was stored is loaded. Assumes nothing.
use Rattle.std.specs.Prelude.{◌≡◌, Bool, true, false, T, eqb, Float, get_or, Option, None, Some}
use Rattle.std.proofs.Math.Path.{refl, ap}
use Rattle.std.proofs.Common.{sym, ◌∙◌, subst, add_assoc, mul-le-mul_right, arith, inl, lit≤}
use Prim.Native.Nat.{ℕ, suc, ◌+◌, ◌*◌, ◌-◌, ◌≤◌, ◌<◌}
use Rattle.std.proofs.Math.Bool.{cond}
use mathlib.Core.List.{List, [], ◌∷◌, ◌++◌, map}
use Rattle.std.specs.Float.{binary32}
use Rattle.std.specs.Float.Ieee.{of_bits}
use Rattle.std.proofs.Math.ListN.{length, length-append}
use Rattle.math.specs.Fit.{FitFloat, FitVec3, FitQuat}
use Rattle.math.specs.Laws.{bits_back}
use Rattle.math.specs.declared.quat.Quat.{Quat}
use Rattle.math.specs.declared.vec.Vec3.{Vec3}
use Rattle.rows.specs.Rows.{put, each}
use Rattle.rows.specs.EachLaws.{length_each}
use Rattle.rows.specs.Slots.{upto}
use Rattle.rules.specs.Records.{Point, Manifold, Cache, PairFlags, Names, EdgeFlags, Pair}
use Rattle.words.specs.Words.{word_at, vec3_at, quat_at, float_word, vec3_words, quat_words, mark_word}
use Rattle.manifold_records.specs.Counts.{Counted}
use Rattle.manifold_records.specs.LengthLaws.{length_point, length_manifold}
use Rattle.manifold_records.specs.ListLaws.{map_upto_is, padded_is}
use Rattle.manifold_records.specs.Recorded.{point_at, points_at, manifold_at, manifolds_at}
use Rattle.manifold_records.specs.Written.{zeros, padded, point_words, manifold_words, manifolds_words}
use Rattle.contact_records.specs.ApartLaws.{names_same, edge_same}
use Rattle.contact_records.specs.Fit.{FitPoint, FitPoints, FitManifold, FitManifolds, FitCached, FitPair}
use Rattle.contact_records.specs.HeldLaws.{Holds, put_holds, holds_at, holds_left, holds_right, holds_each, word_held, first_held, same_put}
use Rattle.contact_records.proofs.IntLaws.{int_back}
use Rattle.layout.specs.Contact.{contact_flags, contact_manifolds, contact_size}
use Rattle.contact_records.specs.LengthLaws.{length_flags, length_cache, length_optional, length_names, length_edge, length_state, length_contact}
use Rattle.contact_records.specs.MadeLaws.{cached_at}
use Rattle.contact_records.specs.Recorded.{optional_at, int_of, cache_at, flags_at, names_at, edge_at, pair_at}
use Rattle.contact_records.specs.Written.{optional_words, int_word, cache_words, flags_words, names_words, edge_words, state_words, contact_words}

-- a pair with the state of another: what a full update stores
abbrev pub with_state : Pair → Pair → Pair
with_state old p =
    record {
      names = old.names;
      edge = old.edge;
      flags = p.flags;
      manifolds = p.manifolds;
      count_change = p.count_change;
      speculative = p.speculative;
      cache = p.cache;
    }

-- ---- a word

float_back : (x : Float) → FitFloat x → {w : ℕ} → w ≡ float_word x → of_bits binary32 w ≡ x
float_back x f e = ap (of_bits binary32) e ∙ bits_back x (subst T (sym f) tt)

mark_back : (b : Bool) {w : ℕ} → w ≡ mark_word b → eqb w 1 ≡ b
mark_back true e = ap (λ (w : ℕ). eqb w 1) e
mark_back false e = ap (λ (w : ℕ). eqb w 1) e

-- words that are filled up with zeros
holds_padded : {xs : List ℕ} {at : ℕ} (n : ℕ) (ws : List ℕ) → length ws ≤ n → Holds xs at (padded n ws) → Holds xs at ws
holds_padded {xs} {at} n ws l h = holds_left ws (zeros (n - length ws)) (subst (Holds xs at) (padded_is n ws l) h)

-- a manifold's first nine words
abbrev head : Manifold → List ℕ
head m = length m.points ∷ vec3_words m.normal ++ (float_word m.friction ∷ float_word m.restitution ∷ []) ++ vec3_words m.tangent_velocity

module _ {xs : List ℕ} where
  vec3_held : {at : ℕ} (v : Vec3) → FitVec3 v → Holds xs at (vec3_words v) → vec3_at xs at ≡ v
  vec3_held v f h =
      λ i. record { x = float_back v.x f.x (first_held h) i; y = float_back v.y f.y (word_held h 1 tt) i; z = float_back v.z f.z (word_held h 2 tt) i }

  quat_held : {at : ℕ} (q : Quat) → FitQuat q → Holds xs at (quat_words q) → quat_at xs at ≡ q
  quat_held q f h =
      λ i. record {
        x = float_back q.x f.x (first_held h) i;
        y = float_back q.y f.y (word_held h 1 tt) i;
        z = float_back q.z f.z (word_held h 2 tt) i;
        w = float_back q.w f.w (word_held h 3 tt) i;
      }

  pub point_held : {at : ℕ} (p : Point) → FitPoint p → Holds xs at (point_words p) → point_at xs at ≡ p
  unfolding point_at point_words
  point_held p f h =
      let a = vec3_words p.anchor1 in
      let b = vec3_words p.anchor2 in
      let c = vec3_words p.point in
      λ i. record {
        anchor1 = vec3_held p.anchor1 f.anchor1 (holds_left a _ h) i;
        anchor2 = vec3_held p.anchor2 f.anchor2 (holds_left b _ (holds_right a _ 3 refl h)) i;
        point = vec3_held p.point f.point (holds_left c _ (holds_right (a ++ b) _ 6 refl h)) i;
        penetration = float_back p.penetration f.penetration (word_held h 9 tt) i;
        base_penetration = float_back p.base_penetration f.base_penetration (word_held h 10 tt) i;
        normal_impulse = float_back p.normal_impulse f.normal_impulse (word_held h 11 tt) i;
        normal_speed = float_back p.normal_speed f.normal_speed (word_held h 12 tt) i;
        warm_start_normal = float_back p.warm_start_normal f.warm_start_normal (word_held h 13 tt) i;
        warm_start_tangent = record {
          x = float_back p.warm_start_tangent.x f.warm_start_tangent1 (word_held h 14 tt) i;
          y = float_back p.warm_start_tangent.y f.warm_start_tangent2 (word_held h 15 tt) i;
        };
        feature1 = word_held h 16 tt i;
        feature2 = word_held h 17 tt i;
      }

  points_held : {at : ℕ} (ps : List Point) → FitPoints ps → Holds xs at (each point_words ps) → points_at xs at (length ps) ≡ ps
  unfolding points_at
  points_held {at} ps f h =
      map_upto_is (λ (k : ℕ). point_at xs (at + k * 18)) ps (λ k d l. point_held (get_or ps k d) (f.each k d l) (holds_each point_words 18 length_point at ps k d l h))

  pub manifold_held : {at : ℕ} (m : Manifold) → FitManifold m → Holds xs at (manifold_words m) → manifold_at xs at ≡ m
  unfolding manifold_at manifold_words
  manifold_held {at} m f h =
      let ws = each point_words m.points in
      let s : Holds xs at (head m) = holds_left (head m) (padded 72 ws) h in
      let l : length ws ≤ 72 = rw (length_each point_words 18 length_point m.points) (mul-le-mul_right 18 f.points.few) in
      let r : Holds xs (at + 9) ws = holds_padded 72 ws l (holds_right (head m) (padded 72 ws) 9 refl h) in
      λ i. record {
        points = (ap (points_at xs (at + 9)) (first_held s) ∙ points_held m.points f.points r) i;
        normal = vec3_held m.normal f.normal (holds_left (vec3_words m.normal) _ (holds_right (length m.points ∷ []) _ 1 refl s)) i;
        friction = float_back m.friction f.friction (word_held s 4 tt) i;
        restitution = float_back m.restitution f.restitution (word_held s 5 tt) i;
        tangent_velocity =
            vec3_held m.tangent_velocity f.tangent_velocity
            (holds_right (length m.points ∷ vec3_words m.normal ++ (float_word m.friction ∷ float_word m.restitution ∷ [])) (vec3_words m.tangent_velocity) 6 refl s) i;
      }

  -- the words of the manifolds after their number
  manifolds_rest : {at : ℕ} (ms : List Manifold) → length ms ≤ 6 → Holds xs at (manifolds_words ms) → Holds xs (at + 1) (each manifold_words ms)
  unfolding manifolds_words
  manifolds_rest ms l h =
      let ws = each manifold_words ms in
      let n : length ws ≤ 486 = rw (length_each manifold_words 81 length_manifold ms) (mul-le-mul_right 81 l) in
      holds_padded 486 ws n (holds_right (length ms ∷ []) (padded 486 ws) 1 refl h)

  manifolds_count : {at : ℕ} (ms : List Manifold) → Holds xs at (manifolds_words ms) → word_at xs at ≡ length ms
  unfolding manifolds_words
  manifolds_count ms h = first_held h

  pub manifolds_held : {at : ℕ} (ms : List Manifold) → FitManifolds ms → Holds xs at (manifolds_words ms) → manifolds_at xs at ≡ ms
  unfolding manifolds_at
  manifolds_held {at} ms f h =
      ap (λ (n : ℕ). map (λ (k : ℕ). manifold_at xs (at + 1 + k * 81)) (upto n)) (manifolds_count ms h)
      ∙ map_upto_is (λ (k : ℕ). manifold_at xs (at + 1 + k * 81)) ms
      (λ k d l. manifold_held (get_or ms k d) (f.each k d l) (holds_each manifold_words 81 length_manifold (at + 1) ms k d l (manifolds_rest ms f.few h)))

  manifold_count_lem : {at : ℕ} (m : Manifold) → Holds xs at (manifold_words m) → word_at xs at ≡ length m.points
  unfolding manifold_words
  manifold_count_lem m h = first_held h

  pub counted_held : {at : ℕ} (ms : List Manifold) → FitManifolds ms → Holds xs at (manifolds_words ms) → Counted xs at
  counted_held {at} [] f h = record { manifolds = rw (manifolds_count [] h) (lit≤ tt); points = λ k l. absurd (omega (arith, manifolds_count [] h)) }
  counted_held {at} (m ∷ ms) f h =
      let e = manifolds_count (m ∷ ms) h in
      record {
        manifolds = rw e f.few;
        points = λ k l. let j : k < length (m ∷ ms) = rw e at l in
            rw (manifold_count_lem (get_or (m ∷ ms) k m) (holds_each manifold_words 81 length_manifold (at + 1) (m ∷ ms) k m j (manifolds_rest (m ∷ ms) f.few h)))
            (f.each k m j).points.few;
      }

  pub cache_held : {at : ℕ} (c : Option Cache) → FitCached c → Holds xs at (cache_words c) → cache_at xs at ≡ c
  unfolding cache_at cache_words zeros
  cache_held None f h = rw (first_held h)
  cache_held {at} (Some c) f h =
      let g = f.each c refl in
      let a : List ℕ = 1 ∷ quat_words c.rotation1 in
      let b : List ℕ = a ++ quat_words c.rotation2 in
      ap (λ (w : ℕ). cond (eqb w 1) (Some (cached_at xs at)) None) (first_held h)
      ∙ (λ i. Some (record {
        rotation1 = quat_held c.rotation1 g.rotation1 (holds_left (quat_words c.rotation1) _ (holds_right (1 ∷ []) _ 1 refl h)) i;
        rotation2 = quat_held c.rotation2 g.rotation2 (holds_left (quat_words c.rotation2) _ (holds_right a _ 5 refl h)) i;
        relative_translation = vec3_held c.relative_translation g.relative_translation (holds_left (vec3_words c.relative_translation) _ (holds_right b _ 9 refl h)) i;
        relative_rotation = quat_held c.relative_rotation g.relative_rotation (holds_right (b ++ vec3_words c.relative_translation) (quat_words c.relative_rotation) 12 refl h) i;
      }))

  pub flags_held : {at : ℕ} (f : PairFlags) → Holds xs at (flags_words f) → flags_at xs at ≡ f
  unfolding flags_at flags_words
  flags_held f h =
      λ i. record {
        touching = mark_back f.touching (first_held h) i;
        disjoint_aabb = mark_back f.disjoint_aabb (word_held h 1 tt) i;
        started_touching = mark_back f.started_touching (word_held h 2 tt) i;
        stopped_touching = mark_back f.stopped_touching (word_held h 3 tt) i;
        generate_constraints = mark_back f.generate_constraints (word_held h 4 tt) i;
        started_generating = mark_back f.started_generating (word_held h 5 tt) i;
        static1 = mark_back f.static1 (word_held h 6 tt) i;
        static2 = mark_back f.static2 (word_held h 7 tt) i;
        modify_contacts = mark_back f.modify_contacts (word_held h 8 tt) i;
      }

  optional_held : {at : ℕ} (o : Option ℕ) → Holds xs at (optional_words o) → optional_at xs at ≡ o
  unfolding optional_words
  optional_held None h = rw (first_held h)
  optional_held (Some n) h = λ i. cond (eqb (first_held h i) 1) (Some (word_held h 1 tt i)) None

  pub edge_held : {at : ℕ} (e : EdgeFlags) → Holds xs at (edge_words e) → edge_at xs at ≡ e
  unfolding edge_at edge_words
  edge_held e h = λ i. record { touching = mark_back e.touching (first_held h) i; contact_events = mark_back e.contact_events (word_held h 1 tt) i }

  pub names_held : {at : ℕ} (n : Names) (index : ℕ) → Holds xs at (names_words n index) → names_at xs at n.id ≡ n
  unfolding names_at names_words
  names_held {at} n index h =
      let a : List ℕ = n.collider1 ∷ n.collider2 ∷ [] in
      let b = a ++ optional_words n.body1 in
      let s : Holds xs at (b ++ optional_words n.body2) = holds_left (b ++ optional_words n.body2) (index ∷ []) h in
      let f : Holds xs at a = holds_left a (optional_words n.body1) (holds_left b (optional_words n.body2) s) in
      λ i. record {
        id = n.id;
        collider1 = first_held f i;
        collider2 = word_held f 1 tt i;
        body1 = optional_held n.body1 (holds_right a (optional_words n.body1) 2 refl (holds_left b (optional_words n.body2) s)) i;
        body2 = optional_held n.body2 (holds_right b (optional_words n.body2) 4 (ap (λ (k : ℕ). suc (suc k)) (length_optional n.body1)) s) i;
      }

  -- the number of manifolds stands 27 words after the first mark
  state_manifolds : {at : ℕ} (p : Pair) → Holds xs at (state_words p) → Holds xs (at + 27) (manifolds_words p.manifolds)
  unfolding state_words
  state_manifolds p h =
      let a = flags_words p.flags ++ int_word p.count_change ∷ float_word p.speculative ∷ cache_words p.cache in
      holds_right a (manifolds_words p.manifolds) 27 (simp length-append (omega (arith, length_flags p.flags, length_cache p.cache))) h

  contact_manifolds_lem : {at : ℕ} (index : ℕ) (p : Pair) → Holds xs at (contact_words index p) → Holds xs (at + 36) (manifolds_words p.manifolds)
  unfolding contact_words
  contact_manifolds_lem {at} index p h =
      let ns = names_words p.names index ++ edge_words p.edge in
      let n : length ns ≡ 9 = simp length-append (omega (arith, length_names p.names index, length_edge p.edge)) in
      holds_at (add_assoc at 9 27) (state_manifolds p (holds_right ns (state_words p) 9 n h))

  state_held : (at : ℕ) (p : Pair) (id : ℕ) → FitPair p → Holds xs (at + 9) (state_words p) → pair_at xs at id ≡ with_state (pair_at xs at id) p
  unfolding pair_at state_words
  state_held at p id f h =
      let fs = flags_words p.flags in
      let ws : List ℕ = int_word p.count_change ∷ float_word p.speculative ∷ cache_words p.cache in
      let s : Holds xs (at + 9) (fs ++ ws) = holds_left (fs ++ ws) (manifolds_words p.manifolds) h in
      let r : Holds xs (at + 18) ws = holds_at (add_assoc at 9 9) (holds_right fs ws 9 (length_flags p.flags) s) in
      let e : word_at xs (at + 19) ≡ float_word p.speculative = ap (word_at xs) (sym (add_assoc at 18 1)) ∙ r.each 1 (omega arith) in
      let c : Holds xs (at + 20) (cache_words p.cache) = holds_at (add_assoc at 18 2) (holds_right (int_word p.count_change ∷ float_word p.speculative ∷ []) (cache_words p.cache) 2 refl r) in
      let m : Holds xs (at + 36) (manifolds_words p.manifolds) = holds_at (add_assoc at 9 27) (state_manifolds p h) in
      λ i. record {
        names = names_at xs at id;
        edge = edge_at xs (at + 7);
        flags = flags_held p.flags (holds_left fs ws s) i;
        manifolds = manifolds_held p.manifolds f.manifolds m i;
        count_change = (ap int_of (first_held r) ∙ int_back p.count_change f.count_change) i;
        speculative = float_back p.speculative f.speculative e i;
        cache = cache_held p.cache f.cache c i;
      }

  pub pair_held : {at : ℕ} (index : ℕ) (p : Pair) → FitPair p → Holds xs at (contact_words index p) → pair_at xs at p.names.id ≡ p
  unfolding contact_words pair_at
  pair_held {at} index p f h =
      let ns = names_words p.names index in
      let es = edge_words p.edge in
      let a : Holds xs at (ns ++ es) = holds_left (ns ++ es) (state_words p) h in
      let b : Holds xs (at + 9) (state_words p) = holds_right (ns ++ es) (state_words p) 9 (simp length-append (omega (arith, length_names p.names index, length_edge p.edge))) h in
      state_held at p p.names.id f b
      ∙ (λ i. record {
        names = names_held p.names index (holds_left ns es a) i;
        edge = edge_held p.edge (holds_right ns es 7 (length_names p.names index) a) i;
        flags = p.flags;
        manifolds = p.manifolds;
        count_change = p.count_change;
        speculative = p.speculative;
        cache = p.cache;
      })

-- ---- what was stored, loaded

pub pair_back : (g : List ℕ) (at index : ℕ) (p : Pair) (id : ℕ) → p.names.id ≡ id → FitPair p → at + contact_size ≤ length g → pair_at (put g at (contact_words index p)) at id ≡ p
pair_back g at index p id e f h =
    ap (pair_at (put g at (contact_words index p)) at) (sym e) ∙ pair_held index p f (put_holds g at (contact_words index p) (rw (length_contact index p) h))

-- the names and the edge's marks stay
pub state_back : (g : List ℕ) (at : ℕ) (p : Pair) (id : ℕ) → FitPair p → at + contact_size ≤ length g
    → pair_at (put g (at + contact_flags) (state_words p)) at id ≡ with_state (pair_at g at id) p
unfolding pair_at
state_back g at p id f h =
    let l : at + 9 + length (state_words p) ≤ length g = omega (arith, length_state p) in
    let ys = put g (at + 9) (state_words p) in
    state_held at p id f (put_holds g (at + 9) (state_words p) l)
    ∙ (λ i. record {
      names = names_same id (same_put g (at + 9) (state_words p) at 6 (inl (omega arith))) i;
      edge = edge_same (same_put g (at + 9) (state_words p) (at + 7) 2 (inl (omega arith))) i;
      flags = p.flags;
      manifolds = p.manifolds;
      count_change = p.count_change;
      speculative = p.speculative;
      cache = p.cache;
    })

-- the counts of what was stored are within the limits
pub counted_back : (g : List ℕ) (at index : ℕ) (p : Pair) → FitPair p → at + contact_size ≤ length g → Counted (put g at (contact_words index p)) (at + contact_manifolds)
counted_back g at index p f h =
    counted_held p.manifolds f.manifolds (contact_manifolds_lem index p (put_holds g at (contact_words index p) (rw (length_contact index p) h)))

pub counted_state : (g : List ℕ) (at : ℕ) (p : Pair) → FitPair p → at + contact_size ≤ length g → Counted (put g (at + contact_flags) (state_words p)) (at + contact_manifolds)
counted_state g at p f h =
    let l : at + 9 + length (state_words p) ≤ length g = omega (arith, length_state p) in
    counted_held p.manifolds f.manifolds (holds_at (add_assoc at 9 27) (state_manifolds p (put_holds g (at + 9) (state_words p) l)))
