-- A record is what its words say: two rows with the same words there have the same record, so a store apart from it leaves it. Assumes nothing.
use Rattle.std.specs.Prelude.{◌≡◌, ℕ, suc, ◌+◌, ◌*◌, ◌≤◌, ◌<◌, length, None, Some}
use Rattle.std.proofs.Math.Path.{ap}
use Rattle.std.proofs.Common.{◌∙◌, suc-mul, mul-le-mul_right, arith, lit≤}
use Rattle.std.proofs.Math.Bool.{cond}
use mathlib.Core.List.{List, map}
use Rattle.std.proofs.Math.Dec.{eqb}
use Rattle.std.specs.Float.Ieee.{binary32, of_bits}
use Rattle.rows.specs.Rows.{part, put, Apart}
use Rattle.rows.specs.Slots.{upto}
use Rattle.words.specs.Words.{word_at, vec3_at, quat_at}
use Rattle.manifold_records.specs.Counts.{Counted}
use Rattle.manifold_records.specs.ListLaws.{map_upto_same}
use Rattle.manifold_records.specs.Recorded.{point_at, points_at, manifold_at, manifolds_at}
use Rattle.contact_records.specs.HeldLaws.{Same, same_in, word_same, first_same, same_put, part_same}
use Rattle.layout.specs.Contact.{contact_manifolds, contact_size}
use Rattle.layout.specs.Manifold.{manifolds_size}
use Rattle.contact_records.specs.Recorded.{optional_at, int_of, cache_at, flags_at, names_at, edge_at, pair_at}

-- place k of an array of structs
pub row_in : (n size count k : ℕ) → k < n → n ≤ count → k * size + size ≤ count * size
row_in n size count k h l = let m : suc k * size ≤ count * size = mul-le-mul_right size (let z : suc k ≤ count = omega arith in z) in omega (arith, suc-mul k size)

module _ {xs ys : List ℕ} where
  pub vec3_same : {a b : ℕ} → Same xs a ys b 3 → vec3_at ys b ≡ vec3_at xs a
  vec3_same s = λ i. record { x = of_bits binary32 (first_same s tt i); y = of_bits binary32 (word_same s 1 tt i); z = of_bits binary32 (word_same s 2 tt i) }

  quat_same : {a b : ℕ} → Same xs a ys b 4 → quat_at ys b ≡ quat_at xs a
  quat_same s =
      λ i. record { x = of_bits binary32 (first_same s tt i); y = of_bits binary32 (word_same s 1 tt i); z = of_bits binary32 (word_same s 2 tt i); w = of_bits binary32 (word_same s 3 tt i) }

  pub point_same : {a b : ℕ} → Same xs a ys b 18 → point_at ys b ≡ point_at xs a
  unfolding point_at
  point_same s =
      λ i. record {
        anchor1 = vec3_same (record { each = λ j h. s.each j (omega arith) }) i;
        anchor2 = vec3_same (same_in s 3 3 (lit≤ tt)) i;
        point = vec3_same (same_in s 6 3 (lit≤ tt)) i;
        penetration = of_bits binary32 (word_same s 9 tt i);
        base_penetration = of_bits binary32 (word_same s 10 tt i);
        normal_impulse = of_bits binary32 (word_same s 11 tt i);
        normal_speed = of_bits binary32 (word_same s 12 tt i);
        warm_start_normal = of_bits binary32 (word_same s 13 tt i);
        warm_start_tangent = record { x = of_bits binary32 (word_same s 14 tt i); y = of_bits binary32 (word_same s 15 tt i) };
        feature1 = word_same s 16 tt i;
        feature2 = word_same s 17 tt i;
      }

  pub points_same : {a b : ℕ} (n : ℕ) → n ≤ 4 → Same xs a ys b 72 → points_at ys b n ≡ points_at xs a n
  unfolding points_at
  points_same n l s = map_upto_same _ _ n (λ k h. point_same (same_in s (k * 18) 18 (row_in n 18 4 k h l)))

  pub manifold_same : {a b : ℕ} → word_at xs a ≤ 4 → Same xs a ys b 81 → manifold_at ys b ≡ manifold_at xs a
  unfolding manifold_at
  manifold_same {a} {b} l s =
      λ i. record {
        points = (ap (points_at ys (b + 9)) (first_same s tt) ∙ points_same (word_at xs a) l (same_in s 9 72 (lit≤ tt))) i;
        normal = vec3_same (same_in s 1 3 (lit≤ tt)) i;
        friction = of_bits binary32 (word_same s 4 tt i);
        restitution = of_bits binary32 (word_same s 5 tt i);
        tangent_velocity = vec3_same (same_in s 6 3 (lit≤ tt)) i;
      }

  -- the words of manifold k
  manifold_in : {a b : ℕ} (n k : ℕ) → k < n → n ≤ 6 → Same xs a ys b 487 → Same xs (a + 1 + k * 81) ys (b + 1 + k * 81) 81
  manifold_in n k h l s = same_in (same_in s 1 486 (lit≤ tt)) (k * 81) 81 (row_in n 81 6 k h l)

  pub manifolds_same : {a b : ℕ} → Counted xs a → Same xs a ys b 487 → manifolds_at ys b ≡ manifolds_at xs a
  unfolding manifolds_at
  manifolds_same {a} {b} c s =
      ap (λ (n : ℕ). map (λ (k : ℕ). manifold_at ys (b + 1 + k * 81)) (upto n)) (first_same s tt)
      ∙ map_upto_same _ _ (word_at xs a) (λ k h. manifold_same (c.points k h) (manifold_in (word_at xs a) k h c.manifolds s))

  pub counted_same : {a b : ℕ} → Counted xs a → Same xs a ys b 487 → Counted ys b
  counted_same {a} {b} c s =
      let e = first_same s tt in
      record {
        manifolds = rw e c.manifolds;
        points = λ k h. let l : k < word_at xs a = rw e at h in rw (first_same (manifold_in (word_at xs a) k l c.manifolds s) tt) (c.points k l);
      }

  pub cache_same : {a b : ℕ} → Same xs a ys b 16 → cache_at ys b ≡ cache_at xs a
  unfolding cache_at
  cache_same s =
      λ i. cond (eqb (first_same s tt i) 1)
      (Some (record {
        rotation1 = quat_same (same_in s 1 4 (lit≤ tt)) i;
        rotation2 = quat_same (same_in s 5 4 (lit≤ tt)) i;
        relative_translation = vec3_same (same_in s 9 3 (lit≤ tt)) i;
        relative_rotation = quat_same (same_in s 12 4 (lit≤ tt)) i;
      }))
      None

  pub flags_same : {a b : ℕ} → Same xs a ys b 9 → flags_at ys b ≡ flags_at xs a
  unfolding flags_at
  flags_same s =
      λ i. record {
        touching = eqb (first_same s tt i) 1;
        disjoint_aabb = eqb (word_same s 1 tt i) 1;
        started_touching = eqb (word_same s 2 tt i) 1;
        stopped_touching = eqb (word_same s 3 tt i) 1;
        generate_constraints = eqb (word_same s 4 tt i) 1;
        started_generating = eqb (word_same s 5 tt i) 1;
        static1 = eqb (word_same s 6 tt i) 1;
        static2 = eqb (word_same s 7 tt i) 1;
        modify_contacts = eqb (word_same s 8 tt i) 1;
      }

  optional_same : {a b : ℕ} → Same xs a ys b 2 → optional_at ys b ≡ optional_at xs a
  optional_same s = λ i. cond (eqb (first_same s tt i) 1) (Some (word_same s 1 tt i)) None

  pub names_same : {a b : ℕ} (id : ℕ) → Same xs a ys b 6 → names_at ys b id ≡ names_at xs a id
  unfolding names_at
  names_same id s =
      λ i. record {
        id = id;
        collider1 = first_same s tt i;
        collider2 = word_same s 1 tt i;
        body1 = optional_same (same_in s 2 2 (lit≤ tt)) i;
        body2 = optional_same (same_in s 4 2 (lit≤ tt)) i;
      }

  pub edge_same : {a b : ℕ} → Same xs a ys b 2 → edge_at ys b ≡ edge_at xs a
  unfolding edge_at
  edge_same s = λ i. record { touching = eqb (first_same s tt i) 1; contact_events = eqb (word_same s 1 tt i) 1 }

  pub pair_same : {a b : ℕ} (id : ℕ) → Counted xs (a + contact_manifolds) → Same xs a ys b 523 → pair_at ys b id ≡ pair_at xs a id
  unfolding pair_at
  pair_same id c s =
      λ i. record {
        names = names_same id (record { each = λ j h. s.each j (omega arith) }) i;
        edge = edge_same (same_in s 7 2 (lit≤ tt)) i;
        flags = flags_same (same_in s 9 9 (lit≤ tt)) i;
        manifolds = manifolds_same c (same_in s 36 487 (lit≤ tt)) i;
        count_change = int_of (word_same s 18 tt i);
        speculative = of_bits binary32 (word_same s 19 tt i);
        cache = cache_same (same_in s 20 16 (lit≤ tt)) i;
      }

-- ---- a record by itself, and a store apart from it

pub pair_part : (g : List ℕ) (at id : ℕ) → Counted g (at + contact_manifolds) → pair_at (part g at contact_size) 0 id ≡ pair_at g at id
pair_part g at id c = pair_same id c (part_same g at contact_size)

pub pair_apart : (g : List ℕ) (b : ℕ) (ws : List ℕ) (at id : ℕ) → Counted g (at + contact_manifolds) → Apart at contact_size b (length ws) → pair_at (put g b ws) at id ≡ pair_at g at id
pair_apart g b ws at id c s = pair_same id c (same_put g b ws at 523 s)

pub counted_apart : (g : List ℕ) (b : ℕ) (ws : List ℕ) (at : ℕ) → Counted g at → Apart at manifolds_size b (length ws) → Counted (put g b ws) at
counted_apart g b ws at c s = counted_same c (same_put g b ws at 487 s)
