-- What is loaded fits: every float is read from a word, and the lists are as long as the counts say. Assumes nothing.
use Rattle.std.specs.Prelude.{◌≡◌, Bool, true, false, cond, List, None, Some}
use Rattle.std.proofs.Common.{sym, arith}
use Rattle.std.proofs.Math.Path.{subst}
use Prim.Native.Nat.{ℕ, ◌+◌, ◌*◌, ◌≤◌, ◌<◌}
use Rattle.rules.specs.Records.{Point, Manifold, Cache}
use Rattle.words.specs.Words.{word_at, mark_at}
use Rattle.words.specs.WordLaws.{read_fits, vec3_fits, quat_fits}
use Rattle.manifold_records.specs.Counts.{Counted}
use Rattle.manifold_records.specs.ListLaws.{get_d_map_upto, length_map_upto}
use Rattle.manifold_records.specs.Recorded.{point_at, points_at, manifold_at, manifolds_at}
use Rattle.contact_records.specs.Fit.{FitPoint, FitPoints, FitManifold, FitManifolds, FitCache, FitCached, FitPair}
use Rattle.contact_records.proofs.IntLaws.{int_fits}
use Rattle.layout.specs.Contact.{contact_manifolds}
use Rattle.contact_records.specs.MadeLaws.{cached_at}
use Rattle.contact_records.specs.Recorded.{cache_at, pair_at}

module _ (xs : List ℕ) where
  pub point_fits : (at : ℕ) → FitPoint (point_at xs at)
  unfolding point_at
  point_fits at =
      record {
        anchor1 = vec3_fits xs at;
        anchor2 = vec3_fits xs (at + 3);
        point = vec3_fits xs (at + 6);
        penetration = read_fits xs (at + 9);
        base_penetration = read_fits xs (at + 10);
        normal_impulse = read_fits xs (at + 11);
        normal_speed = read_fits xs (at + 12);
        warm_start_normal = read_fits xs (at + 13);
        warm_start_tangent1 = read_fits xs (at + 14);
        warm_start_tangent2 = read_fits xs (at + 15);
      }

  pub points_fit : (at n : ℕ) → n ≤ 4 → FitPoints (points_at xs at n)
  unfolding points_at
  points_fit at n l =
      let f : ℕ → Point = λ (k : ℕ). point_at xs (at + k * 18) in
      let e = length_map_upto f n in
      record { few = rw e l; each = λ k d h. subst FitPoint (sym (get_d_map_upto f n k d (rw e at h))) (point_fits (at + k * 18)) }

  pub manifold_fits : (at : ℕ) → word_at xs at ≤ 4 → FitManifold (manifold_at xs at)
  unfolding manifold_at
  manifold_fits at l =
      record {
        points = points_fit (at + 9) (word_at xs at) l;
        normal = vec3_fits xs (at + 1);
        friction = read_fits xs (at + 4);
        restitution = read_fits xs (at + 5);
        tangent_velocity = vec3_fits xs (at + 6);
      }

  pub manifolds_fit_lem : (at : ℕ) → Counted xs at → FitManifolds (manifolds_at xs at)
  unfolding manifolds_at
  manifolds_fit_lem at c =
      let f : ℕ → Manifold = λ (k : ℕ). manifold_at xs (at + 1 + k * 81) in
      let n = word_at xs at in
      let e = length_map_upto f n in
      record {
        few = rw e c.manifolds;
        each = λ k d h. let l : k < n = rw e at h in subst FitManifold (sym (get_d_map_upto f n k d l)) (manifold_fits (at + 1 + k * 81) (c.points k l));
      }

  pub cache_fits : (at : ℕ) → FitCached (cache_at xs at)
  unfolding cache_at
  cache_fits at = record { each = go (mark_at xs at) }
    where
      here : FitCache (cached_at xs at)
      here = record { rotation1 = quat_fits xs (at + 1); rotation2 = quat_fits xs (at + 5); relative_translation = vec3_fits xs (at + 9); relative_rotation = quat_fits xs (at + 12) }

      go : (b : Bool) (c : Cache) → cond b (Some (cached_at xs at)) None ≡ Some c → FitCache c
      go true c e = subst FitCache (let q : cached_at xs at ≡ c = cc in q) here
      go false c e = absurd (let z : ◌≡◌ {A = ℕ} 0 1 = cc in omega arith)

  pub pair_fits : (at id : ℕ) → Counted xs (at + contact_manifolds) → FitPair (pair_at xs at id)
  unfolding pair_at
  pair_fits at id c =
      record {
        manifolds = manifolds_fit_lem (at + 36) c;
        count_change = int_fits (word_at xs (at + 18));
        speculative = read_fits xs (at + 19);
        cache = cache_fits (at + 20);
      }
