-- What words record: points and manifolds read as plain values of `rules`. Definitions only.
-- A list has as many elements as its count says.
use Rattle.std.specs.Prelude.{ℕ, ◌+◌, ◌*◌, List, map}
use Rattle.math.specs.Vec.{vec2}
use Rattle.rows.specs.Slots.{upto}
use Rattle.rules.specs.Records.{Point, Manifold}
use Rattle.words.specs.Words.{word_at, float_at, vec3_at}
use Rattle.layout.specs.Manifold.{manifold_friction, manifold_points, manifold_restitution, manifold_size, manifold_tangent_velocity}
use Rattle.layout.specs.Point.{point_anchor2, point_base_penetration, point_feature2, point_features, point_normal_impulse, point_normal_speed, point_penetration, point_position, point_size, point_warm_start_normal_impulse, point_warm_start_tangent_impulse, point_warm_start_tangent_impulse_y}

unfoldable pub point_at : List ℕ → ℕ → Point
point_at xs at =
    record {
      anchor1 = vec3_at xs at;
      anchor2 = vec3_at xs (at + point_anchor2);
      point = vec3_at xs (at + point_position);
      penetration = float_at xs (at + point_penetration);
      base_penetration = float_at xs (at + point_base_penetration);
      normal_impulse = float_at xs (at + point_normal_impulse);
      normal_speed = float_at xs (at + point_normal_speed);
      warm_start_normal = float_at xs (at + point_warm_start_normal_impulse);
      warm_start_tangent = vec2 (float_at xs (at + point_warm_start_tangent_impulse)) (float_at xs (at + point_warm_start_tangent_impulse_y));
      feature1 = word_at xs (at + point_features);
      feature2 = word_at xs (at + point_feature2);
    }

unfoldable pub points_at : List ℕ → ℕ → ℕ → List Point
points_at xs at count = map (λ k. point_at xs (at + k * point_size)) (upto count)

unfoldable pub manifold_at : List ℕ → ℕ → Manifold
manifold_at xs at =
    record {
      points = points_at xs (at + manifold_points) (word_at xs at);
      normal = vec3_at xs (at + 1);
      friction = float_at xs (at + manifold_friction);
      restitution = float_at xs (at + manifold_restitution);
      tangent_velocity = vec3_at xs (at + manifold_tangent_velocity);
    }

-- the number of manifolds at a place, and the manifolds after it
unfoldable pub manifolds_at : List ℕ → ℕ → List Manifold
manifolds_at xs at = map (λ k. manifold_at xs (at + 1 + k * manifold_size)) (upto (word_at xs at))
