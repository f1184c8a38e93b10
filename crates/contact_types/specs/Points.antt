-- A contact point of its words, `ContactPoint::new` and `with_feature_ids`. Definitions only.
use Rattle.std.specs.Prelude.{ℕ, ◌+◌, List, Float}
use Rattle.math.specs.Constants.{zero_f}
use Rattle.math.specs.Vec.{vec2, zero2}
use Rattle.math.specs.declared.vec.Vec3.{Vec3}
use Rattle.words.specs.Words.{float_at, vec3_at}
use Rattle.layout.specs.Point.{point_anchor2, point_base_penetration, point_feature2, point_features, point_normal_impulse, point_normal_speed, point_penetration, point_position, point_warm_start_normal_impulse, point_warm_start_tangent_impulse, point_warm_start_tangent_impulse_y}
use Rattle.contact_types.specs.Features.{feature_at}
use Rattle.contact_types.specs.declared.contact_point.ContactPoint.{ContactPoint}
use Rattle.contact_types.specs.declared.feature_id.PackedFeatureId.{PackedFeatureId}

-- the point at a place
unfoldable pub recorded_point : List ℕ → ℕ → ContactPoint
recorded_point xs at = record {
  anchor1 = vec3_at xs at;
  anchor2 = vec3_at xs (at + point_anchor2);
  point = vec3_at xs (at + point_position);
  penetration = float_at xs (at + point_penetration);
  base_penetration = float_at xs (at + point_base_penetration);
  normal_impulse = float_at xs (at + point_normal_impulse);
  normal_speed = float_at xs (at + point_normal_speed);
  warm_start_normal_impulse = float_at xs (at + point_warm_start_normal_impulse);
  warm_start_tangent_impulse = vec2 (float_at xs (at + point_warm_start_tangent_impulse)) (float_at xs (at + point_warm_start_tangent_impulse_y));
  feature_id1 = feature_at xs (at + point_features);
  feature_id2 = feature_at xs (at + point_feature2);
}

-- no impulses, no speed, no features; the base is the penetration
unfoldable pub new_point : Vec3 → Vec3 → Vec3 → Float → ContactPoint
new_point a1 a2 w p = record {
  anchor1 = a1;
  anchor2 = a2;
  point = w;
  penetration = p;
  base_penetration = p;
  normal_impulse = zero_f;
  normal_speed = zero_f;
  warm_start_normal_impulse = zero_f;
  warm_start_tangent_impulse = zero2;
  feature_id1 = record { 0 = 0 };
  feature_id2 = record { 0 = 0 };
}

unfoldable pub with_features : ContactPoint → PackedFeatureId → PackedFeatureId → ContactPoint
with_features p id1 id2 = record {
  anchor1 = p.anchor1;
  anchor2 = p.anchor2;
  point = p.point;
  penetration = p.penetration;
  base_penetration = p.base_penetration;
  normal_impulse = p.normal_impulse;
  normal_speed = p.normal_speed;
  warm_start_normal_impulse = p.warm_start_normal_impulse;
  warm_start_tangent_impulse = p.warm_start_tangent_impulse;
  feature_id1 = id1;
  feature_id2 = id2;
}
