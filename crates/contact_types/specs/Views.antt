-- What a point of the code is as a plain record of `rules`. Definitions only.
use Rattle.rules.specs.Records.{Point}
use Rattle.contact_types.specs.declared.contact_point.ContactPoint.{ContactPoint}

abbrev pub point_of : ContactPoint → Point
point_of p = record {
  anchor1 = p.anchor1;
  anchor2 = p.anchor2;
  point = p.point;
  penetration = p.penetration;
  base_penetration = p.base_penetration;
  normal_impulse = p.normal_impulse;
  normal_speed = p.normal_speed;
  warm_start_normal = p.warm_start_normal_impulse;
  warm_start_tangent = p.warm_start_tangent_impulse;
  feature1 = p.feature_id1.0;
  feature2 = p.feature_id2.0;
}
