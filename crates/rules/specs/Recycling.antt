-- Rules 4 and 5 of one pair's update: whether a pair is recycled, and what becomes of it. Definitions only.
use Rattle.std.specs.Prelude.{Bool, false, cond, not, ◌&&◌, map, Float, Option, None, Some}
use Rattle.std.specs.Float.Ieee.{le}
use Rattle.math.specs.Choose.{maximum, minimum}
use Rattle.math.specs.Constants.{zero_f}
use Rattle.math.specs.Floats.{◌⊖◌, ◌⊗◌}
use Rattle.math.specs.Mat.{matrix, ◌*m◌}
use Rattle.math.specs.Pose.{relative}
use Rattle.math.specs.Quat.{dot4, times, inverse, chord_length}
use Rattle.math.specs.Root.{root}
use Rattle.math.specs.Vec.{◌+v◌, ◌-v◌, dot, squared_distance}
use Rattle.math.specs.declared.vec.Vec3.{Vec3}
use Rattle.rules.specs.Inputs.{Settings}
use Rattle.rules.specs.Matching.{with_points}
use Rattle.rules.specs.Records.{Point, Manifold, Cache}
use Rattle.rules.specs.Sides.{Side}

-- ---- rule 4. Both distances are first multiplied by the length unit
unfoldable pub scaled_tolerance : Settings → Float
scaled_tolerance s = s.length_unit ⊗ s.contact_tolerance

unfoldable pub scaled_recycle : Settings → Float
scaled_recycle s = s.length_unit ⊗ s.recycle_distance

-- the recycle distance, for a pair not touching its minimum with the contact tolerance
unfoldable pub tolerance_for : Settings → Bool → Float
tolerance_for s touching = cond touching (scaled_recycle s) (minimum (scaled_recycle s) (scaled_tolerance s))

abbrev pub squared : Float → Float
squared x = x ⊗ x

-- the sweep radius, 0 for a static body
unfoldable pub radius : Side → Float
radius a = cond a.is_static zero_f a.sweep_radius

-- the minimum of each body's squared dot of rotation and cached rotation: a squared cosine of half the angle turned, so the smaller the more a body has turned
unfoldable pub least_squared_dot : Side → Side → Cache → Float
least_squared_dot a b k = minimum (squared (dot4 a.pose.rotation k.rotation1)) (squared (dot4 b.pose.rotation k.rotation2))

-- between the current and cached relative translation
unfoldable pub squared_motion : Side → Side → Cache → Float
squared_motion a b k = squared_distance (relative a.pose b.pose).position k.relative_translation

-- `chord_length` of cached inverse times current relative rotation, times the maximum of the sweep radii
unfoldable pub arc : Side → Side → Cache → Float
arc a b k = chord_length (times (inverse k.relative_rotation) (relative a.pose b.pose).rotation) ⊗ maximum (radius a) (radius b)

-- Each test abandons recycling where it holds, so a NaN abandons nothing.
-- recycle distance ≤ 0: recycling is off
abbrev pub recycling_off : Settings → Bool
recycling_off s = le (scaled_recycle s) zero_f

-- the least squared dot ≤ the given squared cosine of half the recycle angle
abbrev pub rotated_too_far : Settings → Float → Bool
rotated_too_far s squaredDot = le squaredDot s.recycle_cosine

-- squared distance ≥ tolerance × tolerance
abbrev pub moved_too_far : Float → Float → Bool
moved_too_far tolerance d2 = le (tolerance ⊗ tolerance) d2

-- arc ≥ tolerance − distance
abbrev pub arc_too_long : Float → Float → Float → Bool
arc_too_long tolerance d2 arcLength = le (tolerance ⊖ root d2) arcLength

-- no cache, and there is nothing to recycle; else no test abandons it
unfoldable pub recycles : Settings → Bool → Side → Side → Option Cache → Bool
recycles s touching a b None = false
recycles s touching a b (Some k) =
    not (recycling_off s)
    && (not (rotated_too_far s (least_squared_dot a b k))
    && (not (moved_too_far (tolerance_for s touching) (squared_motion a b k))
    && not (arc_too_long (tolerance_for s touching) (squared_motion a b k) (arc a b k))))

-- ---- rule 5
abbrev pub with_penetration : Point → Float → Point
with_penetration p v =
    record {
      anchor1 = p.anchor1;
      anchor2 = p.anchor2;
      point = p.point;
      penetration = v;
      base_penetration = p.base_penetration;
      normal_impulse = p.normal_impulse;
      normal_speed = p.normal_speed;
      warm_start_normal = p.warm_start_normal;
      warm_start_tangent = p.warm_start_tangent;
      feature1 = p.feature1;
      feature2 = p.feature2;
    }

-- ((com2 − com1) + (position2 − position1)) + (r2 − r1); r is the matrix of (current rotation × cached inverse) times the anchor
unfoldable pub delta_separation : Side → Side → Cache → Point → Vec3
delta_separation a b k p =
    let r1 = matrix (times a.pose.rotation (inverse k.rotation1)) *m p.anchor1 in
    let r2 = matrix (times b.pose.rotation (inverse k.rotation2)) *m p.anchor2 in
    (b.world_com -v a.world_com) +v (b.pose.position -v a.pose.position) +v (r2 -v r1)

-- base penetration − delta separation · normal
unfoldable pub recycled_point : Side → Side → Cache → Vec3 → Point → Point
recycled_point a b k normal p = with_penetration p (p.base_penetration ⊖ dot (delta_separation a b k p) normal)

unfoldable pub recycled_manifold : Side → Side → Cache → Manifold → Manifold
recycled_manifold a b k m = with_points m (map (recycled_point a b k m.normal) m.points)
