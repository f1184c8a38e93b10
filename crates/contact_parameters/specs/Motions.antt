-- The motion of a pair's bodies since its cache was made, and what it does to a penetration: rule 5, with what all points share computed once. Definitions and a law.
use Rattle.std.specs.Prelude.{◌≡◌, refl, Float}
use Rattle.math.specs.Floats.{◌⊖◌}
use Rattle.math.specs.Mat.{matrix, ◌*m◌}
use Rattle.math.specs.Quat.{times, inverse}
use Rattle.math.specs.Vec.{◌+v◌, ◌-v◌, dot}
use Rattle.math.specs.declared.vec.Vec3.{Vec3}
use Rattle.rules.specs.Records.{Point, Cache}
use Rattle.rules.specs.Recycling.{delta_separation, recycled_point, with_penetration}
use Rattle.rules.specs.Sides.{Side}
use Rattle.contact_parameters.specs.declared.recycling.Motion.{Motion}

unfoldable pub motion_of : Side → Side → Cache → Motion
motion_of a b k =
    record {
      turn1 = matrix (times a.pose.rotation (inverse k.rotation1));
      turn2 = matrix (times b.pose.rotation (inverse k.rotation2));
      between = (b.world_com -v a.world_com) +v (b.pose.position -v a.pose.position);
    }

unfoldable pub penetration_after : Motion → Vec3 → Point → Float
penetration_after m normal p = p.base_penetration ⊖ dot (m.between +v (m.turn2 *m p.anchor2 -v m.turn1 *m p.anchor1)) normal

-- it is the rule's
pub recycled_by : (a b : Side) (k : Cache) (normal : Vec3) (p : Point) → recycled_point a b k normal p ≡ with_penetration p (penetration_after (motion_of a b k) normal p)
unfolding recycled_point delta_separation penetration_after motion_of
recycled_by a b k normal p = refl
