-- Rules 7 and 8 of one pair's update: friction, restitution, margins, and the distance without them. Definitions only.
use Rattle.std.specs.Prelude.{ℕ, cond, ◌||◌, eqb, ltb, Float, Option, unwrap_or}
use Rattle.std.specs.Option.{option_or}
use Rattle.std.specs.Float.Ieee.{lt, ne}
use Rattle.math.specs.Choose.{maximum, minimum}
use Rattle.math.specs.Constants.{zero_f, half, one, largest}
use Rattle.math.specs.Floats.{◌⊕◌, ◌⊗◌, ◌⊘◌}
use Rattle.math.specs.Root.{root}
use Rattle.math.specs.Vec.{◌-v◌, length3, clamp_length}
use Rattle.math.specs.declared.vec.Vec3.{Vec3}
use Rattle.rules.specs.Inputs.{Coefficient, Settings, Collider}
use Rattle.rules.specs.Recycling.{scaled_tolerance}
use Rattle.rules.specs.Sides.{Side}

abbrev pub or_else : {A : Type 0} → Option A → A → A
or_else = unwrap_or

-- the first that is given
abbrev pub first_given : {A : Type 0} → Option A → Option A → Option A
first_given = option_or

-- ---- rule 7
-- 1 (a + b) × 0.5, 2 root of a × b, 3 minimum, 4 product, 5 maximum
unfoldable pub ruled : ℕ → Float → Float → Float
ruled n a b =
    cond (eqb n 1) ((a ⊕ b) ⊗ half) (cond (eqb n 2) (root (a ⊗ b)) (cond (eqb n 3) (minimum a b) (cond (eqb n 4) (a ⊗ b) (maximum a b))))

-- by the larger rule number
unfoldable pub combine : Coefficient → Coefficient → Float
combine a b = ruled (cond (ltb a.rule b.rule) b.rule a.rule) a.value b.value

-- collider's, else body's, else default
unfoldable pub friction_of : Settings → Collider → Side → Coefficient
friction_of s c a = or_else (first_given c.friction a.friction) s.default_friction

-- collider's, else default: never the body's
unfoldable pub restitution_of : Settings → Collider → Coefficient
restitution_of s c = or_else c.restitution s.default_restitution

-- collider's, else body's, else 0
unfoldable pub margin_of : Collider → Side → Float
margin_of c a = or_else (first_given c.margin a.margin) zero_f

-- ---- rule 8
-- each velocity whose maximum is below f32's largest is clamped to maximum × (1 / step time)
unfoldable pub clamped_velocity : Settings → Side → Float → Vec3
clamped_velocity s a m = cond (lt m largest) (clamp_length a.linear_velocity (m ⊗ (one ⊘ s.step_time))) a.linear_velocity

-- the length of their difference × step time: how far the bodies are expected to move relative to each other
unfoldable pub swept_distance : Settings → Side → Side → Float → Float → Float
swept_distance s a b m1 m2 = length3 (clamped_velocity s b m2 -v clamped_velocity s a m1) ⊗ s.step_time

-- if either maximum (0 if not given) is not 0, the swept distance is compared by maximum with the pair's stored distance, of rule 2; then maximum with the contact tolerance
unfoldable pub effective_speculative_of : Settings → Side → Side → Float → Float
effective_speculative_of s a b stored =
    let m1 = or_else a.speculative_maximum zero_f in
    let m2 = or_else b.speculative_maximum zero_f in
    maximum (cond (ne m1 zero_f || ne m2 zero_f) (maximum (swept_distance s a b m1 m2) stored) stored) (scaled_tolerance s)

pub record Surface : Type 0 where
  pub friction : Float
  pub restitution : Float
  -- the two margins' sum
  pub margins : Float
  -- rule 8's distance, without margins: rule 9 holds points against it. The reported contact distance is the two together
  pub effective_speculative : Float

unfoldable pub surface_of : Settings → Collider → Collider → Side → Side → Float → Surface
surface_of s c1 c2 a b stored =
    record {
      friction = combine (friction_of s c1 a) (friction_of s c2 b);
      restitution = combine (restitution_of s c1) (restitution_of s c2);
      margins = margin_of c1 a ⊕ margin_of c2 b;
      effective_speculative = effective_speculative_of s a b stored;
    }
