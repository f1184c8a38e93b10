-- Rules 2 and 3 of one pair's update: overlap, layers, and what is read of each side's body. Definitions only.
use Rattle.std.specs.Prelude.{ℕ, Bool, true, false, not, ◌&&◌, eqb, Float, Option, None, Some}
use Rattle.std.specs.Int.Bits.{bit_and}
use Rattle.std.specs.Float.Ieee.{le}
use Rattle.math.specs.Constants.{zero_f}
use Rattle.math.specs.Floats.{◌⊕◌, ◌⊖◌}
use Rattle.math.specs.Quat.{identity, rotate}
use Rattle.math.specs.Vec.{zero3, ◌-v◌}
use Rattle.math.specs.declared.pose.Pose.{Pose}
use Rattle.math.specs.declared.vec.Vec3.{Vec3}
use Rattle.rules.specs.Inputs.{Coefficient, Collider, Body}

-- ---- rule 2
-- on one axis: min1 ≤ max2 and max1 ≥ min2
abbrev pub overlaps_on : Float → Float → Float → Float → Bool
overlaps_on min1 max1 min2 max2 = le min1 max2 && le min2 max1

-- box 2 alone is grown by the speculative distance
unfoldable pub overlap : Collider → Collider → Float → Bool
overlap c1 c2 s =
    overlaps_on c1.lower.x c1.upper.x (c2.lower.x ⊖ s) (c2.upper.x ⊕ s)
    && (overlaps_on c1.lower.y c1.upper.y (c2.lower.y ⊖ s) (c2.upper.y ⊕ s)
    && overlaps_on c1.lower.z c1.upper.z (c2.lower.z ⊖ s) (c2.upper.z ⊕ s))

abbrev pub meet : ℕ → ℕ → Bool
meet a b = not (eqb (bit_and a b) 0)

-- each side's memberships meet the other's filters
unfoldable pub interact : Collider → Collider → Bool
interact c1 c2 = meet c1.memberships c2.filters && meet c2.memberships c1.filters

-- ---- rule 3: what is read of a side's body
pub record Side : Type 0 where
  -- the body is there
  pub present : Bool
  pub is_static : Bool
  -- collider position − body position
  pub offset : Vec3
  -- rotation times centre of mass
  pub world_com : Vec3
  pub pose : Pose
  pub linear_velocity : Vec3
  pub angular_velocity : Vec3
  pub friction : Option Coefficient
  pub margin : Option Float
  pub speculative_maximum : Option Float
  pub sweep_radius : Float

-- an absent body gives zeros (offset to the collider too), identity rotation and not static
unfoldable pub side_of : Collider → Option Body → Side
side_of c None =
    record {
      present = false;
      is_static = false;
      offset = zero3;
      world_com = zero3;
      pose = record { position = zero3; rotation = identity };
      linear_velocity = zero3;
      angular_velocity = zero3;
      friction = None;
      margin = None;
      speculative_maximum = None;
      sweep_radius = zero_f;
    }
side_of c (Some b) =
    record {
      present = true;
      is_static = b.is_static;
      offset = c.position -v b.pose.position;
      world_com = rotate b.pose.rotation b.center_of_mass;
      pose = b.pose;
      linear_velocity = b.linear_velocity;
      angular_velocity = b.angular_velocity;
      friction = b.friction;
      margin = b.margin;
      speculative_maximum = b.speculative_maximum;
      sweep_radius = b.sweep_radius;
    }
