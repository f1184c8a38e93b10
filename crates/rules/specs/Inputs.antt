-- What a step takes, read into plain values: settings, colliders, bodies, proposals and hook answers (the specification, 'The door'). Definitions only.
use Rattle.std.specs.Prelude.{ℕ, Bool, List, Float, Option}
use Rattle.math.specs.declared.pose.Pose.{Pose}
use Rattle.math.specs.declared.vec.Vec3.{Vec3}

-- a coefficient and its combining rule, 1 to 5
pub record Coefficient : Type 0 where
  pub value : Float
  pub rule : ℕ

pub record Settings : Type 0 where
  pub step_time : Float
  pub length_unit : Float
  pub contact_tolerance : Float
  pub recycle_distance : Float
  -- the squared cosine of half the recycle angle
  pub recycle_cosine : Float
  pub match_contacts : Bool
  pub default_friction : Coefficient
  pub default_restitution : Coefficient
  -- the matching setting: features are compared by place, else by number
  pub by_place : Bool

pub record Collider : Type 0 where
  pub body : Option ℕ
  pub lower : Vec3
  pub upper : Vec3
  pub position : Vec3
  pub memberships : ℕ
  pub filters : ℕ
  pub friction : Option Coefficient
  pub restitution : Option Coefficient
  pub margin : Option Float
  pub sensor : Bool

pub record Body : Type 0 where
  pub is_static : Bool
  pub pose : Pose
  -- before the rotation
  pub center_of_mass : Vec3
  pub linear_velocity : Vec3
  -- ω
  pub angular_velocity : Vec3
  pub friction : Option Coefficient
  pub margin : Option Float
  pub speculative_maximum : Option Float
  pub sweep_radius : Float

-- what a shape proposes
pub record ProposedPoint : Type 0 where
  pub anchor1 : Vec3
  pub anchor2 : Vec3
  pub point : Vec3
  pub penetration : Float
  pub feature1 : ℕ
  pub feature2 : ℕ

pub record ProposedManifold : Type 0 where
  pub normal : Vec3
  pub points : List ProposedPoint

-- colliders and bodies by number (an absent one is `None`), proposals and hook answers by contact id
pub record Inputs : Type 0 where
  pub settings : Settings
  pub collider : ℕ → Option Collider
  pub body : ℕ → Option Body
  pub proposal : ℕ → List ProposedManifold
  pub hook : ℕ → Bool
