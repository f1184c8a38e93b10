-- The records of the specification as plain values. An optional value is an `Option`, and a mark is a `Bool`. Definitions only.
use Rattle.std.specs.Prelude.{ℕ, Bool, List, ℤ, Float, Option}
use Rattle.math.specs.declared.quat.Quat.{Quat}
use Rattle.math.specs.declared.vec.Vec2.{Vec2}
use Rattle.math.specs.declared.vec.Vec3.{Vec3}

-- ContactPoint. A feature number of 0 is `UNKNOWN`, and a number like any other
pub record Point : Type 0 where
  pub anchor1 : Vec3
  pub anchor2 : Vec3
  pub point : Vec3
  pub penetration : Float
  pub base_penetration : Float
  pub normal_impulse : Float
  pub normal_speed : Float
  pub warm_start_normal : Float
  pub warm_start_tangent : Vec2
  pub feature1 : ℕ
  pub feature2 : ℕ

-- ContactManifold
pub record Manifold : Type 0 where
  pub points : List Point
  pub normal : Vec3
  pub friction : Float
  pub restitution : Float
  pub tangent_velocity : Vec3

-- ContactRecyclingCache
pub record Cache : Type 0 where
  pub rotation1 : Quat
  pub rotation2 : Quat
  pub relative_translation : Vec3
  pub relative_rotation : Quat

-- ContactPairFlags
pub record PairFlags : Type 0 where
  pub touching : Bool
  pub disjoint_aabb : Bool
  pub started_touching : Bool
  pub stopped_touching : Bool
  pub generate_constraints : Bool
  pub started_generating : Bool
  pub static1 : Bool
  pub static2 : Bool
  pub modify_contacts : Bool

-- what the edge and the pair both name
pub record Names : Type 0 where
  pub id : ℕ
  pub collider1 : ℕ
  pub collider2 : ℕ
  pub body1 : Option ℕ
  pub body2 : Option ℕ

-- the edge's own marks (ContactEdgeFlags)
pub record EdgeFlags : Type 0 where
  pub touching : Bool
  pub contact_events : Bool

-- ContactPair with its ContactEdge. The edge's `pair_index` is the pair's place in the graph's list
pub record Pair : Type 0 where
  pub names : Names
  pub edge : EdgeFlags
  pub flags : PairFlags
  pub manifolds : List Manifold
  pub count_change : ℤ
  -- the stored speculative distance
  pub speculative : Float
  pub cache : Option Cache
