-- Records that words hold: each float is one of 32 bits, and the lists are within the limits. Definitions only.
use Rattle.std.specs.Prelude.{◌≡◌, List, ℕ, ◌≤◌, ◌<◌, length, get_or, Option, Some}
use Rattle.std.specs.Int.{w32}
use Rattle.std.proofs.Common.{SFits}
use Rattle.math.specs.Fit.{FitFloat, FitVec3, FitQuat}
use Rattle.rules.specs.Limits.{stored_points, pair_manifolds}
use Rattle.rules.specs.Records.{Point, Manifold, Cache, Pair}

pub record FitPoint (p : Point) : Type 0 where
  pub anchor1 : FitVec3 p.anchor1
  pub anchor2 : FitVec3 p.anchor2
  pub point : FitVec3 p.point
  pub penetration : FitFloat p.penetration
  pub base_penetration : FitFloat p.base_penetration
  pub normal_impulse : FitFloat p.normal_impulse
  pub normal_speed : FitFloat p.normal_speed
  pub warm_start_normal : FitFloat p.warm_start_normal
  pub warm_start_tangent1 : FitFloat p.warm_start_tangent.x
  pub warm_start_tangent2 : FitFloat p.warm_start_tangent.y

-- by index. Past the list's end is whatever the caller says
pub record FitPoints (ps : List Point) : Type 0 where
  pub few : length ps ≤ stored_points
  pub each : (k : ℕ) (past : Point) → k < length ps → FitPoint (get_or ps k past)

pub record FitManifold (m : Manifold) : Type 0 where
  pub points : FitPoints m.points
  pub normal : FitVec3 m.normal
  pub friction : FitFloat m.friction
  pub restitution : FitFloat m.restitution
  pub tangent_velocity : FitVec3 m.tangent_velocity

pub record FitManifolds (ms : List Manifold) : Type 0 where
  pub few : length ms ≤ pair_manifolds
  pub each : (k : ℕ) (past : Manifold) → k < length ms → FitManifold (get_or ms k past)

pub record FitCache (c : Cache) : Type 0 where
  pub rotation1 : FitQuat c.rotation1
  pub rotation2 : FitQuat c.rotation2
  pub relative_translation : FitVec3 c.relative_translation
  pub relative_rotation : FitQuat c.relative_rotation

pub record FitCached (o : Option Cache) : Type 0 where
  pub each : (c : Cache) → o ≡ Some c → FitCache c

pub record FitPair (p : Pair) : Type 0 where
  pub manifolds : FitManifolds p.manifolds
  pub count_change : SFits w32 p.count_change
  pub speculative : FitFloat p.speculative
  pub cache : FitCached p.cache
