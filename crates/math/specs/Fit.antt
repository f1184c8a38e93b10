-- Floats, vectors and rotations that words hold: each float is one of 32 bits. Definitions only.
use Rattle.std.specs.Prelude.{◌≡◌, true, Float}
use Rattle.std.specs.Float.{binary32}
use Rattle.std.specs.Float.Ieee.{fits}
use Rattle.math.specs.declared.quat.Quat.{Quat}
use Rattle.math.specs.declared.vec.Vec3.{Vec3}

-- The format holds the number, so a word does. Every f32 of the code has it: the values of Rattle's float type are those that fit its format.
abbrev pub FitFloat : Float → Type 0
FitFloat x = fits binary32 x ≡ true

pub record FitVec3 (v : Vec3) : Type 0 where
  pub x : FitFloat v.x
  pub y : FitFloat v.y
  pub z : FitFloat v.z

pub record FitQuat (q : Quat) : Type 0 where
  pub x : FitFloat q.x
  pub y : FitFloat q.y
  pub z : FitFloat q.z
  pub w : FitFloat q.w
