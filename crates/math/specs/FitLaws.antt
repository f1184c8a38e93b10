-- What the float leaves give is a value that 32 bits hold: sums and products whatever the operands, choices and roots where the operands are. Assumes nothing.
use Rattle.std.specs.Prelude.{◌≡◌, ℕ, zero, suc, ◌+◌, ◌*◌, ◌/◌, ◌^◌, Bool, true, false, cond, ◌⊎◌, Float}
use Rattle.std.proofs.Common.{sym, subst, inl, inr}
use Rattle.std.specs.Float.{nan, inf, fin, binary32}
use Rattle.std.specs.Float.Ieee.{fits, low, up, down}
use Rattle.std.specs.Float.Ieee.Bits.{of_bits-fits, is_true}
use Rattle.std.specs.Float.Ieee.Fits.{add-fits, sub-fits, mul-fits, round-fits, nan-fits, inf-fits}
use Rattle.math.specs.Choose.{maximum, minimum}
use Rattle.math.specs.ChooseLaws.{maximum_one, minimum_one}
use Rattle.math.specs.Constants.{bits}
use Rattle.math.specs.Fit.{FitFloat, FitVec3, FitQuat}
use Rattle.math.specs.Floats.{◌⊕◌, ◌⊖◌, ◌⊗◌}
use Rattle.math.specs.Pose.{relative}
use Rattle.math.specs.Quat.{identity, times, rotate}
use Rattle.math.specs.Root.{sticky, floor_root, nearest_root, root_of, root}
use Rattle.math.specs.Vec.{zero3, ◌+v◌, dot}
use Rattle.math.specs.declared.pose.Pose.{Pose}
use Rattle.math.specs.declared.quat.Quat.{Quat}
use Rattle.math.specs.declared.vec.Vec3.{Vec3}

-- ---- floats
pub bits_fit : (n : ℕ) → FitFloat (bits n)
bits_fit n = is_true (fits binary32 (bits n)) (of_bits-fits binary32 n)

pub sum_fits : (a b : Float) → FitFloat (a ⊕ b)
sum_fits a b = is_true (fits binary32 (a ⊕ b)) (add-fits binary32 a b)

pub difference_fits : (a b : Float) → FitFloat (a ⊖ b)
difference_fits a b = is_true (fits binary32 (a ⊖ b)) (sub-fits binary32 a b)

pub product_fits : (a b : Float) → FitFloat (a ⊗ b)
product_fits a b = is_true (fits binary32 (a ⊗ b)) (mul-fits binary32 a b)

pub cond_fit : (t : Bool) (a b : Float) → FitFloat a → FitFloat b → FitFloat (cond t a b)
cond_fit true a b h k = h
cond_fit false a b h k = k

-- what is one of two is held where both are
one_fits : (a b x : Float) → (x ≡ a) ⊎ (x ≡ b) → FitFloat a → FitFloat b → FitFloat x
one_fits a b x (inl e) h k = subst FitFloat (sym e) h
one_fits a b x (inr e) h k = subst FitFloat (sym e) k

pub maximum_fits : (a b : Float) → FitFloat a → FitFloat b → FitFloat (maximum a b)
maximum_fits a b h k = one_fits a b (maximum a b) (maximum_one a b) h k

pub minimum_fits : (a b : Float) → FitFloat a → FitFloat b → FitFloat (minimum a b)
minimum_fits a b h k = one_fits a b (minimum a b) (minimum_one a b) h k

nearest_fits : (n : ℕ) → FitFloat (nearest_root binary32 n)
unfolding nearest_root
nearest_fits n = is_true (fits binary32 (nearest_root binary32 n)) (round-fits binary32 false (2 * floor_root n + sticky n (floor_root n)) (2 ^ suc (low binary32)))

-- a zero's root is that zero, as it came
pub root_fits : (x : Float) → FitFloat x → FitFloat (root x)
unfolding root root_of
root_fits nan h = is_true (fits binary32 nan) (nan-fits binary32)
root_fits (inf true) h = is_true (fits binary32 nan) (nan-fits binary32)
root_fits (inf false) h = is_true (fits binary32 (inf false)) (inf-fits binary32 false)
root_fits (fin s zero e) h = h
root_fits (fin true (suc m) e) h = is_true (fits binary32 nan) (nan-fits binary32)
root_fits (fin false (suc m) e) h = nearest_fits (suc m * up e * (2 ^ low binary32 * 2 ^ low binary32) / down e)

-- ---- vectors and rotations
pub zero3_fits : FitVec3 zero3
zero3_fits = record { x = bits_fit 0; y = bits_fit 0; z = bits_fit 0 }

pub identity_fits : FitQuat identity
identity_fits = record { x = bits_fit 0; y = bits_fit 0; z = bits_fit 0; w = bits_fit 0x3f80_0000 }

pub dot_fits : (a b : Vec3) → FitFloat (dot a b)
unfolding dot
dot_fits a b = sum_fits (a.x ⊗ b.x ⊕ a.y ⊗ b.y) (a.z ⊗ b.z)

pub vector_sum_fits : (a b : Vec3) → FitVec3 (a +v b)
unfolding ◌+v◌
vector_sum_fits a b = record { x = sum_fits a.x b.x; y = sum_fits a.y b.y; z = sum_fits a.z b.z }

pub times_fits : (a b : Quat) → FitQuat (times a b)
unfolding times
times_fits a b =
    record {
      x = difference_fits _ (a.z ⊗ b.y);
      y = sum_fits _ (a.z ⊗ b.x);
      z = sum_fits _ (a.z ⊗ b.w);
      w = difference_fits _ (a.z ⊗ b.z);
    }

-- the last step of each is a sum
pub rotate_fits : (q : Quat) (v : Vec3) → FitVec3 (rotate q v)
unfolding rotate
rotate_fits q v = vector_sum_fits _ _

pub relative_position_fits : (a b : Pose) → FitVec3 (relative a b).position
unfolding relative
relative_position_fits a b = rotate_fits _ _

pub relative_rotation_fits : (a b : Pose) → FitQuat (relative a b).rotation
unfolding relative
relative_rotation_fits a b = times_fits _ _
