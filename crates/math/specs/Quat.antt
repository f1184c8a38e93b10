-- Quaternions, as the specification, 'Float leaves', writes them. Definitions only.
use Rattle.std.specs.Prelude.{Float}
use Rattle.std.specs.Float.Ieee.{neg}
use Rattle.math.specs.Floats.{◌⊕◌, ◌⊖◌, ◌⊗◌}
use Rattle.math.specs.Constants.{zero_f, one, two}
use Rattle.math.specs.Vec.{vec3, ◌+v◌, ◌*v◌, dot, cross, length3}
use Rattle.math.specs.declared.vec.Vec3.{Vec3}
use Rattle.math.specs.declared.quat.Quat.{Quat}

abbrev pub identity : Quat
identity = record { x = zero_f; y = zero_f; z = zero_f; w = one }

-- b of the rotation (b, w)
unfoldable pub axis : Quat → Vec3
axis q = vec3 q.x q.y q.z

unfoldable pub dot4 : Quat → Quat → Float
dot4 a b = a.x ⊗ b.x ⊕ a.y ⊗ b.y ⊕ a.z ⊗ b.z ⊕ a.w ⊗ b.w

-- the quaternion product, from the left
unfoldable pub times : Quat → Quat → Quat
times a b = record {
  x = a.w ⊗ b.x ⊕ a.x ⊗ b.w ⊕ a.y ⊗ b.z ⊖ a.z ⊗ b.y;
  y = a.w ⊗ b.y ⊖ a.x ⊗ b.z ⊕ a.y ⊗ b.w ⊕ a.z ⊗ b.x;
  z = a.w ⊗ b.z ⊕ a.x ⊗ b.y ⊖ a.y ⊗ b.x ⊕ a.z ⊗ b.w;
  w = a.w ⊗ b.w ⊖ a.x ⊗ b.x ⊖ a.y ⊗ b.y ⊖ a.z ⊗ b.z;
}

-- (−b, w)
unfoldable pub inverse : Quat → Quat
inverse q = record { x = neg q.x; y = neg q.y; z = neg q.z; w = q.w }

-- v(w² − b·b) + b(2(v·b)) + (b cross v)(2w)
unfoldable pub rotate : Quat → Vec3 → Vec3
rotate q v =
    let b = axis q in
    v *v (q.w ⊗ q.w ⊖ dot b b) +v b *v (two ⊗ dot v b) +v cross b v *v (two ⊗ q.w)

-- 2 × length of x, y, z
unfoldable pub chord_length : Quat → Float
chord_length q = two ⊗ length3 (axis q)
