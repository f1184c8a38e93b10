-- A quaternion's matrix, and a matrix applied, as the specification, 'Float leaves', writes them. Definitions only.
use Rattle.math.specs.Floats.{◌⊕◌, ◌⊖◌, ◌⊗◌}
use Rattle.math.specs.Constants.{one}
use Rattle.math.specs.Vec.{vec3, ◌+v◌, ◌*v◌}
use Rattle.math.specs.declared.vec.Vec3.{Vec3}
use Rattle.math.specs.declared.quat.Quat.{Quat}
use Rattle.math.specs.declared.mat.Mat3.{Mat3}

-- X meaning x + x and so on, the columns (1 − (yY + zZ), xY + wZ, xZ − wY), (xY − wZ, 1 − (xX + zZ), yZ + wX), (xZ + wY, yZ − wX, 1 − (xX + yY))
unfoldable pub matrix : Quat → Mat3
matrix q =
    let X = q.x ⊕ q.x in
    let Y = q.y ⊕ q.y in
    let Z = q.z ⊕ q.z in
    record {
      x_axis = vec3 (one ⊖ (q.y ⊗ Y ⊕ q.z ⊗ Z)) (q.x ⊗ Y ⊕ q.w ⊗ Z) (q.x ⊗ Z ⊖ q.w ⊗ Y);
      y_axis = vec3 (q.x ⊗ Y ⊖ q.w ⊗ Z) (one ⊖ (q.x ⊗ X ⊕ q.z ⊗ Z)) (q.y ⊗ Z ⊕ q.w ⊗ X);
      z_axis = vec3 (q.x ⊗ Z ⊕ q.w ⊗ Y) (q.y ⊗ Z ⊖ q.w ⊗ X) (one ⊖ (q.x ⊗ X ⊕ q.y ⊗ Y));
    }

infixl 70 ◌*m◌
-- applied in turn from the left
unfoldable pub ◌*m◌ : Mat3 → Vec3 → Vec3
m *m v = m.x_axis *v v.x +v m.y_axis *v v.y +v m.z_axis *v v.z
