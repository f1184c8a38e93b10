-- Vectors, each operation of `lib.Ieee` rounded where the specification, 'Float leaves', writes it. Definitions only.
-- They stay shut above this crate: a caller goes by these names.
use Rattle.std.specs.Prelude.{cond, Float}
use Rattle.std.specs.Float.Ieee.{neg, lt}
use Rattle.math.specs.Floats.{◌⊕◌, ◌⊖◌, ◌⊗◌, ◌⊘◌}
use Rattle.math.specs.Constants.{zero_f}
use Rattle.math.specs.Root.{root}
use Rattle.math.specs.declared.vec.Vec2.{Vec2}
use Rattle.math.specs.declared.vec.Vec3.{Vec3}

abbrev pub vec2 : Float → Float → Vec2
vec2 a b = record { x = a; y = b }

abbrev pub vec3 : Float → Float → Float → Vec3
vec3 a b c = record { x = a; y = b; z = c }

abbrev pub zero2 : Vec2
zero2 = vec2 zero_f zero_f

abbrev pub zero3 : Vec3
zero3 = vec3 zero_f zero_f zero_f

infixl 65 ◌+v◌ ◌-v◌
infixl 70 ◌*v◌
unfoldable pub ◌+v◌ : Vec3 → Vec3 → Vec3
a +v b = vec3 (a.x ⊕ b.x) (a.y ⊕ b.y) (a.z ⊕ b.z)

unfoldable pub ◌-v◌ : Vec3 → Vec3 → Vec3
a -v b = vec3 (a.x ⊖ b.x) (a.y ⊖ b.y) (a.z ⊖ b.z)

unfoldable pub ◌*v◌ : Vec3 → Float → Vec3
a *v k = vec3 (a.x ⊗ k) (a.y ⊗ k) (a.z ⊗ k)

unfoldable pub negated : Vec3 → Vec3
negated a = vec3 (neg a.x) (neg a.y) (neg a.z)

-- x, y, z, summed from the left
unfoldable pub dot : Vec3 → Vec3 → Float
dot a b = a.x ⊗ b.x ⊕ a.y ⊗ b.y ⊕ a.z ⊗ b.z

-- (y1z2 − y2z1, z1x2 − z2x1, x1y2 − x2y1)
unfoldable pub cross : Vec3 → Vec3 → Vec3
cross a b = vec3 (a.y ⊗ b.z ⊖ b.y ⊗ a.z) (a.z ⊗ b.x ⊖ b.z ⊗ a.x) (a.x ⊗ b.y ⊖ b.x ⊗ a.y)

unfoldable pub squared_length : Vec3 → Float
squared_length v = dot v v

unfoldable pub squared_distance : Vec3 → Vec3 → Float
squared_distance a b = squared_length (a -v b)

unfoldable pub length3 : Vec3 → Float
length3 v = root (squared_length v)

-- maximum × (v / length) if squared length > maximum squared, else v
unfoldable pub clamp_length : Vec3 → Float → Vec3
clamp_length v m =
    let l = squared_length v in
    let r = root l in
    cond (lt (m ⊗ m) l) (vec3 (m ⊗ (v.x ⊘ r)) (m ⊗ (v.y ⊘ r)) (m ⊗ (v.z ⊘ r))) v

-- Reject: v − n(v·n)
unfoldable pub reject : Vec3 → Vec3 → Vec3
reject v n = v -v n *v dot v n
