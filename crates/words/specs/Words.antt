-- Numbers, floats, vectors and quaternions as words, and back. Definitions only.
-- All are `abbrev`: a value's words are a list that computes, so that lengths and places in it compute.
use Rattle.std.specs.Prelude.{ℕ, ◌+◌, Bool, true, cond, ◌&&◌, List, [], ◌∷◌, get_or, eqb, ltb, Float, Option, Some, None}
use Rattle.std.specs.Float.{binary32}
use Rattle.std.specs.Float.Ieee.{of_bits, to_bits}
use Rattle.math.specs.declared.pose.Pose.{Pose}
use Rattle.math.specs.declared.vec.Vec3.{Vec3}
use Rattle.math.specs.declared.quat.Quat.{Quat}

-- ---- from the words at a place

abbrev pub word_at : List ℕ → ℕ → ℕ
word_at xs at = get_or xs at 0

abbrev pub float_at : List ℕ → ℕ → Float
float_at xs at = of_bits binary32 (get_or xs at 0)

abbrev pub vec3_at : List ℕ → ℕ → Vec3
vec3_at xs at = record { x = float_at xs at; y = float_at xs (at + 1); z = float_at xs (at + 2) }

abbrev pub quat_at : List ℕ → ℕ → Quat
quat_at xs at = record { x = float_at xs at; y = float_at xs (at + 1); z = float_at xs (at + 2); w = float_at xs (at + 3) }

abbrev pub pose_at : List ℕ → ℕ → Pose
pose_at xs at = record { position = vec3_at xs at; rotation = quat_at xs (at + 3) }

-- a mark holds where it is 1
abbrev pub mark_at : List ℕ → ℕ → Bool
mark_at xs at = eqb (word_at xs at) 1

-- a word is a mark: 0 or 1
abbrev pub is_mark : ℕ → Bool
is_mark w = ltb w 2

-- a mark, and what is asked where it is 1
abbrev pub where_set : ℕ → Bool → Bool
where_set mark asked = is_mark mark && cond (eqb mark 1) asked true

-- a presence mark, and the value behind a mark of 1
unfoldable pub if_marked : {A : Type 0} → (List ℕ → ℕ → A) → List ℕ → ℕ → Option A
if_marked f xs at = cond (mark_at xs at) (Some (f xs (at + 1))) None

-- a record that begins with its presence mark
abbrev pub present_at : {A : Type 0} → (List ℕ → ℕ → A) → List ℕ → ℕ → Option A
present_at f xs at = cond (mark_at xs at) (Some (f xs at)) None

-- ---- to words

abbrev pub one_word : ℕ → List ℕ
one_word w = w ∷ []

abbrev pub mark_word : Bool → ℕ
mark_word b = cond b 1 0

abbrev pub float_word : Float → ℕ
float_word x = to_bits binary32 x

abbrev pub float_words : Float → List ℕ
float_words x = float_word x ∷ []

abbrev pub vec3_words : Vec3 → List ℕ
vec3_words v = float_word v.x ∷ float_word v.y ∷ float_word v.z ∷ []

abbrev pub quat_words : Quat → List ℕ
quat_words q = float_word q.x ∷ float_word q.y ∷ float_word q.z ∷ float_word q.w ∷ []
