-- Stores one after another, put together: a law for each function that stores so, which its proof finds by `search`. Assumes nothing.
use Rattle.std.specs.Prelude.{◌≡◌, ℕ, ◌+◌, List, [], ◌∷◌}
use Rattle.rows.specs.Rows.{put}
use Rattle.rows.specs.Laws.{put_next}
use Rattle.math.specs.declared.vec.Vec3.{Vec3}
use Rattle.math.specs.declared.quat.Quat.{Quat}
use Rattle.words.specs.Words.{float_word, vec3_words, quat_words}

pub vec3_stored : (xs : List ℕ) (at : ℕ) (v : Vec3) {a b c : List ℕ}
    → a ≡ put xs at (float_word v.x ∷ []) → b ≡ put a (at + 1) (float_word v.y ∷ []) → c ≡ put b (at + 2) (float_word v.z ∷ [])
    → c ≡ put xs at (vec3_words v)
vec3_stored xs at v p q r = rw (r, q, p) (simp put_next)

pub quat_stored : (xs : List ℕ) (at : ℕ) (v : Quat) {a b c d : List ℕ}
    → a ≡ put xs at (float_word v.x ∷ []) → b ≡ put a (at + 1) (float_word v.y ∷ []) → c ≡ put b (at + 2) (float_word v.z ∷ []) → d ≡ put c (at + 3) (float_word v.w ∷ [])
    → d ≡ put xs at (quat_words v)
quat_stored xs at v p q r s = rw (s, r, q, p) (simp put_next)
