-- The words of a plain point, of a manifold and of a list of them, 0 in places that record nothing. Definitions only.
use Rattle.std.specs.Prelude.{ℕ, zero, suc, ◌*◌, List, [], ◌∷◌, ◌++◌, length, take}
use Rattle.rows.specs.Rows.{each}
use Rattle.rules.specs.Limits.{stored_points, pair_manifolds}
use Rattle.rules.specs.Records.{Point, Manifold}
use Rattle.words.specs.Words.{float_word, vec3_words}
use Rattle.layout.specs.Manifold.{manifold_size}
use Rattle.layout.specs.Point.{point_size}

unfoldable pub zeros : ℕ → List ℕ
zeros zero = []
zeros (suc n) = 0 ∷ zeros n

-- the words, filled up with zeros to that many
unfoldable pub padded : ℕ → List ℕ → List ℕ
padded n ws = take n (ws ++ zeros n)

unfoldable pub point_words : Point → List ℕ
point_words p =
    vec3_words p.anchor1 ++ vec3_words p.anchor2 ++ vec3_words p.point
    ++ (float_word p.penetration ∷ float_word p.base_penetration ∷ float_word p.normal_impulse ∷ float_word p.normal_speed ∷ float_word p.warm_start_normal
    ∷ float_word p.warm_start_tangent.x ∷ float_word p.warm_start_tangent.y ∷ p.feature1 ∷ p.feature2 ∷ [])

unfoldable pub manifold_words : Manifold → List ℕ
manifold_words m =
    length m.points ∷ vec3_words m.normal ++ (float_word m.friction ∷ float_word m.restitution ∷ []) ++ vec3_words m.tangent_velocity
    ++ padded (stored_points * point_size) (each point_words m.points)

unfoldable pub manifolds_words : List Manifold → List ℕ
manifolds_words ms = length ms ∷ padded (pair_manifolds * manifold_size) (each manifold_words ms)
