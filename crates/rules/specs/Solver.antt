-- What a solver writes between two calls, on plain values: one impulse of one stored point at a time.
-- A write that names no stored point of a pair in the list does nothing. Definitions only.
use Rattle.std.specs.Prelude.{ℕ, zero, suc, cond, List, [], ◌∷◌, map, eqb, Float}
use Rattle.math.specs.declared.vec.Vec2.{Vec2}
use Rattle.math.specs.Vec.{vec2}
use Rattle.rules.specs.Graph.{Graph}
use Rattle.rules.specs.Matching.{with_points}
use Rattle.rules.specs.Records.{Point, Manifold, Pair}

-- which impulse of a point; the warm start tangent impulse has two components
pub data Impulse : Type 0 where
  normal_impulse : Impulse
  warm_start_normal_impulse : Impulse
  warm_start_tangent_impulse_x : Impulse
  warm_start_tangent_impulse_y : Impulse

-- point number `point` of manifold number `manifold` of the contact with id `contact`, counted from 0
pub record Write : Type 0 where
  pub contact : ℕ
  pub manifold : ℕ
  pub point : ℕ
  pub impulse : Impulse
  pub value : Float

abbrev pub point_with : Point → Float → Float → Vec2 → Point
point_with p normal warmNormal warmTangent =
    record {
      anchor1 = p.anchor1;
      anchor2 = p.anchor2;
      point = p.point;
      penetration = p.penetration;
      base_penetration = p.base_penetration;
      normal_impulse = normal;
      normal_speed = p.normal_speed;
      warm_start_normal = warmNormal;
      warm_start_tangent = warmTangent;
      feature1 = p.feature1;
      feature2 = p.feature2;
    }

unfoldable pub point_written : Impulse → Float → Point → Point
point_written normal_impulse v p = point_with p v p.warm_start_normal p.warm_start_tangent
point_written warm_start_normal_impulse v p = point_with p p.normal_impulse v p.warm_start_tangent
point_written warm_start_tangent_impulse_x v p = point_with p p.normal_impulse p.warm_start_normal (vec2 v p.warm_start_tangent.y)
point_written warm_start_tangent_impulse_y v p = point_with p p.normal_impulse p.warm_start_normal (vec2 p.warm_start_tangent.x v)

-- the element with that number, if there is one, changed
unfoldable pub changed_at {ℓ} : {A : Type ℓ} → ℕ → (A → A) → List A → List A
changed_at n f [] = []
changed_at zero f (x ∷ xs) = f x ∷ xs
changed_at (suc n) f (x ∷ xs) = x ∷ changed_at n f xs

abbrev pub manifold_written : Write → Manifold → Manifold
manifold_written w m = with_points m (changed_at w.point (point_written w.impulse w.value) m.points)

abbrev pub with_manifolds : Pair → List Manifold → Pair
with_manifolds p ms =
    record {
      names = p.names;
      edge = p.edge;
      flags = p.flags;
      manifolds = ms;
      count_change = p.count_change;
      speculative = p.speculative;
      cache = p.cache;
    }

-- only the pair with that id changes
unfoldable pub pair_written : Write → Pair → Pair
pair_written w p = cond (eqb p.names.id w.contact) (with_manifolds p (changed_at w.manifold (manifold_written w) p.manifolds)) p

abbrev pub with_pairs : Graph → List Pair → Graph
with_pairs g ps = record { capacity = g.capacity; given = g.given; free = g.free; pairs = ps }

abbrev pub plain_write : Write → Graph → Graph
plain_write w g = with_pairs g (map (pair_written w) g.pairs)

-- each in turn
unfoldable pub plain_writes : List Write → Graph → Graph
plain_writes [] g = g
plain_writes (w ∷ ws) g = plain_writes ws (plain_write w g)
