-- A pair but for the impulses of its stored points, which a solver may write between two calls. Definitions only.
use Rattle.std.specs.Prelude.{map}
use Rattle.math.specs.Constants.{zero_f}
use Rattle.math.specs.Vec.{vec2}
use Rattle.rules.specs.Matching.{with_points}
use Rattle.rules.specs.Records.{Point, Manifold, Pair}

abbrev pub stripped_point : Point → Point
stripped_point p =
    record {
      anchor1 = p.anchor1;
      anchor2 = p.anchor2;
      point = p.point;
      penetration = p.penetration;
      base_penetration = p.base_penetration;
      normal_impulse = zero_f;
      normal_speed = p.normal_speed;
      warm_start_normal = zero_f;
      warm_start_tangent = vec2 zero_f zero_f;
      feature1 = p.feature1;
      feature2 = p.feature2;
    }

abbrev pub stripped_manifold : Manifold → Manifold
stripped_manifold m = with_points m (map stripped_point m.points)

unfoldable pub stripped : Pair → Pair
stripped p =
    record {
      names = p.names;
      edge = p.edge;
      flags = p.flags;
      manifolds = map stripped_manifold p.manifolds;
      count_change = p.count_change;
      speculative = p.speculative;
      cache = p.cache;
    }
