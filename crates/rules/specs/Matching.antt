-- `match_contacts`: the specification, 'Matching and pruning', and rule 11. Definitions only.
use Rattle.std.specs.Prelude.{ℕ, Bool, cond, not, ◌&&◌, ◌||◌, List, [], ◌∷◌, map, eqb, length, get_or, Float, Option, None, Some}
use Rattle.std.specs.Float.Ieee.{lt}
use Rattle.math.specs.Floats.{◌⊗◌}
use Rattle.math.specs.Vec.{squared_distance}
use Rattle.math.specs.declared.vec.Vec3.{Vec3}
use Rattle.rules.specs.Numbers.{first}
use Rattle.rules.specs.Records.{Point, Manifold}

-- a rule by which a new point's features are compared with an old one's
abbrev pub FeatureRule : Type 0
FeatureRule = Point → Point → Bool

-- a new feature is 0
abbrev pub unknown : Point → Bool
unknown new = eqb new.feature1 0 || eqb new.feature2 0

-- by number: equal straight or crossed, 0 included
unfoldable pub by_number : FeatureRule
by_number new old =
    (eqb new.feature1 old.feature1 && eqb new.feature2 old.feature2) || (eqb new.feature2 old.feature1 && eqb new.feature1 old.feature2)

-- by place: compared only if neither of the new point's numbers is 0
unfoldable pub by_place : FeatureRule
by_place new old = not (unknown new) && by_number new old

-- the rule that the matching setting says: 0 by number, 1 by place
abbrev pub feature_rule : Bool → FeatureRule
feature_rule place new old = cond place (by_place new old) (by_number new old)

abbrev pub close : Float → Vec3 → Vec3 → Bool
close square a b = lt (squared_distance a b) square

-- close anchors, under either rule: straight only if a new feature is 0, crossed always
unfoldable pub anchors_match : Float → Point → Point → Bool
anchors_match square new old =
    (unknown new && (close square new.anchor1 old.anchor1 && close square new.anchor2 old.anchor2)) || (close square new.anchor1 old.anchor2 && close square new.anchor2 old.anchor1)

abbrev pub matches : FeatureRule → Float → Point → Point → Bool
matches same square new old = same new old || anchors_match square new old

-- the number of the old point whose impulses a new point takes: the first that matches
unfoldable pub source : FeatureRule → Float → List Point → Point → Option ℕ
source same square olds new = first (λ k. matches same square new (get_or olds k new)) (length olds)

-- a point with the impulses of an old one
abbrev pub with_impulses : Point → Point → Point
with_impulses new old = record {
  anchor1 = new.anchor1;
  anchor2 = new.anchor2;
  point = new.point;
  penetration = new.penetration;
  base_penetration = new.base_penetration;
  normal_impulse = new.normal_impulse;
  normal_speed = new.normal_speed;
  warm_start_normal = old.warm_start_normal;
  warm_start_tangent = old.warm_start_tangent;
  feature1 = new.feature1;
  feature2 = new.feature2;
}

abbrev pub taking : List Point → Point → Option ℕ → Point
taking olds new None = new
taking olds new (Some k) = with_impulses new (get_or olds k new)

unfoldable pub matched_point : FeatureRule → Float → List Point → Point → Point
matched_point same square olds new = taking olds new (source same square olds new)

abbrev pub with_points : Manifold → List Point → Manifold
with_points m ps = record { points = ps; normal = m.normal; friction = m.friction; restitution = m.restitution; tangent_velocity = m.tangent_velocity }

-- against one old manifold's points. The threshold's square is compared
unfoldable pub match_contacts : FeatureRule → Float → List Point → Manifold → Manifold
match_contacts same threshold olds m = with_points m (map (matched_point same (threshold ⊗ threshold) olds) m.points)

-- against every old manifold in turn: a later one overrides
unfoldable pub match_all : FeatureRule → Float → List Manifold → Manifold → Manifold
match_all same threshold [] m = m
match_all same threshold (o ∷ os) m = match_all same threshold os (match_contacts same threshold o.points m)
