-- Rule 9 of one pair's update: proposed manifolds moved, filtered and pruned. Definitions only.
use Rattle.std.specs.Prelude.{Bool, true, false, cond, ◌||◌, List, [], ◌∷◌, map, ltb, Float, length, get_or}
use Rattle.std.specs.Float.Ieee.{lt, neg}
use Rattle.math.specs.Constants.{zero_f}
use Rattle.math.specs.Floats.{◌⊕◌, ◌⊖◌, ◌⊗◌}
use Rattle.math.specs.Vec.{zero2, zero3, ◌+v◌, ◌-v◌, dot, cross}
use Rattle.math.specs.declared.vec.Vec3.{Vec3}
use Rattle.rules.specs.Inputs.{ProposedPoint, ProposedManifold}
use Rattle.rules.specs.Limits.{stored_points}
use Rattle.rules.specs.Pruning.{PrunePoint, kept}
use Rattle.rules.specs.Records.{Point, Manifold}
use Rattle.rules.specs.Sides.{Side}
use Rattle.rules.specs.Surface.{Surface}

-- anchors move by (collider position − body position) − com
unfoldable pub moved_anchor : Side → Vec3 → Vec3
moved_anchor a anchor = anchor +v (a.offset -v a.world_com)

-- (v2 − v1 + ω2 cross anchor2 − ω1 cross anchor1) · normal, with the moved anchors and the velocities as they are
unfoldable pub normal_speed_at : Side → Side → Vec3 → Vec3 → Vec3 → Float
normal_speed_at a b anchor1 anchor2 normal = dot (b.linear_velocity -v a.linear_velocity +v cross b.angular_velocity anchor2 -v cross a.angular_velocity anchor1) normal

-- penetration gains the margins' sum and becomes the base; the rest as in `ContactPoint::new`
unfoldable pub moved_point : Side → Side → Float → Vec3 → ProposedPoint → Point
moved_point a b margins normal p =
    let anchor1 = moved_anchor a p.anchor1 in
    let anchor2 = moved_anchor b p.anchor2 in
    record {
      anchor1 = anchor1;
      anchor2 = anchor2;
      point = p.point;
      penetration = p.penetration ⊕ margins;
      base_penetration = p.penetration ⊕ margins;
      normal_impulse = zero_f;
      normal_speed = normal_speed_at a b anchor1 anchor2 normal;
      warm_start_normal = zero_f;
      warm_start_tangent = zero2;
      feature1 = p.feature1;
      feature2 = p.feature2;
    }

-- −penetration < distance or normal speed × step time − penetration < distance, the distance without margins
unfoldable pub stays : Float → Float → Point → Bool
stays step_time distance p = lt (neg p.penetration) distance || lt (p.normal_speed ⊗ step_time ⊖ p.penetration) distance

unfoldable pub staying : Float → Float → List Point → List Point
staying step_time distance [] = []
staying step_time distance (p ∷ ps) = cond (stays step_time distance p) (p ∷ staying step_time distance ps) (staying step_time distance ps)

-- what a number past the end would give
abbrev pub no_point : Point
no_point =
    record {
      anchor1 = zero3;
      anchor2 = zero3;
      point = zero3;
      penetration = zero_f;
      base_penetration = zero_f;
      normal_impulse = zero_f;
      normal_speed = zero_f;
      warm_start_normal = zero_f;
      warm_start_tangent = zero2;
      feature1 = 0;
      feature2 = 0;
    }

abbrev pub prune_point : Point → PrunePoint
prune_point p = record { anchor1 = p.anchor1; penetration = p.penetration }

-- manifolds of more than 4 points are pruned
unfoldable pub pruned : Vec3 → List Point → List Point
pruned normal ps =
    cond (ltb stored_points (length ps)) (map (λ i. get_or ps i no_point) (kept normal (length ps) (λ k. prune_point (get_or ps k no_point)))) ps

-- friction and restitution are stored, tangent velocity is 0
unfoldable pub filtered : Float → Side → Side → Surface → ProposedManifold → Manifold
filtered step_time a b f m =
    record {
      points = pruned m.normal (staying step_time f.effective_speculative (map (moved_point a b f.margins m.normal) m.points));
      normal = m.normal;
      friction = f.friction;
      restitution = f.restitution;
      tangent_velocity = zero3;
    }

abbrev pub is_empty {ℓ} : {A : Type ℓ} → List A → Bool
is_empty [] = true
is_empty (a ∷ rest) = false

-- empty ones go
unfoldable pub without_empty : List Manifold → List Manifold
without_empty [] = []
without_empty (m ∷ ms) = cond (is_empty m.points) (without_empty ms) (m ∷ without_empty ms)
