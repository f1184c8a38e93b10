-- What the points of an array are as plain values of `rules`, and what the functions that store new points and manifolds promise. Definitions only.
use Rattle.std.specs.Prelude.{◌≡◌, true, false, cond, List, map, ℕ, ◌≤◌, length, take, Option, Some, None}
use Rattle.math.specs.declared.vec.Vec3.{Vec3}
use Rattle.rows.specs.Rows.{put, each}
use Rattle.rules.specs.Filtering.{moved_point, stays, staying, pruned, filtered, is_empty}
use Rattle.rules.specs.Inputs.{ProposedPoint, ProposedManifold}
use Rattle.rules.specs.Records.{Point, Manifold}
use Rattle.collider.specs.Views.{plain_side}
use Rattle.contact_filtering.specs.declared.filtering.Filtering.{Filtering}
use Rattle.contact_parameters.specs.Views.{plain_surface}
use Rattle.contact_types.specs.Views.{point_of}
use Rattle.contact_types.specs.declared.contact_point.ContactPoint.{ContactPoint}
use Rattle.manifold_records.specs.Written.{point_words, manifold_words}
use Rattle.narrow_phase.specs.declared.manifold.ManifoldPoints.{ManifoldPoints}

-- a proposed point, moved
abbrev pub moved_by : Filtering → Vec3 → ProposedPoint → Point
moved_by f normal = moved_point (plain_side f.a) (plain_side f.b) f.surface.margins normal

-- the points left of those proposed: of the moved ones, those that stay, pruned
abbrev pub left_of : Filtering → Vec3 → List ProposedPoint → List Point
left_of f normal ps = pruned normal (staying f.step_time f.surface.effective_speculative (map (moved_by f normal) ps))

-- a proposed manifold, with the points that are left
abbrev pub filtered_by : Filtering → ProposedManifold → Manifold
filtered_by f = filtered f.step_time (plain_side f.a) (plain_side f.b) (plain_surface f.surface)

-- The promise of `staying_point`: that point, where it stays.
pub record StaysAs (f : Filtering) (p : Point) (r : Option ContactPoint) : Type 0 where
  pub some : (q : ContactPoint) → r ≡ Some q → (stays f.step_time f.surface.effective_speculative p ≡ true) × (point_of q ≡ p)
  pub none : r ≡ None → stays f.step_time f.surface.effective_speculative p ≡ false

-- the first points of an array
unfoldable pub first_points : ℕ → List ContactPoint → List Point
first_points n ps = map point_of (take n ps)

-- The promise of `kept_points`: these points, at most 4.
pub record PrunedTo (ps : List Point) (r : ManifoldPoints) : Type 0 where
  pub points : first_points r.count r.points ≡ ps
  pub few : r.count ≤ 4
  pub four : length r.points ≡ 4

-- The promise of `store_few` and `store_left`: the words of these points stand from that place on. They are r, at most 4.
pub record PointsStored (ps : List Point) (at : ℕ) (before after : List ℕ) (r : ℕ) : Type 0 where
  pub words : after ≡ put before at (each point_words ps)
  pub count : length ps ≡ r
  pub few : r ≤ 4

-- The promise of `store_filtered`: this manifold's words stand at that place, unless it has no point. Its points are r, at most 4.
pub record ManifoldStored (m : Manifold) (at : ℕ) (before after : List ℕ) (r : ℕ) : Type 0 where
  pub words : after ≡ cond (is_empty m.points) before (put before at (manifold_words m))
  pub count : length m.points ≡ r
  pub few : r ≤ 4

-- The promise of `store_new` and `store_remaining`: the words of these manifolds stand from that place on. They are r, at most 6.
pub record ManifoldsStored (ms : List Manifold) (at : ℕ) (before after : List ℕ) (r : ℕ) : Type 0 where
  pub words : after ≡ put before at (each manifold_words ms)
  pub count : length ms ≡ r
  pub few : r ≤ 6
