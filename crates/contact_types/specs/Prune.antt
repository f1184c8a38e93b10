-- The call `prune`: its answer for every input. Definitions only.
use Rattle.std.specs.Prelude.{ℕ, ◌+◌, ◌*◌, ◌<◌, ◌≡◌, cond, not, List, eqb, ltb, length, Err, Ok, Result}
use Rattle.math.specs.declared.vec.Vec3.{Vec3}
use Rattle.layout.specs.Prune.{prune_point_penetration, prune_point_size, prune_points_length}
use Rattle.rules.specs.Limits.{proposed_points, stored_points}
use Rattle.rules.specs.Pruning as rules
use Rattle.words.specs.Words.{float_at, vec3_at}
use Rattle.contact_types.specs.Refusals.{number_of}
use Rattle.contact_types.specs.Pruned.{point_by, kept_struct}
use Rattle.contact_types.specs.declared.pruning.KeptPoints.{KeptPoints}
use Rattle.contact_types.specs.declared.pruning.PrunePoint.{PrunePoint}
use Rattle.contact_types.specs.declared.refusal.Refusal.{Refusal}

-- the point at a place: anchor 1, then penetration
abbrev pub recorded_prune_point : List ℕ → ℕ → PrunePoint
recorded_prune_point xs at = record { anchor1 = vec3_at xs at; penetration = float_at xs (at + prune_point_penetration) }

-- point k of the lent words
abbrev pub prune_point_at : List ℕ → ℕ → rules.PrunePoint
prune_point_at words k = record { anchor1 = vec3_at words (prune_point_size * k); penetration = float_at words (prune_point_size * k + prune_point_penetration) }

-- a refusal's number, or the points that stay: the list of their numbers in the order of the output, or the struct that holds it
pub data Answer (Points : Type 0) : Type 0 where
  refused : ℕ → Answer Points
  keeps : Points → Answer Points

-- refusals 1, 8, 6, in that order: a length that is not that of `proposed_points` points, no more points than are stored, over `proposed_points` points
unfoldable pub prune_answer : Vec3 → List ℕ → ℕ → Answer (List ℕ)
prune_answer normal words count =
    cond (not (eqb (length words) prune_points_length)) (refused 1)
    (cond (ltb count (stored_points + 1)) (refused 8)
    (cond (ltb proposed_points count) (refused 6)
    (keeps (rules.kept normal count (prune_point_at words)))))

-- the struct for the numbers
abbrev pub in_struct : Answer (List ℕ) → Answer KeptPoints
in_struct (refused n) = refused n
in_struct (keeps ks) = keeps (kept_struct ks)

-- an answer of the code
abbrev pub answer_of : Result KeptPoints Refusal → Answer KeptPoints
answer_of (Ok k) = keeps k
answer_of (Err r) = refused (number_of r)

-- The promise of `prune`. The lent points are read only.
pub record Pruned (normal : Vec3) (words : List ℕ) (count : ℕ) (r : Result KeptPoints Refusal) : Type 0 where
  pub answer : answer_of r ≡ in_struct (prune_answer normal words count)

-- the first points of the array are those of the words
pub record LoadedPoints (words : List ℕ) (points : List PrunePoint) (count : ℕ) : Type 0 where
  pub each : (k : ℕ) → k < count → point_by points k ≡ prune_point_at words k
