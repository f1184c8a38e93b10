-- Counts within the limits. Definitions only.
use Rattle.std.specs.Prelude.{ℕ, ◌+◌, ◌*◌, ◌≤◌, ◌<◌, List}
use Rattle.rules.specs.Limits.{stored_points, pair_manifolds}
use Rattle.words.specs.Words.{word_at}
use Rattle.layout.specs.Manifold.{manifold_size}

-- the words at the number of manifolds: it and each manifold's number of points are within the limits
pub record Counted (xs : List ℕ) (at : ℕ) : Type 0 where
  pub manifolds : word_at xs at ≤ pair_manifolds
  pub points : (k : ℕ) → k < word_at xs at → word_at xs (at + 1 + k * manifold_size) ≤ stored_points
