-- What matching over words promises, and what it asks: the words of new manifolds become those of the matched ones. Definitions only.
use Rattle.std.specs.Prelude.{◌≡◌, ℕ, ◌*◌, ◌≤◌, ◌<◌, List, [], ◌∷◌, map, Float, length}
use Rattle.rows.specs.Rows.{put, each}
use Rattle.rows.specs.Slots.{upto}
use Rattle.rules.specs.Limits.{stored_points, pair_manifolds}
use Rattle.rules.specs.Matching.{FeatureRule, matched_point, match_contacts, match_all}
use Rattle.rules.specs.Records.{Point, Manifold}
use Rattle.words.specs.Words.{word_at, float_word}
use Rattle.layout.specs.Manifold.{manifold_size}
use Rattle.manifold_records.specs.Recorded.{manifold_at}
use Rattle.manifold_records.specs.Written.{point_words, manifold_words}
use Rattle.contact_records.specs.Fit.{FitPoint, FitManifold, FitManifolds}
use Rattle.contact_records.specs.HeldLaws.{Holds}

-- the words that matching hands on
abbrev pub impulse_words : Point → List ℕ
impulse_words p = float_word p.warm_start_normal ∷ float_word p.warm_start_tangent.x ∷ float_word p.warm_start_tangent.y ∷ []

-- the first n manifolds of a row that has nothing else
unfoldable pub manifolds_from : List ℕ → ℕ → List Manifold
manifolds_from xs n = map (λ k. manifold_at xs (k * manifold_size)) (upto n)

-- ---- what is asked
-- a manifold's words stand at that place
pub record WrittenManifold (xs : List ℕ) (at : ℕ) : Type 0 where
  pub manifold : Manifold
  pub fits : FitManifold manifold
  pub held : Holds xs at (manifold_words manifold)

-- the words of n manifolds stand one after another from that place on
pub record WrittenManifolds (xs : List ℕ) (at n : ℕ) : Type 0 where
  pub manifolds : List Manifold
  pub count : length manifolds ≡ n
  pub fits : FitManifolds manifolds
  pub held : Holds xs at (each manifold_words manifolds)

-- a row has m old manifolds, with counts within the limits
pub record OldManifolds (xs : List ℕ) (m : ℕ) : Type 0 where
  pub manifolds : m ≤ pair_manifolds
  pub long : m * manifold_size ≤ length xs
  pub points : (k : ℕ) → k < m → word_at xs (k * manifold_size) ≤ stored_points

-- ---- what is promised, of whatever point or manifold's words they are, under either rule
pub record PointMatched (same : FeatureRule) (square : Float) (olds : List Point) (at : ℕ) (before after : List ℕ) : Type 0 where
  pub words : (p : Point) → FitPoint p → Holds before at (point_words p) → after ≡ put before at (point_words (matched_point same square olds p))

pub record ManifoldMatched (same : FeatureRule) (threshold : Float) (olds : List Point) (at : ℕ) (before after : List ℕ) : Type 0 where
  pub words : (m : Manifold) → FitManifold m → Holds before at (manifold_words m) → after ≡ put before at (manifold_words (match_contacts same threshold olds m))

pub record AllMatched (same : FeatureRule) (threshold : Float) (olds : List Manifold) (at : ℕ) (before after : List ℕ) : Type 0 where
  pub words : (m : Manifold) → FitManifold m → Holds before at (manifold_words m) → after ≡ put before at (manifold_words (match_all same threshold olds m))

pub record ManifoldsMatched (same : FeatureRule) (threshold : Float) (olds : List Manifold) (at n : ℕ) (before after : List ℕ) : Type 0 where
  pub words : (ms : List Manifold) → FitManifolds ms → length ms ≡ n → Holds before at (each manifold_words ms) → after ≡ put before at (each manifold_words (map (match_all same threshold olds) ms))
