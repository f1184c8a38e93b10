-- What the loop of `manifold_matching::matching::match_contacts` keeps.
use Rattle.std.proofs.Common.{◌≡◌, ◌+◌, ◌≤◌, length}
use Rattle.rows.specs.Rows.{put}
use Rattle.math.specs.Floats.{◌⊗◌}
use Rattle.rules.specs.Matching.{feature_rule, matched_point}
use Rattle.manifold_records.specs.Recorded.{points_at, manifold_at}
use Rattle.manifold_records.specs.Written.{manifold_words}
use Rattle.manifold_matching.specs.MatchingLaws.{matched_first}
use Rattle.manifold_matching.proofs.matching.match_contacts.Given as goal

abbrev pub invariant-loop-k : goal.invariant-loop-k
invariant-loop-k l =
    (l.count ≤ 4) × (l.n ≤ 4) × (length l.words ≡ length l.initial.words)
    × (l.words ≡ put l.initial.words l.at (manifold_words (matched_first (matched_point (feature_rule l.rule.by_place) (l.rule.threshold ⊗ l.rule.threshold) (points_at l.olds (l.from + 9) l.n)) l.k (manifold_at l.initial.words l.at))))
