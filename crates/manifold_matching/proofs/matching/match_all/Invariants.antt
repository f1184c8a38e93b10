-- What the loop of `manifold_matching::matching::match_all` keeps.
use Rattle.std.proofs.Common.{◌≡◌, length}
use Rattle.rows.specs.Rows.{put}
use Rattle.rules.specs.Matching.{feature_rule}
use Rattle.manifold_records.specs.Recorded.{manifold_at}
use Rattle.manifold_records.specs.Written.{manifold_words}
use Rattle.manifold_matching.specs.MatchingLaws.{matched_by}
use Rattle.manifold_matching.proofs.matching.match_all.Given as goal

abbrev pub invariant-loop-j : goal.invariant-loop-j
invariant-loop-j l =
    (length l.words ≡ length l.initial.words) × (l.words ≡ put l.initial.words l.at (manifold_words (matched_by (feature_rule l.rule.by_place) l.rule.threshold l.olds l.j (manifold_at l.initial.words l.at))))
