-- What the loop of `manifold_matching::matching::match_manifolds` keeps.
use Rattle.std.proofs.Common.{◌≡◌, length}
use Rattle.rows.specs.ArrayLaws.{front}
use Rattle.rows.specs.Rows.{put, each}
use Rattle.rules.specs.Matching.{feature_rule, match_all}
use Rattle.manifold_records.specs.Written.{manifold_words}
use Rattle.manifold_matching.specs.Matched.{manifolds_from}
use Rattle.manifold_matching.specs.MatchingLaws.{manifolds_read}
use Rattle.manifold_matching.proofs.matching.match_manifolds.Given as goal

abbrev pub invariant-loop-i : goal.invariant-loop-i
invariant-loop-i l =
    (length l.words ≡ length l.initial.words)
    × (l.words ≡ put l.initial.words l.at (each manifold_words (front (match_all (feature_rule l.rule.by_place) l.rule.threshold (manifolds_from l.olds l.m)) l.i (manifolds_read l.initial.words l.at l.n))))
