-- What the loop of `manifold_matching::matching::match_point` keeps.
use Rattle.std.proofs.Common.{◌≡◌}
use Rattle.math.specs.Floats.{◌⊗◌}
use Rattle.rules.specs.Matching.{feature_rule}
use Rattle.manifold_matching.specs.MatchingLaws.{Unmatched}
use Rattle.manifold_matching.proofs.matching.match_point.Given as goal

abbrev pub invariant-loop-k : goal.invariant-loop-k
invariant-loop-k l =
    (l.words ≡ l.initial.words) × Unmatched (feature_rule l.rule.by_place) (l.rule.threshold ⊗ l.rule.threshold) l.olds l.from l.n l.initial.words l.at l.k
