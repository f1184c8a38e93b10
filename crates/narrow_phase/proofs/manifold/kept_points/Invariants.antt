-- What the loop of `narrow_phase::manifold::kept_points` keeps.
use mathlib.Core.Path.{◌≡◌}
use mathlib.Core.List.{map}
use Prim.Native.Nat.{◌≤◌}
use lib.ListN.{length}
use Rattle.rules.specs.Filtering.{staying}
use Rattle.proposals.specs.Recorded.{proposed_points_at}
use Rattle.rules.specs.Limits.{proposed_points}
use Rattle.narrow_phase.specs.Keeping.{Viewed}
use Rattle.narrow_phase.specs.Views.{moved_by, first_points}
use Rattle.narrow_phase.proofs.manifold.kept_points.Given as goal

abbrev pub invariant-loop-k : goal.invariant-loop-k
invariant-loop-k l =
    (l.k ≤ l.n) × (l.count ≤ l.k) × (length l.points ≡ proposed_points) × (length l.view ≡ proposed_points) × (first_points l.count l.points ≡ staying l.filtering.step_time l.filtering.surface.effective_speculative (map (moved_by l.filtering l.normal) (proposed_points_at l.words l.at l.k))) × Viewed l.points l.view l.count
