-- What the loop of `narrow_phase::manifold::store_few` keeps.
use mathlib.Core.List.{map}
use Prim.Native.Nat.{◌≤◌}
use Rattle.rules.specs.Filtering.{staying}
use Rattle.proposals.specs.Recorded.{proposed_points_at}
use Rattle.narrow_phase.specs.Views.{moved_by, PointsStored}
use Rattle.narrow_phase.proofs.manifold.store_few.Given as goal

abbrev pub invariant-loop-k : goal.invariant-loop-k
invariant-loop-k l =
    (l.k ≤ l.n) × (l.count ≤ l.k) × PointsStored (staying l.filtering.step_time l.filtering.surface.effective_speculative (map (moved_by l.filtering l.normal) (proposed_points_at l.proposal l.at l.k))) l.to l.initial.words l.words l.count
