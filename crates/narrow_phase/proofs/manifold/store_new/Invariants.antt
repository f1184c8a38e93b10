-- What the loop of `narrow_phase::manifold::store_new` keeps.
use mathlib.Core.List.{map}
use Prim.Native.Nat.{◌≤◌, ◌+◌, ◌*◌}
use Rattle.rows.specs.Slots.{upto}
use Rattle.rules.specs.Filtering.{without_empty}
use Rattle.rules.specs.Limits.{pair_manifolds}
use Rattle.proposals.specs.Recorded.{proposed_manifold_at}
use Rattle.layout.specs.Proposal.{proposal_manifolds, proposed_manifold_size}
use Rattle.narrow_phase.specs.Views.{filtered_by, ManifoldsStored}
use Rattle.narrow_phase.proofs.manifold.store_new.Given as goal

abbrev pub invariant-loop-k : goal.invariant-loop-k
invariant-loop-k l =
    (l.k ≤ l.n) × (l.n ≤ pair_manifolds) × (l.count ≤ l.k)
    × ManifoldsStored (without_empty (map (filtered_by l.filtering) (map (λ j. proposed_manifold_at l.proposal (proposal_manifolds + j * proposed_manifold_size)) (upto l.k)))) l.to l.initial.words l.words l.count
