-- `narrow_phase::manifold::store_new` meets its contract: of the manifolds passed, those with points left are stored. Assumes nothing.
use mathlib.Core.Path.{◌≡◌, refl}
use Prim.Native.Nat.{◌<◌, ◌+◌, ◌*◌}
use native.Mathlib.Omega.{arith}
use Rattle.rows.specs.Rows.{put}
use Rattle.rows.specs.Slots.{upto}
use Rattle.rules.specs.Filtering.{without_empty}
use Rattle.rules.specs.Limits.{pair_manifolds}
use Rattle.proposals.specs.Recorded.{proposed_manifold_at}
use Rattle.layout.specs.Proposal.{proposal_manifolds, proposed_manifold_size}
use Rattle.narrow_phase.specs.StoringLaws.{manifold_counts, manifold_goes, all_stored}
use borrow.Author.Rules.{rules}
use Rattle.narrow_phase.proofs.manifold.store_new.Goals as goal
use Rattle.narrow_phase.proofs.manifold.store_new.Goals.{then-left-ne0, else-left-ne0}

pub loop-k-init : goal.loop-k-init
unfolding upto without_empty put
loop-k-init c =
    let m = c.requires.1.manifolds in
    (search rules, omega (arith, c.load-n.ensures), search rules, record { words = refl; count = refl; few = omega arith })

pub loop-k-preserved : goal.loop-k-preserved
loop-k-preserved c =
    let w = c.loop-k in
    let few : w.count < pair_manifolds = omega (arith, w.invariant.1, w.invariant.2, c.loop-k-test.true) in (
      search rules,
      w.invariant.1,
      elim c.if-left-ne0.branch [ then-left-ne0 z ↦ omega arith | else-left-ne0 z ↦ omega arith ],
      elim c.if-left-ne0.branch [
        | then-left-ne0 z ↦ manifold_counts _ (λ j. proposed_manifold_at _ (proposal_manifolds + j * proposed_manifold_size)) w.k _ _ w.count w.invariant.3 c.store_filtered-left.ensures z.if-left-ne0.true few z.count-is
        | else-left-ne0 z ↦ manifold_goes _ (λ j. proposed_manifold_at _ (proposal_manifolds + j * proposed_manifold_size)) w.k _ _ w.count w.invariant.3 c.store_filtered-left.ensures z.if-left-ne0.false z.count-is
      ],
    )

pub returns : goal.returns
returns c =
    let w = c.loop-k in
    let n = c.load-n in
    let e : w.k ≡ n.result = search rules in
    all_stored _ _ n.ensures (rw e at w.invariant.3)
