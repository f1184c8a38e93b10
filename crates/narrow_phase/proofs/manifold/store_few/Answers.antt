-- `narrow_phase::manifold::store_few` meets its contract: of the points passed, those that stay are stored. Assumes nothing.
use mathlib.Core.Path.{◌≡◌, refl, ◌∙◌}
use Prim.Native.Nat.{◌<◌}
use native.Mathlib.Omega.{arith}
use Rattle.rows.specs.Rows.{put}
use Rattle.rows.specs.Slots.{upto}
use Rattle.rules.specs.Filtering.{staying}
use Rattle.rules.specs.Limits.{stored_points}
use Rattle.proposals.specs.Recorded.{proposed_points_at}
use Rattle.narrow_phase.specs.StoringLaws.{point_stored_lem, point_gone, few_stored}
use borrow.Author.Rules.{rules}
use Rattle.narrow_phase.proofs.manifold.store_few.Goals as goal
use Rattle.narrow_phase.proofs.manifold.store_few.Goals.{in-Some, in_default}

pub loop-k-init : goal.loop-k-init
unfolding proposed_points_at upto staying put
loop-k-init c = (search rules, search rules, record { words = refl; count = refl; few = omega arith })

pub loop-k-preserved : goal.loop-k-preserved
loop-k-preserved c =
    let w = c.loop-k in
    let few : w.count < stored_points = omega (arith, w.invariant.0, w.invariant.1, c.loop-k-test.true, c.requires.0) in
    elim c.match-staying_point.branch [
      | in-Some z ↦
          let s = c.staying_point.ensures.some _ z.in-Some.is in
          (search rules, omega arith, point_stored_lem _ _ _ _ _ w.k _ _ w.count w.invariant.2 s.0 s.1 few z.count-is (z.words-is ∙ z.store_point.ensures))
      | in_default z ↦ (search rules, omega arith, point_gone _ _ _ _ _ w.k _ _ w.count w.invariant.2 (c.staying_point.ensures.none z.in_default.is) z.count-is z.words-is)
    ]

pub returns : goal.returns
returns c =
    let w = c.loop-k in
    let e : w.k ≡ c.args.n = search rules in
    few_stored _ _ (rw e at w.invariant.2)
