-- `narrow_phase::manifold::kept_points` meets its contract: of the points passed, those that stay are in front, and seen; the kept ones are picked. Assumes nothing.
use mathlib.Core.Path.{◌≡◌, refl, sym, ap, ◌∙◌}
use Prim.Native.Nat.{◌<◌}
use native.Mathlib.Omega.{arith}
use lib.ListN.{length-set}
use Rattle.rows.specs.Slots.{upto}
use Rattle.rules.specs.Filtering.{stays, staying}
use Rattle.proposals.specs.Recorded.{proposed_points_at}
use Rattle.narrow_phase.specs.KeepingLaws.{front_numbers, view_both, picked_at, kept_picked}
use Rattle.narrow_phase.specs.StayingLaws.{stays_step, gone_step}
use Rattle.narrow_phase.specs.Views.{first_points}
use borrow.Author.Rules.{rules}
use Rattle.narrow_phase.proofs.manifold.kept_points.Goals as goal
use Rattle.narrow_phase.proofs.manifold.kept_points.Goals.{in-Some, in_default}

pub loop-k-init : goal.loop-k-init
unfolding first_points proposed_points_at upto staying
loop-k-init c = (search rules, search rules, refl, refl, refl, record { each = λ k d h. absurd (omega arith) })

pub loop-k-preserved : goal.loop-k-preserved
loop-k-preserved c =
    let w = c.loop-k in
    let few : w.count < 24 = omega (arith, w.invariant.0, w.invariant.1, c.loop-k-test.true, c.requires.0) in
    elim c.match-staying_point.branch [
      | in-Some z ↦
          let s = c.staying_point.ensures.some _ z.in-Some.is in (
            search rules,
            omega arith,
            rw z.points-is (simp length-set w.invariant.2),
            rw z.view-is (simp length-set w.invariant.3),
            (λ i. first_points (z.count-is i) (z.points-is i)) ∙ stays_step _ _ _ _ _ w.k w.count w.points w.invariant.4 s.1 (sym (ap (stays _ _) s.1 ∙ s.0)) refl (omega arith),
            rw (z.points-is, z.view-is, z.count-is) (view_both w.points w.view w.count _ (omega arith) (omega arith) (omega arith) w.invariant.5 z.prune_point.ensures),
          )
      | in_default z ↦ (
        search rules,
        omega arith,
        rw z.points-is w.invariant.2,
        rw z.view-is w.invariant.3,
        (λ i. first_points (z.count-is i) (z.points-is i)) ∙ gone_step _ _ _ _ _ w.k w.invariant.4 (c.staying_point.ensures.none z.in_default.is),
        rw (z.points-is, z.view-is, z.count-is) w.invariant.5,
      )
    ]

pub returns : goal.returns
returns c =
    let w = c.loop-k in
    let e : w.k ≡ c.args.n = search rules in
    let l = w.invariant.2 in
    kept_picked _ w.count w.points w.view c.kept_numbers-kept.result _ (omega (arith, w.invariant.1)) l _ (rw e at w.invariant.4) w.invariant.5 (front_numbers _ _ _ (omega (arith, w.invariant.0, w.invariant.1, w.invariant.3, c.requires.0)) c.kept_numbers-kept.ensures)
    (record {
      first = _;
      second = _;
      third = _;
      fourth = _;
      four = refl;
      count = refl;
      at1 = picked_at w.points _ _ l c.place_of.ensures;
      at2 = picked_at w.points _ _ l c.place_of-2.ensures;
      at3 = picked_at w.points _ _ l c.place_of-3.ensures;
      at4 = picked_at w.points _ _ l c.place_of-4.ensures;
    })
