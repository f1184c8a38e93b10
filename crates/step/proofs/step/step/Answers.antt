-- `step::step::step` meets its contract: refusals 1, 2, 6 and 7 in their turn, and the step. Assumes nothing.
use Rattle.contact_range.specs.RangeStepLaws.{refused_by, passed_by}
use Rattle.step.specs.AcceptedLaws.{refused_lengths, refused_numbers, refused_proposals, refused_shares, accepted_all}
use Rattle.step.specs.CallLaws.{step_refused, step_kept, lengths_right, lengths_given, numbers_checked}
use Rattle.step.proofs.step.step.Goals as goal

pub returns-then-not-lengths_fit : goal.returns-then-not-lengths_fit
returns-then-not-lengths_fit c = step_refused _ _ _ _ (refused_lengths _ _ _ (refused_by c.lengths_fit.ensures c.if-not-lengths_fit.true))

pub numbers_fit-requires : goal.numbers_fit-requires
numbers_fit-requires c = let k = lengths_given _ _ _ (passed_by c.lengths_fit.ensures c.if-not-lengths_fit.false) in (k.settings, k.colliders, k.bodies, k.proposals, lengths_right _ _ _ (passed_by c.lengths_fit.ensures c.if-not-lengths_fit.false))

pub returns-then-not-numbers_fit : goal.returns-then-not-numbers_fit
returns-then-not-numbers_fit c = step_refused _ _ _ _ (refused_numbers _ _ _ (passed_by c.lengths_fit.ensures c.if-not-lengths_fit.false) (refused_by c.numbers_fit.ensures c.if-not-numbers_fit.true))

pub proposals_fit-requires : goal.proposals_fit-requires
proposals_fit-requires c =
    (numbers_checked _ _ _ (passed_by c.lengths_fit.ensures c.if-not-lengths_fit.false) (passed_by c.numbers_fit.ensures c.if-not-numbers_fit.false), (lengths_given _ _ _ (passed_by c.lengths_fit.ensures c.if-not-lengths_fit.false)).proposals)

pub returns-then-not-proposals_fit : goal.returns-then-not-proposals_fit
returns-then-not-proposals_fit c =
    step_refused _ _ _ _
    (refused_proposals _ _ _ (passed_by c.lengths_fit.ensures c.if-not-lengths_fit.false) (passed_by c.numbers_fit.ensures c.if-not-numbers_fit.false) (refused_by c.proposals_fit.ensures c.if-not-proposals_fit.true))

pub shares_fit-requires : goal.shares_fit-requires
shares_fit-requires c =
    (numbers_checked _ _ _ (passed_by c.lengths_fit.ensures c.if-not-lengths_fit.false) (passed_by c.numbers_fit.ensures c.if-not-numbers_fit.false), (lengths_given _ _ _ (passed_by c.lengths_fit.ensures c.if-not-lengths_fit.false)).shares)

pub returns-then-not-shares_fit : goal.returns-then-not-shares_fit
returns-then-not-shares_fit c =
    step_refused _ _ _ _
    (refused_shares _ _ _ (passed_by c.lengths_fit.ensures c.if-not-lengths_fit.false) (passed_by c.numbers_fit.ensures c.if-not-numbers_fit.false) (passed_by c.proposals_fit.ensures c.if-not-proposals_fit.false)
    (refused_by c.shares_fit.ensures c.if-not-shares_fit.true))

pub step_accepted-requires : goal.step_accepted-requires
step_accepted-requires c =
    accepted_all _ _ _ (passed_by c.lengths_fit.ensures c.if-not-lengths_fit.false) (passed_by c.numbers_fit.ensures c.if-not-numbers_fit.false) (passed_by c.proposals_fit.ensures c.if-not-proposals_fit.false)
    (passed_by c.shares_fit.ensures c.if-not-shares_fit.false)

pub returns : goal.returns
returns c =
    step_kept _ _ _
    (accepted_all _ _ _ (passed_by c.lengths_fit.ensures c.if-not-lengths_fit.false) (passed_by c.numbers_fit.ensures c.if-not-numbers_fit.false) (passed_by c.proposals_fit.ensures c.if-not-proposals_fit.false)
    (passed_by c.shares_fit.ensures c.if-not-shares_fit.false)) c.step_accepted.ensures
