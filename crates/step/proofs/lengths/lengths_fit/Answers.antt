-- `step::lengths::lengths_fit` meets its contract. Assumes nothing.
use native.Mathlib.Omega.{arith}
use Rattle.contact_range.specs.RangeLaws.{right_length_lem}
use Rattle.contact_range.specs.RangeStepLaws.{passed_by}
use Rattle.step.proofs.lengths.lengths_fit.Goals as goal

pub load-capacity-requires : goal.load-capacity-requires
load-capacity-requires c = let right = right_length_lem (passed_by c.right_length.ensures c.if-not-right_length.false) in omega (arith, right.size)

pub given_long-requires : goal.given_long-requires
given_long-requires c = let right = right_length_lem (passed_by c.right_length.ensures c.if-not-right_length.false) in omega (arith, right.most, c.load-capacity.ensures)

pub rows_long-requires : goal.rows_long-requires
rows_long-requires c = let right = right_length_lem (passed_by c.right_length.ensures c.if-not-right_length.false) in omega (arith, right.most, c.load-capacity.ensures)
