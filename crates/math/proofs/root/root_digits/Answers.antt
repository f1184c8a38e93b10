-- `math::root::root_digits` meets its contract: what was estimated is not looked into. Assumes nothing.
use Rattle.std.proofs.Common.{sym, le_trans, le_of_eq, lt_of_lt_of_le, lt_of_le_of_lt}
use Rattle.math.proofs.CorrectedLaws.{guess_le}
use Rattle.math.proofs.ReducedLaws.{squared_whole, squared_lt, squared_pos}
use Rattle.math.proofs.root.root_digits.Goals as goal

pub corrected-requires : goal.corrected-requires
corrected-requires c =
    let b = c.args.b in
    (lt_of_lt_of_le (squared_pos b) (le_of_eq (sym (squared_whole b))), lt_of_le_of_lt (le_of_eq (squared_whole b)) (squared_lt b), le_trans (le_of_eq c.guess.ensures) (guess_le b))
