-- `trace_player::play::lent_fit` meets its contract. Assumes nothing.
use mathlib.Core.Path.{sym, ◌∙◌}
use native.Mathlib.Omega.{arith}
use Rattle.contact_range.specs.RangeLaws.{right_length_lem}
use Rattle.step.specs.CallLaws.{lengths_right}
use Rattle.trace_player.proofs.play.lent_fit.Goals as goal

pub load-requires : goal.load-requires
load-requires c =
    let r = right_length_lem (lengths_right _ _ _ (sym c.lengths_fit.ensures ∙ c.if-lengths_fit.true)) in
    omega (arith, r.size)
