-- `trace_steps::active::fill_listed` meets its contract. Assumes nothing.
use mathlib.Core.Path.{refl}
use native.Mathlib.Omega.{arith}
use Rattle.contact_range.specs.RangeLaws.{listed_below}
use Rattle.step.specs.TestLaws.{pair_places}
use Rattle.trace_steps.proofs.active.fill_listed.Goals as goal

pub id_at-id-requires : goal.id_at-id-requires
id_at-id-requires c = (pair_places c.requires.0 c.args.p c.requires.1 refl).listed

pub contact_at-at-requires : goal.contact_at-at-requires
contact_at-at-requires c =
    let b = listed_below c.requires.0.range c.args.p c.requires.1 in
    (c.requires.0.right, omega (arith, c.id_at-id.ensures))
