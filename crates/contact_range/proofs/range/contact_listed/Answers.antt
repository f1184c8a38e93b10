-- `contact_range::range::contact_listed` meets its contract. Assumes nothing.
use mathlib.Core.Path.{ap, ◌∙◌}
use native.Mathlib.Omega.{arith}
use borrow.Author.Tests.{eq-eqb, ne_eqb}
use Rattle.contact_range.specs.Recorded.{listed_at}
use Rattle.contact_range.specs.Range.{contact_fits}
use Rattle.contact_range.specs.Conditions.{index_at}
use Rattle.contact_range.specs.RangeStepLaws.{below_at, index_read, place_read}
use Rattle.contact_range.proofs.range.contact_listed.Goals as goal

pub contact_at-at-requires : goal.contact_at-at-requires
contact_at-at-requires c = (c.requires.0.counted.right, omega (arith, below_at c.args.p c.requires.0 c.requires.1))

pub returns-then-load-p : goal.returns-then-load-p
returns-then-load-p c =
    let g = c.args.graph.now in
    let i = index_read g c.contact_at-at.ensures c.args.p c.id_at-id.ensures c.load.ensures in
    rw (eq-eqb (index_at g (listed_at g c.args.p)) c.args.p (omega (arith, i, c.if-load-p.true))) (c.contact_fits.ensures ∙ ap (contact_fits g) (place_read g c.contact_at-at.ensures c.args.p c.id_at-id.ensures))

pub returns-else-load-p : goal.returns-else-load-p
returns-else-load-p c =
    let i = index_read c.args.graph.now c.contact_at-at.ensures c.args.p c.id_at-id.ensures c.load.ensures in
    rw (ne_eqb _ _ (λ e. c.if-load-p.false (i ∙ e))) (ne_eqb _ _ c.if-load-p.false)
