-- `shares::range::entries_fit` meets its contract: the entries passed are active and marked, and differ. Assumes nothing.
use mathlib.Core.Path.{◌≡◌, sym, ap, ◌∙◌}
use mathlib.Core.Bool.{and-false}
use native.Mathlib.Omega.{arith}
use Rattle.rules.specs.Numbers.{every}
use Rattle.rule_laws.specs.NumberLaws.{every_next, every_fails}
use Rattle.contact_range.specs.Range.{stands}
use Rattle.contact_range.specs.RangeLaws.{standing_below}
use Rattle.contact_range.specs.RangeStepLaws.{marked_none, fresh_at, marks_next, marks_size_lem, refused_by, passed_by, every_none}
use Rattle.shares.specs.Shares.{entry_at, entries_stand, entries_once}
use borrow.Author.Rules.{rules}
use Rattle.shares.proofs.range.entries_fit.Goals as goal
use Rattle.shares.proofs.range.entries_fit.Invariants.{standing, fresh}

pub loop-k-init : goal.loop-k-init
loop-k-init c =
    let x = c.args in
    (search rules, search rules, every_none (standing x.shares.now x.graph.now), every_none (fresh x.shares.now), marked_none (entry_at x.shares.now) c.requires.3)

pub returns-then-not-has_contact : goal.returns-then-not-has_contact
unfolding entries_stand
returns-then-not-has_contact c =
    let x = c.args in
    let k = c.loop-k.k in
    let f = ap (stands x.graph.now) (sym c.id_at-id.ensures) ∙ refused_by c.has_contact.ensures c.if-not-has_contact.true in
    let z = every_fails (standing x.shares.now x.graph.now) x.total k c.loop-k-test.true f in
    rw (← c.requires.1, z)

pub insert-requires : goal.insert-requires
insert-requires c =
    let s = c.requires.0 in
    let b = standing_below s.range c.id_at-id.result.0 (passed_by c.has_contact.ensures c.if-not-has_contact.false) in
    omega (arith, s.right.most, c.loop-k.invariant.1)

pub returns-then-not-insert : goal.returns-then-not-insert
unfolding entries_stand entries_once
returns-then-not-insert c =
    let x = c.args in
    let k = c.loop-k.k in
    let f = fresh_at (entry_at x.shares.now) k c.loop-k.invariant.4 c.id_at-id.ensures c.insert.ensures.fresh ∙ c.if-not-insert.true in
    let z = every_fails (fresh x.shares.now) x.total k c.loop-k-test.true f in
    rw (← c.requires.1, z) (sym (and-false (every (standing x.shares.now x.graph.now) x.total)))

pub loop-k-preserved : goal.loop-k-preserved
loop-k-preserved c =
    let x = c.args in
    let w = c.loop-k in
    let s = c.requires.0 in
    let b = standing_below s.range c.id_at-id.result.0 (passed_by c.has_contact.ensures c.if-not-has_contact.false) in
    let f = ap (stands x.graph.now) (sym c.id_at-id.ensures) ∙ passed_by c.has_contact.ensures c.if-not-has_contact.false in
    let g = fresh_at (entry_at x.shares.now) w.k w.invariant.4 c.id_at-id.ensures c.insert.ensures.fresh ∙ c.if-not-insert.false in (
      search rules,
      marks_size_lem w.marks c.id_at-id.result.0 c.insert.ensures.stored w.invariant.1,
      every_next (standing x.shares.now x.graph.now) w.k w.invariant.2 f,
      every_next (fresh x.shares.now) w.k w.invariant.3 g,
      marks_next (entry_at x.shares.now) w.k w.invariant.4 c.id_at-id.ensures (omega (arith, s.right.most, w.invariant.1)) c.insert.ensures.stored,
    )

pub returns : goal.returns
unfolding entries_stand entries_once
returns c =
    let w = c.loop-k in
    let e : w.k ≡ c.args.total = search rules in
    rw (← c.requires.1, ← e, w.invariant.2, w.invariant.3)
