-- `contact_range::range::pairs_differ` meets its contract: the pairs passed are marked, and differ. Assumes nothing.
use mathlib.Core.Path.{sym, ◌∙◌}
use native.Mathlib.Omega.{arith}
use Rattle.rule_laws.specs.NumberLaws.{every_next, every_fails}
use Rattle.contact_range.specs.Recorded.{listed_count}
use Rattle.contact_range.specs.Range.{pairs_once}
use Rattle.contact_range.specs.RangeStepLaws.{place_number, below_at, colliders_read, number_read, place_below, pair_fresh_at, marked_none, marks_next, marks_size_lem, every_none, every_done}
use borrow.Author.Rules.{rules}
use Rattle.contact_range.proofs.range.pairs_differ.Goals as goal
use Rattle.contact_range.proofs.range.pairs_differ.Invariants.{test}

pub loop-p-init : goal.loop-p-init
loop-p-init c = (search rules, search rules, every_none (test c.args.graph.now), marked_none (place_number c.args.graph.now) c.requires.2)

pub contact_at-at-requires : goal.contact_at-at-requires
contact_at-at-requires c = (c.requires.0.counted.right, omega (arith, below_at c.loop-p.p c.requires.0 (search rules)))

pub pair_number-pair-requires : goal.pair_number-pair-requires
pair_number-pair-requires c =
    let h = colliders_read c.args.graph.now c.contact_at-at.ensures c.loop-p.p c.id_at-id.ensures c.requires.1 (search rules) in
    (search rules, h.0, h.1)

pub insert-requires : goal.insert-requires
insert-requires c =
    let n = number_read c.args.graph.now c.loop-p.p c.contact_at-at.ensures c.id_at-id.ensures c.pair_number-pair.ensures in
    omega (arith, place_below c.args.graph.now c.loop-p.p c.requires.1 (search rules))

pub returns-then-not-insert : goal.returns-then-not-insert
unfolding pairs_once
returns-then-not-insert c =
    let g = c.args.graph.now in
    let p = c.loop-p.p in
    let n = number_read g p c.contact_at-at.ensures c.id_at-id.ensures c.pair_number-pair.ensures in
    sym (every_fails (test g) (listed_count g) p (search rules) (pair_fresh_at g p c.requires.1 (search rules) c.loop-p.invariant.3 n c.insert.ensures.fresh ∙ c.if-not-insert.true))

pub loop-p-preserved : goal.loop-p-preserved
loop-p-preserved c =
    let g = c.args.graph.now in
    let p = c.loop-p.p in
    let v = c.loop-p.invariant in
    let n = number_read g p c.contact_at-at.ensures c.id_at-id.ensures c.pair_number-pair.ensures in
    let h = place_below g p c.requires.1 (search rules) in (
      search rules,
      marks_size_lem c.loop-p.marks c.pair_number-pair.result c.insert.ensures.stored v.1,
      every_next (test g) p v.2 (pair_fresh_at g p c.requires.1 (search rules) v.3 n c.insert.ensures.fresh ∙ c.if-not-insert.false),
      marks_next (place_number g) p v.3 n (omega arith) c.insert.ensures.stored,
    )

pub returns : goal.returns
unfolding pairs_once
returns c =
    let g = c.args.graph.now in
    sym (every_done (test g) (listed_count g) c.loop-p.invariant.2 (search rules) (search rules))
