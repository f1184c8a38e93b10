-- `contact_range::range::free_once` meets its contract: the ids passed are marked, and differ. Assumes nothing.
use mathlib.Core.Path.{sym, ◌∙◌}
use mathlib.Core.Bool.{true≢false}
use native.Mathlib.Omega.{arith}
use Rattle.rule_laws.specs.NumberLaws.{every_next, every_fails}
use Rattle.contact_range.specs.Recorded.{free_at, free_count}
use Rattle.contact_range.specs.Range.{free_once}
use Rattle.contact_range.specs.RangeLaws.{freed_at}
use Rattle.contact_range.specs.RangeStepLaws.{marked_none, fresh_at, marks_next, marks_size_lem, free_taken, every_none, every_done}
use borrow.Author.Rules.{rules}
use Rattle.contact_range.proofs.range.free_once.Goals as goal
use Rattle.contact_range.proofs.range.free_once.Invariants.{test}

pub loop-k-init : goal.loop-k-init
loop-k-init c = (search rules, search rules, every_none (test c.args.graph.now), marked_none (free_at c.args.graph.now) c.requires.2)

pub insert-requires : goal.insert-requires
insert-requires c = omega (arith, freed_at c.args.graph.now c.loop-k.k c.requires.1 (search rules))

pub returns-then-not-insert : goal.returns-then-not-insert
unfolding free_once
returns-then-not-insert c =
    let g = c.args.graph.now in
    let k = c.loop-k.k in
    record {
      answer = sym (every_fails (test g) (free_count g) k (search rules) (fresh_at (free_at g) k c.loop-k.invariant.3 c.free_at-id.ensures c.insert.ensures.fresh ∙ c.if-not-insert.true));
      marks = λ e. absurd (true≢false (sym e));
    }

pub loop-k-preserved : goal.loop-k-preserved
loop-k-preserved c =
    let g = c.args.graph.now in
    let k = c.loop-k.k in
    let v = c.loop-k.invariant in
    let h = freed_at g k c.requires.1 (search rules) in (
      search rules,
      marks_size_lem c.loop-k.marks c.free_at-id.result.0 c.insert.ensures.stored v.1,
      every_next (test g) k v.2 (fresh_at (free_at g) k v.3 c.free_at-id.ensures c.insert.ensures.fresh ∙ c.if-not-insert.false),
      marks_next (free_at g) k v.3 c.free_at-id.ensures (omega arith) c.insert.ensures.stored,
    )

pub returns : goal.returns
unfolding free_once
returns c =
    let g = c.args.graph.now in
    let v = c.loop-k.invariant in
    record {
      answer = sym (every_done (test g) (free_count g) v.2 (search rules) (search rules));
      marks = λ e. free_taken g v.3 (search rules);
    }
