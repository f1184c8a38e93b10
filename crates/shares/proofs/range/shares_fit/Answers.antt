-- `shares::range::shares_fit` meets its contract: each test in its turn. Assumes nothing.
use mathlib.Core.Path.{sym, ap, ◌∙◌}
use mathlib.Core.Bool.{true≢false}
use native.Mathlib.Omega.{arith}
use borrow.Author.Tests.{lt-leb}
use Rattle.std.specs.Prelude.{not}
use Rattle.contact_range.specs.RangeStepLaws.{all_zero, unmarked}
use Rattle.shares.specs.Shares.{start_of}
use Rattle.shares.specs.SharesLaws.{no_worker, many_workers, many_entries, entries_unfit, number_unfit}
use Rattle.shares.proofs.range.shares_fit.Goals as goal
use Rattle.shares.proofs.range.shares_fit.Goals.{then-workers-eq0-via-then-workers-eq0, then-workers-eq0-via-else-workers-eq0+then-workers-gt-MOST_WORKERS, then-total-load, else-total-load}

pub load-workers-requires : goal.load-workers-requires
load-workers-requires c = omega (arith, c.requires.1)

pub returns-then-workers-eq0 : goal.returns-then-workers-eq0
returns-then-workers-eq0 c =
    elim c.then-workers-eq0.branch [
      | then-workers-eq0-via-then-workers-eq0 w ↦ no_worker _ _ c.load-workers.ensures w.if-workers-eq0.true
      | then-workers-eq0-via-else-workers-eq0+then-workers-gt-MOST_WORKERS w ↦ many_workers _ _ c.load-workers.ensures w.if-workers-gt-MOST_WORKERS.true
    ]

pub entries_fit-requires : goal.entries_fit-requires
unfolding all_zero
entries_fit-requires c =
    (c.requires.0, c.start_of-total.ensures ∙ ap (start_of _) c.load-workers.ensures, omega (arith, c.requires.1, c.load.ensures, c.if-total-load.true), unmarked _ tt)

pub returns-then-entries_fit : goal.returns-then-entries_fit
returns-then-entries_fit c =
    elim c.if-total-load.branch [
      | then-total-load w ↦
          number_unfit _ _ c.requires.0 c.load-workers.ensures c.if-workers-eq0.false c.if-workers-gt-MOST_WORKERS.false c.start_of-total.ensures c.load.ensures w.if-total-load.true w.entries_fit.ensures
          (ap not (sym w.value-is ∙ c.if-entries_fit.true)) c.load-then-entries_fit.ensures
      | else-total-load w ↦ absurd (true≢false (sym c.if-entries_fit.true ∙ w.value-is ∙ lt-leb _ _ w.if-total-load.false))
    ]

pub returns-else-entries_fit : goal.returns-else-entries_fit
returns-else-entries_fit c =
    elim c.if-total-load.branch [
      | then-total-load w ↦ c.if-entries_fit.false ∙ entries_unfit _ _ c.requires.0 w.entries_fit.ensures (ap not (sym w.value-is ∙ c.if-entries_fit.false))
      | else-total-load w ↦ c.if-entries_fit.false ∙ many_entries _ _ c.load-workers.ensures c.start_of-total.ensures c.load.ensures w.if-total-load.false
    ]
