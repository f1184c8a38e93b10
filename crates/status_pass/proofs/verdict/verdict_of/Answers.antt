-- `status_pass::verdict::verdict_of` meets its contract: the first case that holds. Assumes nothing.
use mathlib.Core.Path.{refl}
use Rattle.status_pass.specs.VerdictLaws.{picked}
use Rattle.status_pass.proofs.verdict.verdict_of.Goals as goal

pub returns-then-f : goal.returns-then-f
returns-then-f c = record { under = λ id. picked _ _ c.load_flags-f.ensures _ c.load-change.ensures id c.if-f.true refl refl refl refl }

pub returns-then-f-2 : goal.returns-then-f-2
returns-then-f-2 c = record { under = λ id. picked _ _ c.load_flags-f.ensures _ c.load-change.ensures id c.if-f.false c.if-f-2.true refl refl refl }

pub returns-then-f-3 : goal.returns-then-f-3
returns-then-f-3 c = record { under = λ id. picked _ _ c.load_flags-f.ensures _ c.load-change.ensures id c.if-f.false c.if-f-2.false c.if-f-3.true refl refl }

pub returns-then-f-4 : goal.returns-then-f-4
returns-then-f-4 c = record { under = λ id. picked _ _ c.load_flags-f.ensures _ c.load-change.ensures id c.if-f.false c.if-f-2.false c.if-f-3.false c.if-f-4.true refl }

pub returns-then-f-change : goal.returns-then-f-change
returns-then-f-change c = record { under = λ id. picked _ _ c.load_flags-f.ensures _ c.load-change.ensures id c.if-f.false c.if-f-2.false c.if-f-3.false c.if-f-4.false c.if-f-change.true }

pub returns : goal.returns
returns c = record { under = λ id. picked _ _ c.load_flags-f.ensures _ c.load-change.ensures id c.if-f.false c.if-f-2.false c.if-f-3.false c.if-f-4.false c.if-f-change.false }
