-- `contact_range::range::marks_fit` meets its contract: the marks are 0 or 1. Assumes nothing.
use mathlib.Core.Path.{refl}
use Prim.Native.Nat.{◌+◌}
use borrow.Author.Rules.{rules}
use Rattle.words.specs.Words.{word_at}
use Rattle.layout.specs.Contact.{contact_edge_flags, marks_size}
use Rattle.rule_laws.specs.AllLaws.{every_from_all}
use Rattle.contact_range.specs.Range.{is_mark, marks_fit}
use Rattle.contact_range.proofs.range.marks_fit.Goals as goal

pub returns-then-all : goal.returns-then-all
unfolding marks_fit
returns-then-all c =
    let a = c.args in
    let all = every_from_all (λ k. is_mark (word_at a.graph.now (a.at + contact_edge_flags + k))) marks_size _ _ c.all.result c.all.ensures.ran refl (λ x b q k. search rules) in
    rw (← all, c.if-all.true) c.mark_fits.ensures

pub returns-else-all : goal.returns-else-all
unfolding marks_fit
returns-else-all c =
    let a = c.args in
    let all = every_from_all (λ k. is_mark (word_at a.graph.now (a.at + contact_edge_flags + k))) marks_size _ _ c.all.result c.all.ensures.ran refl (λ x b q k. search rules) in
    rw (← all, c.if-all.false)
