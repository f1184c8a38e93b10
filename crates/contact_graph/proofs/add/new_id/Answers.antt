-- `contact_graph::add::new_id` meets its contract. Assumes nothing.
use mathlib.Core.Path.{sym, ap, ◌∙◌}
use Prim.Native.Nat.{ℕ, ◌-◌}
use native.Mathlib.Omega.{arith}
use borrow.Author.Tests.{eq-eqb, ne_eqb}
use Rattle.contact_graph.specs.Calls.{new_id_of}
use Rattle.contact_range.specs.Recorded.{free_at}
use Rattle.contact_range.specs.RangeLaws.{counts}
use Rattle.contact_graph.proofs.add.new_id.Goals as goal

pub returns-then-freed-eq0 : goal.returns-then-freed-eq0
unfolding new_id_of
returns-then-freed-eq0 c =
    let at = c in
    rw (eq-eqb _ 0 (sym at.load-freed.ensures ∙ at.if-freed-eq0.true)) c.id_at.ensures

pub free_at-requires : goal.free_at-requires
free_at-requires c =
    let s = c in
    let n = counts s.requires.range in
    (s.requires.right, omega (arith, c.load-freed.ensures, c.if-freed-eq0.false))

pub returns : goal.returns
unfolding new_id_of
returns c =
    let at = c in
    rw (ne_eqb _ 0 (λ e. at.if-freed-eq0.false (at.load-freed.ensures ∙ e))) (c.free_at.ensures ∙ ap (λ (n : ℕ). free_at at.args.graph.now (n - 1)) at.load-freed.ensures)
