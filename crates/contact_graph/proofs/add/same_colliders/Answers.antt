-- `contact_graph::add::same_colliders` meets its contract: a pair has one key in either order, and no other pair has it. Assumes nothing.
use mathlib.Core.Path.{◌∙◌}
use lib.Dec.{eqb}
use borrow.Author.Rules.{rules}
use Rattle.contact_range.specs.RangeStepLaws.{key_colliders}
use Rattle.contact_graph.proofs.add.same_colliders.Goals as goal

pub returns : goal.returns
returns c =
    let n = c in
    let k = n in
    let s = k.args in
    c.eq.ensures ∙ (λ i. eqb (k.new.ensures i) (n.new-2.ensures i)) ∙ key_colliders s.a s.b s.c s.d (search rules) (search rules) (search rules) (search rules)
