-- `contact_graph::add::next_given` meets its contract. Assumes nothing.
use borrow.Author.Tests.{eq-eqb, ne_eqb}
use Rattle.contact_graph.proofs.add.next_given.Goals as goal

pub returns-then-freed-eq0 : goal.returns-then-freed-eq0
returns-then-freed-eq0 c = rw (eq-eqb _ _ c.if-freed-eq0.true)

pub returns-else-freed-eq0 : goal.returns-else-freed-eq0
returns-else-freed-eq0 c = rw (ne_eqb _ _ c.if-freed-eq0.false)
