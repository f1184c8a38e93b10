-- `contact_graph::add::stands_at` meets its contract: the list's place and the record lie in the graph. Assumes nothing.
use native.Mathlib.Omega.{arith}
use Rattle.contact_range.specs.RangeLaws.{counts, listed_below}
use Rattle.contact_graph.proofs.add.stands_at.Goals as goal

pub id_at-requires : goal.id_at-requires
id_at-requires c =
    let n = counts c.requires.0.range in
    let r = c.requires.0.right in
    omega (arith, r.size)

pub contact_at-at-requires : goal.contact_at-at-requires
contact_at-at-requires c =
    let b = listed_below c.requires.0.range c.args.p c.requires.1 in
    (c.requires.0.right, omega (arith, c.id_at.ensures))

pub returns : goal.returns
returns c = rw (c.same_colliders.ensures, c.load-collider1.ensures, c.load-collider2.ensures, c.contact_at-at.ensures.place, c.id_at.ensures)
