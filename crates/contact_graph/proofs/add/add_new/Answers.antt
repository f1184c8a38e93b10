-- `contact_graph::add::add_new` meets its contract: the stores are those of `added_words`. Assumes nothing.
use mathlib.Core.Path.{◌≡◌, refl, ap, ◌∙◌}
use mathlib.Core.List.{List}
use Prim.Native.Nat.{ℕ, ◌+◌, ◌<◌}
use native.Mathlib.Omega.{arith}
use lib.ListN.{length}
use Rattle.rows.specs.Laws.{length_put}
use Rattle.contact_graph.specs.AddLaws.{AddRoom, add_room, add_stored}
use Rattle.contact_range.specs.Recorded.{listed_count}
use Rattle.contact_graph.proofs.add.add_new.Goals as goal
use Rattle.layout.specs.Graph.{graph_list}

pub contact_at-at-requires : goal.contact_at-at-requires
contact_at-at-requires c = let z = (add_room c.requires.0 c.requires.2).id in (c.requires.0.right, omega (arith, c.new_id-new.ensures))

pub store_new-requires : goal.store_new-requires
store_new-requires c = (c.requires.1, c.contact_at-at.ensures.room)

-- the length is as it was, and the list's next place lies within it
next_place : {g : List ℕ} {n m : ℕ} → AddRoom g → n ≡ listed_count g → m ≡ length g → graph_list + n < m
next_place z p q = omega (arith, z.listed, p, q)

pub store-requires : goal.store-requires
store-requires c =
    let z = next_place (add_room c.requires.0 c.requires.2) c.load-listed.ensures (ap length c.store_new.ensures ∙ length_put _ _ _) in
    omega arith

pub next_given-now_given-requires : goal.next_given-now_given-requires
next_given-now_given-requires c = let z = add_room c.requires.0 c.requires.2 in omega (arith, c.load-given.ensures)

pub overflow_add-listed-2 : goal.overflow_add-listed-2
overflow_add-listed-2 c = let z = add_room c.requires.0 c.requires.2 in omega (arith, c.load-listed.ensures)

pub store_three-requires : goal.store_three-requires
store_three-requires c =
    let z = next_place (add_room c.requires.0 c.requires.2) c.load-listed.ensures (ap length c.store_new.ensures ∙ length_put _ _ _) in
    omega (arith, ap length c.store.ensures ∙ length_put _ _ _)

pub returns : goal.returns
returns c =
    record {
      id = c.new_id-new.ensures;
      graph =
          add_stored c.args.graph.now c.args.a c.new_id-new.ensures c.contact_at-at.ensures.place c.load-listed.ensures c.load-given.ensures c.load-freed.ensures
          c.store_new.ensures c.store.ensures c.next_given-now_given.ensures refl c.next_freed-now_freed.ensures c.store_three.ensures;
    }
