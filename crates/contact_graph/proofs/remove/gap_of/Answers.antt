-- `contact_graph::remove::gap_of` meets its contract: what it reads lies in the graph (`Room`). Assumes nothing.
use mathlib.Core.Path.{◌≡◌, ap, ◌∙◌}
use mathlib.Core.List.{List}
use Prim.Native.Nat.{ℕ, ◌+◌, ◌-◌}
use native.Mathlib.Omega.{arith}
use Rattle.words.specs.Words.{word_at}
use Rattle.contact_graph.specs.CallLaws.{removal_room}
use Rattle.contact_range.specs.Recorded.{contact_at, listed_at, listed_count}
use Rattle.contact_graph.proofs.remove.gap_of.Goals as goal
use Rattle.layout.specs.Graph.{graph_list}

pub contact_at-at-requires : goal.contact_at-at-requires
contact_at-at-requires c = (c.requires.0.right, (removal_room c.args.id.0 c.requires.0 c.requires.1).known)

pub overflow_sub-listed : goal.overflow_sub-listed
overflow_sub-listed c = let z = removal_room c.args.id.0 c.requires.0 c.requires.1 in omega (arith, c.load-listed.ensures)

pub overflow_add-listed : goal.overflow_add-listed
overflow_add-listed c = let z = removal_room c.args.id.0 c.requires.0 c.requires.1 in omega (arith, c.load-listed.ensures)

pub id_at-last-requires : goal.id_at-last-requires
id_at-last-requires c = let z = removal_room c.args.id.0 c.requires.0 c.requires.1 in omega (arith, c.load-listed.ensures)

-- the id that is listed last
last_is : (g : List ℕ) {i n : ℕ} → i ≡ word_at g (graph_list + (n - 1)) → n ≡ listed_count g → i ≡ listed_at g (listed_count g - 1)
last_is g p q = p ∙ ap (λ (k : ℕ). word_at g (graph_list + (k - 1))) q

pub contact_at-moved-requires : goal.contact_at-moved-requires
contact_at-moved-requires c =
    let z = (removal_room c.args.id.0 c.requires.0 c.requires.1).last in
    let e = last_is c.args.graph.now c.id_at-last.ensures c.load-listed.ensures in
    (c.requires.0.right, omega (arith, e))

pub returns : goal.returns
returns c =
    let g = c.args.graph.now in
    let e = last_is g c.id_at-last.ensures c.load-listed.ensures in
    let place = c.load-place.ensures ∙ ap (λ (n : ℕ). word_at g (n + 6)) c.contact_at-at.ensures.place in
    record {
      list = ap (λ (n : ℕ). graph_list + n) place;
      last = e;
      index = ap (λ (n : ℕ). n + 6) (c.contact_at-moved.ensures.place ∙ ap (contact_at g) e);
      place = place;
    }
