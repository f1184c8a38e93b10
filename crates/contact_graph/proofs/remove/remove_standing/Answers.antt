-- `contact_graph::remove::remove_standing` meets its contract: the stores are those of `removed_words`. Assumes nothing.
use mathlib.Core.Path.{◌≡◌, ap, ◌∙◌}
use Prim.Native.Nat.{ℕ, ◌+◌, ◌-◌}
use native.Mathlib.Omega.{arith}
use lib.ListN.{length}
use Rattle.rows.specs.Laws.{length_put}
use Rattle.contact_range.specs.Recorded.{capacity_of, free_count}
use Rattle.contact_graph.specs.CallLaws.{removal_room, gap_closed}
use Rattle.contact_graph.proofs.remove.remove_standing.Goals as goal
use Rattle.layout.specs.Graph.{graph_list}

pub close_gap-requires : goal.close_gap-requires
close_gap-requires c =
    let z = removal_room c.args.id.0 c.requires.0 c.requires.1 in
    let f = c.gap_of-gap.ensures in
    (omega (arith, f.list), omega (arith, f.index))

pub store-requires : goal.store-requires
store-requires c =
    -- once the gap is closed the length is as it was
    let z = removal_room c.args.id.0 c.requires.0 c.requires.1 in
    let same = ap length c.close_gap.ensures ∙ length_put _ _ _ ∙ length_put _ _ _ in
    omega (arith, same, c.load-capacity.ensures, c.load-freed.ensures)

pub overflow_sub-listed : goal.overflow_sub-listed
overflow_sub-listed c =
    let z = removal_room c.args.id.0 c.requires.0 c.requires.1 in
    omega (arith, c.load-listed.ensures)

pub overflow_add-freed : goal.overflow_add-freed
overflow_add-freed c =
    let z = removal_room c.args.id.0 c.requires.0 c.requires.1 in
    let m = c.requires.0.right.most in
    omega (arith, c.load-freed.ensures)

pub returns : goal.returns
returns c =
    let next : graph_list + c.load-capacity.result + c.load-freed.result ≡ graph_list + capacity_of c.args.graph.now + free_count c.args.graph.now
    = omega (arith, c.load-capacity.ensures, c.load-freed.ensures) in
    gap_closed c.gap_of-gap.ensures c.close_gap.ensures next
    c.store.ensures (ap (λ (n : ℕ). n - 1) c.load-listed.ensures)
    (ap (λ (n : ℕ). n + 1) c.load-freed.ensures) c.store_counts.ensures
