-- `update_pass::share::update_share` meets its contract: k contacts are updated, and the next is ready. Assumes nothing.
use mathlib.Core.Path.{refl, ap, subst}
use Prim.Native.Nat.{ℕ, ◌+◌, ◌<◌}
use native.Mathlib.Omega.{arith}
use Rattle.rows.specs.Slots.{upto}
use Rattle.layout.specs.Shares.{shares_entries}
use Rattle.update_pass.specs.Shared.{bits_after, distances_after, recycled_of}
use Rattle.contact_update.specs.OrderLaws.{graph_after_all}
use Rattle.update_pass.specs.ShareLaws.{next_entry, places, turn_ready, turn_few, turn_taken}
use borrow.Author.Rules.{rules}
use Rattle.update_pass.proofs.share.update_share.Goals as goal

pub overflow_add-from : goal.overflow_add-from
overflow_add-from c = let p = places _ _ _ _ _ _ c.requires in omega (arith, p.most, p.room, c.start_of-from.ensures)

pub loop-k-init : goal.loop-k-init
unfolding upto graph_after_all bits_after distances_after recycled_of
loop-k-init c = (search rules, record { graph = refl; bit = refl; distance = refl; recycled = refl }, search rules, search rules, search rules)

pub overflow_add-from-in-loop-k : goal.overflow_add-from-in-loop-k
overflow_add-from-in-loop-k c = let p = places _ _ _ _ _ _ c.requires in omega (arith, p.most, p.room, c.start_of-from.ensures, c.load-count.ensures, c.loop-k-test.true)

pub id_at-id-requires : goal.id_at-id-requires
id_at-id-requires c = let p = places _ _ _ _ _ _ c.requires in omega (arith, p.size, p.room, c.start_of-from.ensures, c.load-count.ensures, c.loop-k-test.true)

pub update_contact-again-requires : goal.update_contact-again-requires
update_contact-again-requires c =
    let l = subst (λ (n : ℕ). c.loop-k.k < n) c.load-count.ensures c.loop-k-test.true in
    let e = next_entry _ _ _ _ _ c.requires.listed _ c.requires.given c.loop-k.k l (ap (λ (n : ℕ). shares_entries + n) c.start_of-from.ensures) c.id_at-id.ensures in
    turn_ready _ _ _ _ _ _ c.requires c.loop-k.k c.loop-k.invariant.1 _ l e

pub overflow_add-recycled : goal.overflow_add-recycled
overflow_add-recycled c =
    let p = places _ _ _ _ _ _ c.requires in
    let f = turn_few _ _ _ _ _ _ c.requires c.loop-k.k c.loop-k.invariant.1 c.update_contact-again.result c.mark_word-recycled.ensures c.loop-k-test.true in
    omega (arith, p.most, p.room, c.load-count.ensures, f)

pub loop-k-preserved : goal.loop-k-preserved
loop-k-preserved c =
    let l = subst (λ (n : ℕ). c.loop-k.k < n) c.load-count.ensures c.loop-k-test.true in
    let e = next_entry _ _ _ _ _ c.requires.listed _ c.requires.given c.loop-k.k l (ap (λ (n : ℕ). shares_entries + n) c.start_of-from.ensures) c.id_at-id.ensures in (
      search rules,
      turn_taken _ _ _ _ _ _ c.requires c.loop-k.k c.loop-k.invariant.1 _ l e c.update_contact-again.ensures c.mark_word-recycled.ensures,
      search rules,
      search rules,
      search rules,
    )
