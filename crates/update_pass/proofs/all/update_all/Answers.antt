-- `update_pass::all::update_all` meets its contract: after w workers the rows are as their contacts leave them. Assumes nothing.
use mathlib.Core.Path.{◌≡◌, sym, ap, subst, ◌∙◌}
use Prim.Native.Nat.{ℕ, ◌+◌, ◌-◌, ◌*◌, ◌≤◌, ◌<◌}
use native.Mathlib.Omega.{arith}
use lib.ListN.{length}
use Rattle.rows.specs.Rows.{put}
use Rattle.rows.specs.Laws.{put_whole}
use Rattle.data_structures.specs.BitVec.{blocks_of}
use Rattle.manifold_records.specs.ListLaws.{length_zeros}
use Rattle.manifold_records.specs.Written.{zeros}
use Rattle.contact_range.specs.Recorded.{capacity_of}
use Rattle.rules.specs.Limits.{most_workers}
use Rattle.shares.specs.Shares.{workers_of}
use Rattle.update_pass.specs.AllLaws.{cleared_parts, so_far_none, own_ready, so_far_next, so_far_all, so_far_few}
use borrow.Author.Rules.{rules}
use Rattle.update_pass.proofs.all.update_all.Goals as goal

pub loop-w-init : goal.loop-w-init
loop-w-init c =
    let b : c.blocks-count.result ≡ blocks_of (capacity_of c.args.graph.now) = c.blocks-count.ensures ∙ ap blocks_of c.load-capacity.ensures in
    let n = c.requires.distance_words in
    let end : most_workers * c.blocks-count.result - 0 ≡ length c.args.bits.now = omega (arith, c.requires.bit_words) in
    let bits = cleared_parts c.args.bits.now (most_workers * c.blocks-count.result - 0) end c.clear.ensures ∙ ap zeros (end ∙ c.requires.bit_words) in (
      search rules,
      so_far_none _ _ _ _ _ c.requires.listed bits
          (c.store_zeros.ensures ∙ ap (λ (k : ℕ). put c.args.distances.now 0 (zeros k)) c.load-capacity.ensures ∙ put_whole c.args.distances.now (zeros _) (length_zeros _ ∙ sym n)),
      search rules,
      search rules,
      search rules,
    )

pub update_share-recycled-requires : goal.update_share-recycled-requires
update_share-recycled-requires c =
    let l = subst (λ (n : ℕ). c.loop-w.w < n) c.load-workers.ensures c.loop-w-test.true in
    let n : c.blocks-count.result ≡ blocks_of (capacity_of c.args.graph.now) = c.blocks-count.ensures ∙ ap blocks_of c.load-capacity.ensures in
    let from = c.loop-w.w * c.blocks-count.result in
    let p : from ≡ c.loop-w.w * blocks_of (capacity_of c.args.graph.now) = ap (λ (k : ℕ). c.loop-w.w * k) n in
    let q : from + c.blocks-count.result - from ≡ blocks_of (capacity_of c.args.graph.now) = omega arith in
    own_ready _ _ _ _ _ c.requires.listed c.loop-w.w l c.loop-w.invariant.1 p q

pub overflow_add-recycled : goal.overflow_add-recycled
overflow_add-recycled c =
    let l = subst (λ (n : ℕ). c.loop-w.w < n) c.load-workers.ensures c.loop-w-test.true in
    let n : c.blocks-count.result ≡ blocks_of (capacity_of c.args.graph.now) = c.blocks-count.ensures ∙ ap blocks_of c.load-capacity.ensures in
    let from = c.loop-w.w * c.blocks-count.result in
    let p : from ≡ c.loop-w.w * blocks_of (capacity_of c.args.graph.now) = ap (λ (k : ℕ). c.loop-w.w * k) n in
    let q : from + c.blocks-count.result - from ≡ blocks_of (capacity_of c.args.graph.now) = omega arith in
    let m = c.requires.listed.ready.checked.right.most in
    let z : c.loop-w.w + 1 ≤ workers_of c.args.shares.now = omega arith in
    omega (arith, so_far_few _ _ _ _ _ c.requires.listed (c.loop-w.w + 1) z (so_far_next _ _ _ _ _ c.requires.listed c.loop-w.w l c.loop-w.invariant.1 p q c.update_share-recycled.ensures))

pub loop-w-preserved : goal.loop-w-preserved
loop-w-preserved c =
    let l = subst (λ (n : ℕ). c.loop-w.w < n) c.load-workers.ensures c.loop-w-test.true in
    let n : c.blocks-count.result ≡ blocks_of (capacity_of c.args.graph.now) = c.blocks-count.ensures ∙ ap blocks_of c.load-capacity.ensures in
    let from = c.loop-w.w * c.blocks-count.result in
    let p : from ≡ c.loop-w.w * blocks_of (capacity_of c.args.graph.now) = ap (λ (k : ℕ). c.loop-w.w * k) n in
    let q : from + c.blocks-count.result - from ≡ blocks_of (capacity_of c.args.graph.now) = omega arith in (
      search rules,
      so_far_next _ _ _ _ _ c.requires.listed c.loop-w.w l c.loop-w.invariant.1 p q c.update_share-recycled.ensures,
      search rules,
      search rules,
      search rules,
    )

pub returns : goal.returns
returns c =
    let e : c.loop-w.w ≡ c.load-workers.result = search rules in
    so_far_all _ _ _ _ _ c.requires.listed c.loop-w.w (e ∙ c.load-workers.ensures) c.loop-w.invariant.1
