-- `manifold_records::point::store_listed` meets its contract. Assumes nothing.
use mathlib.Core.Path.{◌≡◌, refl, ap, ◌∙◌}
use Prim.Native.Nat.{◌-◌}
use lib.ListN.{length, take}
use Rattle.rows.specs.Rows.{put}
use Rattle.rows.specs.EachLaws.{each_step}
use Rattle.contact_types.specs.Views.{point_of}
use Rattle.manifold_records.specs.StoredLaws.{each_map, point_size_lem}
use Rattle.manifold_records.specs.Written.{point_words}
use borrow.Author.Rules.{rules}
use Rattle.manifold_records.proofs.point.store_listed.Goals as goal

pub loop-k-init : goal.loop-k-init
unfolding put
loop-k-init c = (search rules, refl, refl)

pub loop-k-preserved : goal.loop-k-preserved
loop-k-preserved c =
    let n : length c.args.points ≡ 4 = search rules in
    (search rules, search rules, each_step (λ p. point_words (point_of p)) 18 point_size_lem _ _ _ c.loop-k.k _ c.loop-k.invariant.2 c.store_point.ensures (search rules))

pub returns : goal.returns
returns c =
    let s = c.args in
    let e : c.loop-k.k ≡ s.n = search rules in
    rw e at c.loop-k.invariant.2 ∙ ap (put s.g.now s.at) (each_map point_words point_of (take s.n s.points))
