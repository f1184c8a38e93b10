-- `contact_types::pruning::side_points` meets its contract: both leads are the rule's at each turn. Assumes nothing.
use Rattle.std.proofs.Common.{◌≡◌, refl, ap, ◌∙◌, ℕ, length, rules}
use Rattle.std.specs.Prelude.{Option}
use Rattle.math.specs.Constants.{zero_f}
use Rattle.math.specs.Vec.{cross}
use Rattle.math.specs.declared.vec.Vec3.{Vec3}
use Rattle.rules.specs.Numbers.{Better, Leading, greater, less, leader}
use Rattle.rules.specs.Pruning.{side_value, rest, point3, point4}
use Rattle.contact_types.specs.Pruned.{projected_by}
use Rattle.contact_types.specs.PruneStepLaws.{turn}
use Rattle.contact_types.proofs.pruning.side_points.Goals as goal
use Rattle.contact_types.proofs.pruning.side_points.Invariants.{across}

pub loop-k-init : goal.loop-k-init
unfolding leader
loop-k-init c = (refl, refl)

pub loop-k-preserved : goal.loop-k-preserved
loop-k-preserved c =
    let s = c.args in
    let value = across s.ps.now c.cross-perp.result (projected_by s.ps.now s.i).point in
    let v = c.side_value-value.ensures in (
      turn less value (rest s.i s.j) zero_f c.loop-k.k c.loop-k.invariant.0 refl v refl c.passed-below.ensures,
      turn greater value (rest s.i s.j) zero_f c.loop-k.k c.loop-k.invariant.1 refl v refl c.passed-above.ensures,
    )

pub returns : goal.returns
unfolding point3 point4 side_value
returns c =
    let s = c.args in
    let e : c.loop-k.k ≡ length s.ps.now = search rules in
    let perp = c.cross-perp.ensures ∙ ap (λ (x : Vec3). cross x s.normal) c.sub.ensures in
    let end : Better → Vec3 → Option ℕ = λ better x. (leader better (across s.ps.now x (projected_by s.ps.now s.i).point) (rest s.i s.j) zero_f (length s.ps.now)).who in
    record {
      below = ap (λ (l : Leading). l.who) (rw e at c.loop-k.invariant.0) ∙ ap (end less) perp;
      above = ap (λ (l : Leading). l.who) (rw e at c.loop-k.invariant.1) ∙ ap (end greater) perp;
    }
