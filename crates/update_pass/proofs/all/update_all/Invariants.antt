-- What the loop of `update_pass::all::update_all` keeps.
use mathlib.Core.Path.{◌≡◌}
use Prim.Native.Nat.{◌≤◌}
use lib.ListN.{length}
use Rattle.collider.specs.Views.{plain_settings}
use Rattle.update_pass.specs.AllLaws.{SoFar}
use Rattle.update_pass.proofs.all.update_all.Given as goal

abbrev pub invariant-loop-w : goal.invariant-loop-w
invariant-loop-w l =
    (l.w ≤ l.workers) × SoFar (plain_settings l.input.settings) l.input.colliders.now l.input.bodies.now l.input.proposals.now l.shares l.w l.initial.graph l.graph l.bits l.distances l.recycled
    × (length l.graph ≡ length l.initial.graph) × (length l.bits ≡ length l.initial.bits) × (length l.distances ≡ length l.initial.distances)
