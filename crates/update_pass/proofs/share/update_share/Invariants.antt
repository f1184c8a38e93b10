-- What the loop of `update_pass::share::update_share` keeps.
use mathlib.Core.Path.{◌≡◌}
use Prim.Native.Nat.{◌≤◌}
use lib.ListN.{length}
use Rattle.collider.specs.Views.{plain_settings}
use Rattle.update_pass.specs.Share.{Taken}
use Rattle.update_pass.specs.Shared.{first_of}
use Rattle.update_pass.proofs.share.update_share.Given as goal

abbrev pub invariant-loop-k : goal.invariant-loop-k
invariant-loop-k l =
    (l.k ≤ l.count) × Taken (plain_settings l.input.settings) l.input.colliders.now l.input.bodies.now l.input.proposals.now l.shares (first_of l.shares l.worker l.k) l.initial.graph l.initial.bits l.initial.distances l.graph l.bits l.distances l.recycled
    × (length l.graph ≡ length l.initial.graph) × (length l.bits ≡ length l.initial.bits) × (length l.distances ≡ length l.initial.distances)
