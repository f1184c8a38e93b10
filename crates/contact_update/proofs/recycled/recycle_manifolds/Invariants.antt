-- What the loop of `contact_update::recycled::recycle_manifolds` keeps.
use mathlib.Core.Path.{◌≡◌}
use mathlib.Core.List.{map}
use Prim.Native.Nat.{◌≤◌, ◌+◌, ◌*◌}
use lib.ListN.{length, take}
use Rattle.manifold_records.specs.Recorded.{manifolds_at}
use Rattle.layout.specs.Contact.{contact_manifolds}
use Rattle.layout.specs.Manifold.{manifold_size}
use Rattle.contact_update.specs.After.{manifolds_put}
use Rattle.contact_update.specs.PutLaws.{Left}
use Rattle.contact_update.specs.Updates.{manifold_after}
use Rattle.contact_update.proofs.recycled.recycle_manifolds.Given as goal

abbrev pub invariant-loop-k : goal.invariant-loop-k
invariant-loop-k l =
    (l.k ≤ l.n) × (length l.words ≡ length l.initial.words) × Left l.initial.words l.words (contact_manifolds + 1 + l.k * manifold_size) × (l.words ≡ manifolds_put (take l.k (map (manifold_after l.motion) (manifolds_at l.initial.words contact_manifolds))) (contact_manifolds + 1) l.initial.words)
