-- What the loop of `contact_update::recycled::recycle_points` keeps.
use mathlib.Core.Path.{◌≡◌}
use mathlib.Core.List.{map}
use Prim.Native.Nat.{◌≤◌}
use lib.ListN.{length, take}
use Rattle.manifold_records.specs.Recorded.{points_at}
use Rattle.contact_update.specs.After.{points_put}
use Rattle.contact_update.specs.Updates.{point_after}
use Rattle.contact_update.proofs.recycled.recycle_points.Given as goal

abbrev pub invariant-loop-k : goal.invariant-loop-k
invariant-loop-k l = (l.k ≤ l.n) × (length l.words ≡ length l.initial.words) × (l.words ≡ points_put (take l.k (map (point_after l.motion l.normal) (points_at l.initial.words l.at l.n))) l.at l.initial.words)
