-- What the loop of `manifold_records::point::store_listed` keeps.
use mathlib.Core.Path.{◌≡◌}
use Prim.Native.Nat.{◌≤◌, ◌-◌}
use lib.ListN.{length, take}
use Rattle.rows.specs.Rows.{put, each}
use Rattle.contact_types.specs.Views.{point_of}
use Rattle.manifold_records.specs.Written.{point_words}
use Rattle.manifold_records.proofs.point.store_listed.Given as goal

abbrev pub invariant-loop-k : goal.invariant-loop-k
invariant-loop-k l = (l.k ≤ l.n) × (length l.g ≡ length l.initial.g) × (l.g ≡ put l.initial.g l.at (each (λ p. point_words (point_of p)) (take l.k l.points)))
