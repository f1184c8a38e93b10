-- A point that is loaded, seen as the plain one. Assumes nothing.
use Rattle.std.specs.Prelude.{◌≡◌, refl, ℕ, List}
use Rattle.contact_types.specs.Points.{recorded_point}
use Rattle.contact_types.specs.Views.{point_of}
use Rattle.manifold_records.specs.Recorded.{point_at}

pub point_seen : (xs : List ℕ) (at : ℕ) → point_of (recorded_point xs at) ≡ point_at xs at
unfolding recorded_point point_at
point_seen xs at = refl
