-- What a record in range says of its counts. Assumes nothing.
use Rattle.std.specs.Prelude.{List, ℕ}
use Rattle.manifold_records.specs.Counts.{Counted}
use Rattle.layout.specs.Contact.{contact_manifolds}
use Rattle.contact_range.specs.RangeLaws.{Fitting}

pub counted_of : {w : List ℕ} → Fitting w 0 → Counted w contact_manifolds
counted_of f = record { manifolds = f.manifolds; points = f.points }
