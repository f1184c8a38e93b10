-- How many words a point, a manifold and a list of them have: whatever they hold, since lists are cut and filled up. Assumes nothing.
use Rattle.std.specs.Prelude.{◌≡◌, refl, List, length}
use Rattle.std.proofs.Common.{arith}
use Rattle.rows.specs.Rows.{each}
use Rattle.rules.specs.Records.{Point, Manifold}
use Rattle.layout.specs.Manifold.{manifold_size, manifolds_size}
use Rattle.layout.specs.Point.{point_size}
use Rattle.manifold_records.specs.ListLaws.{length_padded}
use Rattle.manifold_records.specs.Written.{point_words, manifold_words, manifolds_words}

pub length_point : (p : Point) → length (point_words p) ≡ point_size
unfolding point_words
length_point p = refl

pub length_manifold : (m : Manifold) → length (manifold_words m) ≡ manifold_size
unfolding manifold_words
length_manifold m = let e = length_padded 72 (each point_words m.points) in omega arith

pub length_manifolds : (ms : List Manifold) → length (manifolds_words ms) ≡ manifolds_size
unfolding manifolds_words
length_manifolds ms = let e = length_padded 486 (each manifold_words ms) in omega arith
