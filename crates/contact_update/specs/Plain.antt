-- What an update of one contact does to the plain graph. Definitions only.
use Rattle.std.specs.Prelude.{ℕ, cond, map, eqb}
use Rattle.rules.specs.Graph.{Graph}
use Rattle.rules.specs.Inputs.{Inputs}
use Rattle.rules.specs.Records.{Pair}
use Rattle.rules.specs.Update.{updated}

-- the pair of that id is updated, and any other is as it was
unfoldable pub pair_updated : Inputs → ℕ → Pair → Pair
pair_updated i id p = cond (eqb p.names.id id) (updated i p).pair p

unfoldable pub plain_update : Inputs → ℕ → Graph → Graph
plain_update i id g = record { capacity = g.capacity; given = g.given; free = g.free; pairs = map (pair_updated i id) g.pairs }
