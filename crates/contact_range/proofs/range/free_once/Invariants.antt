-- What the loops of `contact_range::range::free_once` keep.
use mathlib.Core.Path.{◌≡◌}
use mathlib.Core.List.{List}
use mathlib.Core.Bool.{Bool, true, not}
use Prim.Native.Nat.{ℕ, ◌≤◌}
use lib.Dec.{eqb}
use lib.ListN.{length}
use Rattle.rules.specs.Numbers.{every}
use Rattle.contact_range.specs.Recorded.{free_at}
use Rattle.contact_range.specs.RangeStepLaws.{Marked}
use Rattle.contact_range.proofs.range.free_once.Given as goal
use Rattle.layout.specs.Bits.{most_blocks}

abbrev pub test : List ℕ → ℕ → Bool
test graph k = every (λ j. not (eqb (free_at graph j) (free_at graph k))) k

abbrev pub invariant-loop-k : goal.invariant-loop-k
invariant-loop-k l = (l.k ≤ l.freed) × (length l.marks ≡ most_blocks) × (every (test l.graph) l.k ≡ true) × Marked (free_at l.graph) l.k l.marks
