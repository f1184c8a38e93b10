-- What the loops of `shares::range::entries_fit` keep.
use mathlib.Core.Path.{◌≡◌}
use mathlib.Core.Bool.{Bool, true, not}
use mathlib.Core.List.{List}
use Prim.Native.Nat.{ℕ, ◌≤◌}
use lib.Dec.{eqb}
use lib.ListN.{length}
use Rattle.rules.specs.Numbers.{every}
use Rattle.contact_range.specs.Range.{stands}
use Rattle.contact_range.specs.RangeStepLaws.{Marked}
use Rattle.shares.specs.Shares.{entry_at}
use Rattle.shares.proofs.range.entries_fit.Given as goal
use Rattle.layout.specs.Bits.{most_blocks}

abbrev pub standing : List ℕ → List ℕ → ℕ → Bool
standing shares graph k = stands graph (entry_at shares k)

abbrev pub fresh : List ℕ → ℕ → Bool
fresh shares k = every (λ j. not (eqb (entry_at shares j) (entry_at shares k))) k

abbrev pub invariant-loop-k : goal.invariant-loop-k
invariant-loop-k l =
    (l.k ≤ l.total) × (length l.marks ≡ most_blocks) × (every (standing l.shares l.graph) l.k ≡ true) × (every (fresh l.shares) l.k ≡ true) × Marked (entry_at l.shares) l.k l.marks
