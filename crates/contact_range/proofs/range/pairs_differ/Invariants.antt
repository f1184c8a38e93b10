-- What the loops of `contact_range::range::pairs_differ` keep.
use mathlib.Core.Path.{◌≡◌}
use mathlib.Core.List.{List}
use mathlib.Core.Bool.{Bool, true, not}
use Prim.Native.Nat.{ℕ, ◌≤◌}
use lib.ListN.{length}
use Rattle.rules.specs.Numbers.{every}
use Rattle.contact_range.specs.Range.{same_pair}
use Rattle.contact_range.specs.RangeStepLaws.{Marked, place_number}
use Rattle.contact_range.proofs.range.pairs_differ.Given as goal
use Rattle.contact_range.specs.Conditions.{pair_blocks}

abbrev pub test : List ℕ → ℕ → Bool
test graph p = every (λ q. not (same_pair graph q p)) p

abbrev pub invariant-loop-p : goal.invariant-loop-p
invariant-loop-p l = (l.p ≤ l.listed) × (length l.marks ≡ pair_blocks) × (every (test l.graph) l.p ≡ true) × Marked (place_number l.graph) l.p l.marks
