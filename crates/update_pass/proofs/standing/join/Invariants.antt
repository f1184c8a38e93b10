-- What the loop of `update_pass::standing::join` keeps.
use mathlib.Core.Path.{◌≡◌}
use Prim.Native.Nat.{◌≤◌}
use lib.ListN.{length}
use Rattle.rules.specs.Limits.{most_workers}
use Rattle.update_pass.specs.Share.{joined_parts}
use Rattle.update_pass.proofs.standing.join.Given as goal

abbrev pub invariant-loop-w : goal.invariant-loop-w
invariant-loop-w l = (l.w ≤ most_workers) × (l.joined ≡ joined_parts l.count l.bits l.w) × (length l.joined ≡ length l.initial.joined)
