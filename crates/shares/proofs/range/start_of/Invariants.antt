-- What the loop of `shares::range::start_of` keeps.
use mathlib.Core.Path.{◌≡◌}
use Prim.Native.Nat.{◌≤◌, ◌*◌}
use Rattle.shares.specs.Shares.{start_of}
use Rattle.shares.proofs.range.start_of.Given as goal

abbrev pub invariant-loop-w : goal.invariant-loop-w
invariant-loop-w l = (l.w ≤ l.worker) × (l.total ≤ l.w * 4294967295) × (l.total ≡ start_of l.shares l.w)
