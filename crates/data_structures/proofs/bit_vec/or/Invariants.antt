-- What the loop of `data_structures::bit_vec::or` keeps.
use Rattle.std.proofs.Common.{◌≡◌, ◌≤◌, length, take}
use Rattle.data_structures.specs.BitVec.{joined}
use Rattle.data_structures.proofs.bit_vec.or.Given as goal

abbrev pub invariant-loop-k : goal.invariant-loop-k
invariant-loop-k l = (l.k ≤ length l.initial.bits) × (length l.bits ≡ length l.initial.bits) × (l.bits ≡ joined l.initial.bits (take l.k l.other))
