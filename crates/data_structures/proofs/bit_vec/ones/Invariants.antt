-- What the loop of `data_structures::bit_vec::ones` keeps.
use Rattle.std.proofs.Common.{◌≡◌, length}
use Rattle.data_structures.specs.BitVec.{Written}
use Rattle.data_structures.specs.LoopLaws.{bits_before}
use Rattle.data_structures.proofs.bit_vec.ones.Given as goal

abbrev pub invariant-loop-i : goal.invariant-loop-i
invariant-loop-i l = (length l.ids ≡ length l.initial.ids) × Written l.initial.ids 0 (bits_before l.bits l.i) l.ids l.n
