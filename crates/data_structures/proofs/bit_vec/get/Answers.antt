-- `data_structures::bit_vec::get` meets its contract. Assumes nothing.
use Rattle.std.proofs.Common.{sym, ◌/◌, ◌%◌, get_or, rules}
use Rattle.data_structures.specs.BitVec.{bit_at}
use Rattle.data_structures.specs.BitVecLaws.{bit_past}
use Rattle.data_structures.specs.WordLaws.{bit_mask}
use Rattle.data_structures.proofs.bit_vec.get.Goals as goal

pub returns-then-block-bits : goal.returns-then-block-bits
returns-then-block-bits c = sym (bit_past c.args.bits.now c.args.index (search rules))

pub returns : goal.returns
unfolding bit_at
returns c =
    let a = c.args in
    rw (c.place_of-block.ensures.block, c.place_of-block.ensures.mask) (bit_mask (get_or a.bits.now (a.index / 64) 0) (a.index % 64))
