-- `data_structures::bit_vec::clear` meets its contract. Assumes nothing.
use Rattle.std.proofs.Common.{◌∙◌, refl, rules}
use Rattle.std.proofs.lemmas.Simd.{splat_is_map}
use Rattle.data_structures.specs.BitVec.{cleared}
use Rattle.data_structures.proofs.bit_vec.clear.Goals as goal

pub returns : goal.returns
unfolding cleared
returns c = c.fill.ensures.after (search rules) ∙ splat_is_map c.args.bits.now _ 0 refl
