-- `contact_api::layout_call::lengths_words` meets its contract. Assumes nothing.
use native.Mathlib.Omega.{arith}
use Rattle.data_structures.specs.BitVecLaws.{blocks_hold}
use Rattle.contact_api.specs.Layout.{lengths_words}
use Rattle.contact_api.proofs.layout_call.lengths_words.Goals as goal

pub overflow_mul-result-2 : goal.overflow_mul-result-2
overflow_mul-result-2 c = omega (arith, c.blocks-count.ensures, (blocks_hold c.args.capacity).1, c.requires)

pub overflow_cast-result-7 : goal.overflow_cast-result-7
overflow_cast-result-7 c = omega (arith, c.blocks-count.ensures, (blocks_hold c.args.capacity).1, c.requires)

pub returns : goal.returns
unfolding lengths_words
returns c = rw (c.graph_length-graph.ensures, c.blocks-count.ensures)
