-- `data_structures::bit_vec::or` meets its contract. Assumes nothing.
use Rattle.std.proofs.Common.{refl, rules, take_all}
use Rattle.data_structures.specs.LoopLaws.{joined_none, join_step}
use Rattle.data_structures.proofs.bit_vec.or.Goals as goal

pub loop-k-init : goal.loop-k-init
loop-k-init c = (search rules, refl, joined_none _)

pub loop-k-preserved : goal.loop-k-preserved
loop-k-preserved c =
    let l = c.loop-k in
    (search rules, search rules, join_step _ _ l.k l.invariant.2 (search rules) (search rules))

pub returns : goal.returns
returns c = rw (take_all c.loop-k.k c.args.other.now (search rules)) at c.loop-k.invariant.2
