-- `data_structures::bit_vec::ones` meets its contract. The invariant: the bits of the words before word i are visited. Assumes nothing.
use Rattle.std.proofs.Common.{◌≡◌, refl, ap, ◌∙◌, ◌*◌, length, arith, rules}
use Rattle.rows.specs.Rows.{put}
use Rattle.rows.specs.Laws.{length_put}
use Rattle.data_structures.specs.BitVec.{bit_at, numbers_with, set_bits}
use Rattle.data_structures.specs.NumberLaws.{numbers_length}
use Rattle.data_structures.specs.LoopLaws.{visit_word}
use Rattle.data_structures.proofs.bit_vec.ones.Goals as goal

pub loop-i-init : goal.loop-i-init
unfolding numbers_with put
loop-i-init c = (refl, record { count = refl; stored = refl })

pub ones_of_word-n-requires : goal.ones_of_word-n-requires
ones_of_word-n-requires c =
    let l = numbers_length (bit_at c.args.bits.now) 0 (64 * c.loop-i.i) in
    (omega arith, omega arith)

pub loop-i-preserved : goal.loop-i-preserved
loop-i-preserved c =
    let v = visit_word c.args.bits.now c.args.ids.now c.loop-i.i c.loop-i.invariant.1 c.ones_of_word-n.ensures in
    (ap length v.stored ∙ length_put _ _ _, v)

pub returns : goal.returns
unfolding set_bits
returns c =
    let e : c.loop-i.i ≡ length c.args.bits.now = search rules in
    let w = rw e at c.loop-i.invariant.1 in
    record { count = omega (arith, w.count); stored = w.stored }
