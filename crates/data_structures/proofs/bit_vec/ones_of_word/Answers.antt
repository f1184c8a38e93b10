-- `data_structures::bit_vec::ones_of_word` meets its contract. The invariant: what is left to write, written, gives the whole. Assumes nothing.
use Rattle.std.proofs.Common.{◌≡◌, refl, sym, ap, ◌∙◌, suc, ◌+◌, ◌-◌, ◌<◌, arith, rules, bit_and, length}
use lib.Bits.{and_le_r}
use Rattle.rows.specs.Rows.{put}
use Rattle.data_structures.specs.BitVec.{word_bits}
use Rattle.data_structures.specs.WordLaws.{word_next, word_none, word_length, trailing_below}
use Rattle.data_structures.specs.LoopLaws.{visit_bit}
use Rattle.data_structures.proofs.bit_vec.ones_of_word.Goals as goal
use Rattle.data_structures.proofs.bit_vec.ones_of_word.Goals.{In-loop-word}

pub loop-word-init : goal.loop-word-init
loop-word-init c = (search rules, refl, refl, refl)

-- in a turn: how many are left after it, and that what is written has room
left : (b : In-loop-word)
    → (b.loop-word.n + suc (length (word_bits 64 b.args.base (bit_and b.loop-word.word (b.loop-word.word - 1)))) ≡ b.args.at + length (word_bits 64 b.args.base b.args.word))
    × (b.loop-word.n < length b.loop-word.ids)
left b =
    let s = b.args in
    let e = ap length (word_next 64 s.base b.loop-word.word (search rules) b.loop-word.invariant.0) in
    let l = word_length 64 s.base s.word in
    (omega arith, omega arith)

pub overflow_add-ids : goal.overflow_add-ids
overflow_add-ids c = omega (arith, trailing_below 64 c.loop-word.word (search rules) c.loop-word.invariant.0)

pub offset_bounds-ids-n : goal.offset_bounds-ids-n
offset_bounds-ids-n c = let r = left c in search rules

pub bounds-ids-n : goal.bounds-ids-n
bounds-ids-n c = (left c).1

pub overflow_add-n : goal.overflow_add-n
overflow_add-n c = let r = left c in search rules

pub loop-word-smaller : goal.loop-word-smaller
loop-word-smaller c = omega (arith, and_le_r c.loop-word.word (c.loop-word.word - 1))

pub loop-word-preserved : goal.loop-word-preserved
loop-word-preserved c =
    let s = c.args in
    let w = c.loop-word.word in (
      omega (arith, and_le_r w (w - 1), c.loop-word.invariant.0),
      omega (arith, (left c).0),
      search rules,
      visit_bit c.loop-word.ids c.loop-word.n s.base w (search rules) c.loop-word.invariant.0 ∙ c.loop-word.invariant.3,
    )

pub returns : goal.returns
unfolding put
returns c =
    let s = c.args in
    let i = c.loop-word.invariant in
    let z : c.loop-word.word ≡ 0 = search rules in
    let e : word_bits 64 s.base c.loop-word.word ≡ word_bits 64 s.base 0 = ap (word_bits 64 s.base) z in
    let v = e ∙ word_none 64 s.base in
    record { count = omega (arith, i.1, ap length v); stored = sym (ap (put c.loop-word.ids c.loop-word.n) v) ∙ i.3 }
