-- What the loop of `data_structures::bit_vec::ones_of_word` keeps, and how far there is still to go.
use Rattle.std.proofs.Common.{◌≡◌, ◌+◌, ◌^◌, ◌<◌, length}
use Rattle.rows.specs.Rows.{put}
use Rattle.data_structures.specs.BitVec.{word_bits}
use Rattle.data_structures.proofs.bit_vec.ones_of_word.Given as goal

abbrev pub invariant-loop-word : goal.invariant-loop-word
invariant-loop-word l =
    (l.word < 2 ^ 64) × (l.n + length (word_bits 64 l.base l.word) ≡ l.at + length (word_bits 64 l.base l.word-2)) × (length l.ids ≡ length l.initial.ids)
    × (put l.ids l.n (word_bits 64 l.base l.word) ≡ put l.initial.ids l.at (word_bits 64 l.base l.word-2))

abbrev pub decreases-loop-word : goal.decreases-loop-word
decreases-loop-word l = l.word
