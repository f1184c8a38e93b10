-- `words::row::load_words` meets its contract. Assumes nothing.
use Rattle.std.proofs.Common.{◌≡◌, ◌∙◌, ap, ◌+◌, ◌-◌, length, take, drop, arith}
use Rattle.rows.specs.Rows.{part}
use Rattle.words.proofs.row.load_words.Goals as goal

pub returns : goal.returns
unfolding part
returns c =
    let s = c.args in
    let n : s.at + length s.out.now - s.at ≡ length s.out.now = omega arith in
    c.copy_from_slice.ensures.after ∙ ap (λ k. take k (drop s.at s.g.now)) n
