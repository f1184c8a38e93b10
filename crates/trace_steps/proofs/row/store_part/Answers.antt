-- `trace_steps::row::store_part` meets its contract. Assumes nothing.
use Rattle.std.proofs.Common.{◌≡◌, ◌+◌, ◌-◌, ◌∙◌, ap, arith, take, drop}
use Rattle.rows.specs.Rows.{part}
use Rattle.rows.specs.Laws.{put_lent, length_part}
use Rattle.trace_steps.proofs.row.store_part.Goals as goal

pub returns : goal.returns
unfolding part
returns c =
    let s = c.args in
    let n : s.from + s.count - s.from ≡ s.count = omega arith in
    let e = c.copy_from_slice.ensures.after ∙ ap (λ k. take k (drop s.from s.words.now)) n in
    rw e (put_lent s.row.now s.at (part s.words.now s.from s.count) (s.at + s.count - s.at) (length_part s.words.now s.from s.count c.requires.1 ∙ omega arith) (omega arith))
