-- `words::row::store_words` meets its contract. Assumes nothing.
use Rattle.std.proofs.Common.{◌+◌, ◌-◌, length, arith}
use Rattle.rows.specs.Laws.{put_lent}
use Rattle.words.proofs.row.store_words.Goals as goal

pub returns : goal.returns
returns c =
    let s = c.args in
    rw c.copy_from_slice.ensures.after (put_lent s.g.now s.at s.ws.now (s.at + length s.ws.now - s.at) (omega arith) (omega arith))
