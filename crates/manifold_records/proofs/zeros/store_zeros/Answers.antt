-- `manifold_records::zeros::store_zeros` meets its contract. Assumes nothing.
use Rattle.std.proofs.Common.{◌≡◌, ◌+◌, ◌-◌, ◌∙◌, ap, arith, length, take, drop, replicate, length-take, length-drop}
use Rattle.rows.specs.Laws.{put_lent}
use Rattle.manifold_records.specs.ListLaws.{length_zeros, zeros_replicate}
use Rattle.manifold_records.specs.Written.{zeros}
use Rattle.manifold_records.proofs.zeros.store_zeros.Goals as goal

pub returns : goal.returns
returns c =
    let s = c.args in
    let n : s.at + s.n - s.at ≡ s.n = omega arith in
    let m : length (take (s.at + s.n - s.at) (drop s.at s.g.now)) ≡ s.n = simp (length-take, length-drop) (omega arith) in
    let e = c.fill.ensures.after (λ y q. q) ∙ ap (λ k. replicate k 0) m ∙ zeros_replicate s.n in
    rw e (put_lent s.g.now s.at (zeros s.n) (s.at + s.n - s.at) (length_zeros s.n ∙ omega arith) (omega arith))
