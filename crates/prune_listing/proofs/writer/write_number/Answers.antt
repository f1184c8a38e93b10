-- `prune_listing::writer::write_number` meets its contract. Assumes nothing.
use Rattle.std.specs.Prelude.{[], ◌∷◌, ◌≤◌}
use Rattle.std.proofs.Common.{rules, arith, length-append}
use Rattle.prune_listing.specs.Lines.{decimal}
use Rattle.prune_listing.specs.LinesLaws.{decimal_short, rest_written}
use Rattle.prune_listing.proofs.writer.write_number.Goals as goal

pub overflow_add-result : goal.overflow_add-result
overflow_add-result c =
    let short : c.write_front.result ≤ 6 = omega (arith, c.write_front.ensures.count, length-append (decimal c.args.n) (10 ∷ []), decimal_short c.args.n) in
    search rules

pub returns : goal.returns
returns c = rest_written c.args.out.now c.args.at _ (omega (arith, c.requires.1)) c.write_front.ensures
