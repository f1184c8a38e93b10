-- `collider::range::records_fit` meets its contract. Assumes nothing.
use Rattle.std.proofs.Common.{◌*◌, refl, rules}
use Rattle.rule_laws.specs.AllLaws.{every_from_all}
use Rattle.words.specs.Words.{word_at, where_set}
use Rattle.collider.proofs.range.records_fit.Goals as goal

pub returns : goal.returns
returns g c =
    let R = g.R.Record in
    let words = c.args.words.now in
    every_from_all (λ n. where_set (word_at words (n * R.SIZE)) (R.values_fit words (n * R.SIZE))) c.args.count _ _ c.all.result c.all.ensures.ran refl (λ x b q k. search rules)
