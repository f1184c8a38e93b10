-- `contact_range::range::pair_number` meets its contract: the lower and the higher collider are the two ids of the pair's key. Assumes nothing.
use mathlib.Core.Path.{ap, ◌∙◌}
use borrow.Author.Rules.{rules}
use Rattle.data_structures.specs.PairKey.{ids_of}
use Rattle.contact_range.specs.RangeStepLaws.{number_of_ids}
use Rattle.contact_range.specs.Conditions.{pair_number}
use Rattle.contact_range.proofs.range.pair_number.Goals as goal

pub returns : goal.returns
returns c =
    let g = c in
    let k = g in
    number_of_ids _ _ (search rules) (search rules) (g.get-ids.ensures ∙ ap ids_of k.new-key.ensures)
    ∙ (λ i. pair_number (k.load.ensures i) (k.load-2.ensures i))
