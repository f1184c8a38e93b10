-- `contact_range::range::pairs_once` meets its contract. Assumes nothing.
use Rattle.contact_range.specs.RangeStepLaws.{all_zero, unmarked}
use Rattle.contact_range.proofs.range.pairs_once.Goals as goal

pub pairs_differ-requires : goal.pairs_differ-requires
unfolding all_zero
pairs_differ-requires c = (c.requires.0, c.requires.1, unmarked _ tt)
