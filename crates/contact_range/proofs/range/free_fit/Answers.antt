-- `contact_range::range::free_fit` meets its contract: what each test shows for the later ones. Assumes nothing.
use Rattle.contact_range.specs.RangeStepLaws.{all_zero, unmarked}
use borrow.Author.Rules.{rules}
use Rattle.contact_range.proofs.range.free_fit.Goals as goal

pub free_once-requires : goal.free_once-requires
unfolding all_zero
free_once-requires c = (c.requires.listed.counted, search rules, unmarked _ tt)
