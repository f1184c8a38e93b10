-- `contact_range::range::listed_fit` meets its contract: what each test shows for the later ones. Assumes nothing.
use Rattle.contact_range.specs.RangeLaws.{counts_fit_lem}
use borrow.Author.Rules.{rules}
use Rattle.contact_range.proofs.range.listed_fit.Goals as goal

pub listed_given-requires : goal.listed_given-requires
listed_given-requires c = record { right = c.requires; counts = counts_fit_lem (search rules) }

pub contacts_listed-requires : goal.contacts_listed-requires
contacts_listed-requires c =
    record {
      counted = record { right = c.requires; counts = counts_fit_lem (search rules) };
      given = search rules;
    }
