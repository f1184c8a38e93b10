-- `update_table::run_case::Case::update` meets its contract: what was tested is what the update asks. Assumes nothing.
use Rattle.std.proofs.Common.{rules, sym}
use Rattle.contact_range.specs.RangeLaws.{fitting}
use Rattle.proposals.specs.LoadedLaws.{proposed}
use Rattle.update_table.proofs.run_case.Case.update.Goals as goal

pub update_record-requires : goal.update_record-requires
update_record-requires c =
    record {
      collider_words = search rules;
      body_words = search rules;
      proposal_words = search rules;
      record_words = search rules;
      colliders_fit_lem = sym c.if-colliders_fit.ensures;
      proposed = proposed (sym c.if-proposal_fits.ensures);
      record_fits = fitting _ _ (sym c.if-contact_fits.ensures);
    }
