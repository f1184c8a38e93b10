-- `contact_update::record::update_between` meets its contract. Assumes nothing.
use mathlib.Core.Path.{ap, ◌∙◌}
use Rattle.std.specs.Prelude.{not}
use Rattle.rules.specs.Sides.{overlap}
use Rattle.contact_records.specs.Recorded.{pair_at}
use Rattle.contact_update.specs.BranchLaws.{updates_by, between_disjoint, between_overlapping, no_overlap, no_interaction, both_hold}
use Rattle.contact_update.proofs.record.update_between.Goals as goal
use Rattle.contact_update.proofs.record.update_between.Goals.{then-not-overlap-via-then-not-overlap, then-not-overlap-via-else-not-overlap+then-not-layers_interact}

pub returns-then-not-overlap : goal.returns-then-not-overlap
unfolding pair_at
returns-then-not-overlap c =
    let o = c.overlap.ensures ∙ ap (overlap _ _) c.load-given.ensures in
    record {
      under = λ id. updates_by
          (between_disjoint _ _ _ _ (pair_at c.args.words.now 0 id) _ _ (elim c.then-not-overlap.branch [
            | then-not-overlap-via-then-not-overlap w ↦ no_overlap _ o (ap not w.if-not-overlap.true)
            | then-not-overlap-via-else-not-overlap+then-not-layers_interact w ↦ no_interaction _ o (ap not w.if-not-overlap.false) w.layers_interact.ensures (ap not w.if-not-layers_interact.true)
          ]))
          (c.update_disjoint.ensures.under id);
    }

pub returns : goal.returns
unfolding pair_at
returns c =
    let o = c.overlap.ensures ∙ ap (overlap _ _) c.load-given.ensures in
    record {
      under = λ id. updates_by
          (between_overlapping _ _ _ _ (pair_at c.args.words.now 0 id) _ _ _ _ (both_hold o (ap not c.if-not-overlap.false) c.layers_interact.ensures (ap not c.if-not-layers_interact.false)) c.side_at.ensures c.side_at-2.ensures)
          (c.update_overlapping.ensures.under id);
    }
