-- `contact_update::record::update_present` meets its contract. Assumes nothing.
use mathlib.Core.Path.{sym, ap, ◌∙◌}
use native.Mathlib.Omega.{arith}
use Rattle.collider.specs.Recorded.{collider_at}
use Rattle.collider.specs.Views.{plain_collider_if}
use Rattle.contact_records.specs.Recorded.{pair_at}
use Rattle.contact_update.specs.After.{record_updated}
use Rattle.contact_update.specs.BranchLaws.{updates_by, skipped_updates, first_absent, second_absent, both_present, body_below}
use Rattle.contact_update.specs.RecordReadLaws.{counted_of}
use Rattle.contact_update.proofs.record.update_present.Goals as goal

pub returns-in_default : goal.returns-in_default
unfolding record_updated
returns-in_default c =
    let o = ap (collider_at _) (sym c.load-n1.ensures) ∙ sym c.load_collider.ensures ∙ ap plain_collider_if c.in_default.is in
    record { under = λ id. updates_by (first_absent _ _ _ _ (pair_at c.args.words.now 0 id) _ _ o) (skipped_updates _ _ _ c.skipped.ensures) }

pub returns-in_default-load_collider : goal.returns-in_default-load_collider
unfolding record_updated
returns-in_default-load_collider c =
    let o = ap (collider_at _) (sym c.load-n1.ensures) ∙ sym c.load_collider.ensures ∙ ap plain_collider_if c.in-Some.is in
    let q = ap (collider_at _) (sym c.load-n2.ensures) ∙ sym c.load_collider-2.ensures ∙ ap plain_collider_if c.in_default-load_collider.is in
    record { under = λ id. updates_by (second_absent _ _ _ _ (pair_at c.args.words.now 0 id) _ _ _ o q) (skipped_updates _ _ _ c.skipped-in_default-load_collider.ensures) }

pub update_between-requires : goal.update_between-requires
update_between-requires c =
    let s = c.requires in
    let f = s.record_fits in
    let b1 = body_below _ c.load-n1.result _ s.colliders_fit_lem (omega (arith, c.load-n1.ensures, f.collider1)) (sym c.load_collider.ensures ∙ ap plain_collider_if c.in-Some.is) in
    let b2 = body_below _ c.load-n2.result _ s.colliders_fit_lem (omega (arith, c.load-n2.ensures, f.collider2)) (sym c.load_collider-2.ensures ∙ ap plain_collider_if c.in-Some-load_collider.is) in
    (b1, b2, s.body_words, record { counted = counted_of f; proposal_words = s.proposal_words; proposed = s.proposed })

pub returns : goal.returns
unfolding record_updated
returns c =
    let o = ap (collider_at _) (sym c.load-n1.ensures) ∙ sym c.load_collider.ensures ∙ ap plain_collider_if c.in-Some.is in
    let q = ap (collider_at _) (sym c.load-n2.ensures) ∙ sym c.load_collider-2.ensures ∙ ap plain_collider_if c.in-Some-load_collider.is in
    record { under = λ id. updates_by (both_present _ _ _ _ (pair_at c.args.words.now 0 id) _ _ _ _ o q) (c.update_between.ensures.under id) }
