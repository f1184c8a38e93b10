-- `contact_update::renewal::renew_from` meets its contract. Assumes nothing.
use native.Mathlib.Omega.{arith}
use mathlib.Core.Bool.{◌&&◌}
use lib.Dec.{leb}
use Prim.Native.Nat.{◌+◌}
use Rattle.collider.specs.Views.{plain_settings}
use Rattle.contact_parameters.specs.Views.{plain_surface}
use Rattle.layout.specs.Contact.{contact_manifolds}
use Rattle.contact_update.specs.ManifoldFitLaws.{FitSurface, proposal_read, remaining_fits}
use Rattle.contact_update.specs.MatchTurnLaws.{old_fewer, written, renewed_from}
use borrow.Author.Rules.{rules}
use Rattle.contact_update.proofs.renewal.renew_from.Goals as goal

pub match_manifolds-requires : goal.match_manifolds-requires
match_manifolds-requires c =
    let r = c.store_remaining-n in
    let ok = c.well_formed.1.1.1.1.0.1.1.1.1.1.0.1.1 in
    let surface : FitSurface (plain_surface c.args.filtering.surface) = record { friction = ok.0.1; restitution = ok.1.0.1 } in
    let fits = remaining_fits _ _ _ _ _ _ _ surface (proposal_read _ c.requires.2) in
    (written _ (contact_manifolds + 1) _ r.ensures.words r.ensures.count fits (omega (arith, r.ensures.few)), omega (arith, r.ensures.few), old_fewer (c.args.settings.match_contacts && leb r.result 4) _ _ c.matched_count-matched.ensures c.requires.0)

pub returns : goal.returns
returns c =
    let r = c.store_remaining-n in
    let ok = c.well_formed.1.1.1.1.0.1.1.1.1.1.0.1.1 in
    let surface : FitSurface (plain_surface c.args.filtering.surface) = record { friction = ok.0.1; restitution = ok.1.0.1 } in
    renewed_from (plain_settings c.args.settings) _ _ _ _ (search rules) (remaining_fits _ _ _ _ _ _ _ surface (proposal_read _ c.requires.2)) r.ensures
    c.matched_count-matched.ensures
    c.match_manifolds.ensures c.store.ensures
    c.store_zeros.ensures
