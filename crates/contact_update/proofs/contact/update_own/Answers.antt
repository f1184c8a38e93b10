-- `contact_update::contact::update_own` meets its contract. Assumes nothing.
use mathlib.Core.Path.{◌≡◌, refl, ap, ◌∙◌}
use Prim.Native.Nat.{ℕ, ◌+◌, ◌-◌, ◌*◌}
use native.Mathlib.Omega.{arith}
use Rattle.rows.specs.Rows.{part}
use Rattle.collider.specs.Views.{plain_settings}
use Rattle.contact_range.specs.RangeLaws.{standing_below}
use Rattle.layout.specs.Contact.{contact_size}
use Rattle.layout.specs.Proposal.{proposal_size}
use Rattle.contact_update.specs.ContactLaws.{lent_part, parts_ready, own_updated}
use Rattle.contact_update.proofs.contact.update_own.Goals as goal

pub contact_at-at-requires : goal.contact_at-at-requires
contact_at-at-requires c = (c.requires.checked.right, standing_below c.requires.checked.range _ c.requires.standing)

pub update_record-requires : goal.update_record-requires
update_record-requires c =
    let x = c.args in
    let from = x.id.0 * proposal_size in
    let at = c.contact_at-at.result in
    let p = lent_part x.input.now.proposals.now from (from + proposal_size - from) proposal_size (omega arith) in
    let w = lent_part x.graph.now at (at + contact_size - at) contact_size (omega arith) ∙ ap (λ (a : ℕ). part x.graph.now a contact_size) c.contact_at-at.ensures.place in
    parts_ready (plain_settings x.input.now.settings) c.requires _ _ p w

pub returns : goal.returns
returns c =
    let x = c.args in
    let from = x.id.0 * proposal_size in
    let at = c.contact_at-at.result in
    let p = lent_part x.input.now.proposals.now from (from + proposal_size - from) proposal_size (omega arith) in
    own_updated _ c.requires _ _ _ _ p refl c.update_record.ensures c.contact_at-at.ensures.place (let e : at + contact_size - at ≡ contact_size = omega arith in e)
