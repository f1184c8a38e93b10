-- `status_pass::visit::settle_own` meets its contract: the record that is lent on comes back in its place. Assumes nothing.
use Rattle.std.proofs.Common.{◌≡◌, ◌+◌, ◌-◌, arith}
use Rattle.contact_range.specs.RangeLaws.{standing_below}
use Rattle.status_pass.specs.VisitLaws.{own_length, own_settled}
use Rattle.status_pass.proofs.visit.settle_own.Goals as goal
use Rattle.layout.specs.Contact.{contact_size}

pub contact_at-at-requires : goal.contact_at-at-requires
contact_at-at-requires c = (c.requires.0.right, standing_below c.requires.0.range _ c.requires.1)

pub settle-requires : goal.settle-requires
settle-requires c =
    let at = c.contact_at-at.result in
    own_length c.args.id.0 c.requires.0 c.requires.1 c.contact_at-at.ensures.place (let e : at + contact_size - at ≡ contact_size = omega arith in e)

pub returns : goal.returns
returns c =
    let at = c.contact_at-at.result in
    own_settled c.args.id.0 c.requires.0 c.requires.1 c.contact_at-at.ensures.place (let e : at + contact_size - at ≡ contact_size = omega arith in e) _ c.settle.ensures
