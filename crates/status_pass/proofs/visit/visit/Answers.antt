-- `status_pass::visit::visit` meets its contract: one record is read, and then left. Assumes nothing.
use Rattle.std.proofs.Common.{◌≡◌, ◌+◌, ◌-◌, arith}
use Rattle.contact_range.specs.RangeLaws.{standing_below}
use Rattle.status_pass.specs.VisitLaws.{own_pair, visit_done}
use Rattle.status_pass.proofs.visit.visit.Goals as goal
use Rattle.layout.specs.Contact.{contact_size}

pub contact_at-at-requires : goal.contact_at-at-requires
contact_at-at-requires c = (c.requires.checked.right, standing_below c.requires.checked.range _ c.requires.standing)

pub returns : goal.returns
returns c =
    let at = c.contact_at-at.result in
    let p = own_pair c.args.id.0 c.requires.checked c.requires.standing c.contact_at-at.ensures.place (let e : at + contact_size - at ≡ contact_size = omega arith in e) in
    visit_done c.args.counts.events c.args.counts.changes _ p c.verdict_of-v.ensures c.record_event-e.ensures c.record_change-c.ensures c.leave.ensures
