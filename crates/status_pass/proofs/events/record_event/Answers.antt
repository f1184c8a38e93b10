-- `status_pass::events::record_event` meets its contract: nothing, or one event's words after those written. Assumes nothing.
use Rattle.status_pass.specs.ListedLaws.{event_none, event_one}
use Rattle.status_pass.proofs.events.record_event.Goals as goal

pub returns-in_default : goal.returns-in_default
returns-in_default c =
    let own = rw c.unwrap-own.ensures at c.as_array.ensures.cases in
    event_none c.args.words.now c.args.id.0 (rw own.same at c.event_of.ensures) c.args.events.now c.args.n c.in_default.is

pub returns : goal.returns
returns c =
    let own = rw c.unwrap-own.ensures at c.as_array.ensures.cases in
    let words = rw own.same at c.event_words.ensures in
    event_one c.args.words.now c.args.id.0 (rw own.same at c.event_of.ensures) c.args.events.now c.args.n c.in-Some.is (rw words at c.append.ensures.stored) c.append.ensures.count
