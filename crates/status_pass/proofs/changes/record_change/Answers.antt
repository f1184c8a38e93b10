-- `status_pass::changes::record_change` meets its contract: nothing, or one change's words after those written. Assumes nothing.
use Rattle.status_pass.specs.ListedLaws.{change_none, change_one}
use Rattle.status_pass.proofs.changes.record_change.Goals as goal

pub returns-in_default : goal.returns-in_default
returns-in_default c =
    let own = rw c.unwrap-own.ensures at c.as_array.ensures.cases in
    change_none c.args.words.now c.args.id.0 (rw own.same at c.change_of.ensures) c.args.changes.now c.args.n c.in_default.is

pub returns : goal.returns
returns c =
    let own = rw c.unwrap-own.ensures at c.as_array.ensures.cases in
    let words = rw own.same at c.change_words.ensures in
    change_one c.args.words.now c.args.id.0 (rw own.same at c.change_of.ensures) c.args.changes.now c.args.n c.in-Some.is (rw words at c.append.ensures.stored) c.append.ensures.count
