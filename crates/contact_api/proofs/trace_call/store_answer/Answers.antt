-- `contact_api::trace_call::store_answer` meets its contract. Assumes nothing.
use native.Mathlib.Omega.{arith}
use lib.ListN.{length-set}
use Rattle.contact_api.specs.TraceCallLaws.{two_stored}
use Rattle.contact_api.proofs.trace_call.store_answer.Goals as goal

pub bounds-row-0 : goal.bounds-row-0
bounds-row-0 c = omega (arith, c.requires)

pub bounds-row-1 : goal.bounds-row-1
bounds-row-1 c = let l = length-set c.args.row.now 0 c.args.ended in omega (arith, c.requires, l)

pub returns : goal.returns
returns c = two_stored c.args.row.now c.requires c.args.ended c.args.written
