-- `contact_graph::call::has_contact` meets its contract: an id that was never given does not stand. Assumes nothing.
use mathlib.Core.Path.{sym}
use native.Mathlib.Omega.{arith}
use borrow.Author.Tests.{le-ltb}
use Rattle.contact_graph.specs.CallLaws.{standing_of}
use Rattle.contact_range.specs.RangeLaws.{never_given}
use Rattle.contact_graph.proofs.call.has_contact.Goals as goal

pub is_standing-requires : goal.is_standing-requires
is_standing-requires c = (standing_of c.requires, omega arith)

pub returns-else-id-load : goal.returns-else-id-load
returns-else-id-load c = rw (le-ltb _ _ c.if-id-load.false) (sym (never_given c.requires.range c.args.id.0 (omega arith)))
