-- `trace_lines::line::read_items` meets its contract. Assumes nothing.
use Rattle.std.proofs.Common.{rules}
use Rattle.trace_lines.specs.LineLaws.{items_stop, item_room, items_end}
use Rattle.trace_lines.proofs.line.read_items.Goals as goal

pub returns-in_err-read : goal.returns-in_err-read
returns-in_err-read c = rw c.from_residual.ensures (items_stop _ _ _ _ _ _ _ _ _ c.loop-item.invariant _ (search rules) c.in_err-read.ensures)

pub store_value-requires : goal.store_value-requires
store_value-requires c = item_room _ _ _ _ _ _ _ _ _ c.loop-item.invariant _ (search rules)

pub returns : goal.returns
returns c = items_end _ _ _ _ _ _ _ _ _ c.loop-item.invariant (search rules)
