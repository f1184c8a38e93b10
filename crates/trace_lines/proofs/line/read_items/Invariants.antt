-- What the loop of `trace_lines::line::read_items` keeps: so many items are read, and their words stand in the row.
use Rattle.trace_lines.specs.LineLaws.{ItemsTo}
use Rattle.trace_lines.proofs.line.read_items.Given as goal

abbrev pub invariant-loop-item : goal.invariant-loop-item
invariant-loop-item l = ItemsTo l.items l.text l.at l.initial.words l.words l.next l.n l.fits l.item-index
