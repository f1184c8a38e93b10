-- What the loop of `trace_printing::lines::write_events` keeps.
use mathlib.Core.Path.{◌≡◌}
use Prim.Native.Nat.{◌*◌, ◌≤◌}
use Rattle.layout.specs.Event.{event_size}
use Rattle.step.specs.Read.{event_at}
use Rattle.trace_rules.specs.Printed.{event_text}
use Rattle.trace_printing.specs.Lines.{event_room}
use Rattle.trace_printing.specs.LineLaws.{length_event, LinesWritten}
use Rattle.trace_printing.proofs.lines.write_events.Given as goal

abbrev pub invariant-loop-k : goal.invariant-loop-k
invariant-loop-k l = (l.k ≤ l.count) × (l.lines.row.ghost_name ≡ l.initial.lines.row.ghost_name) × LinesWritten event_text (λ n. event_at l.events (n * event_size)) event_room length_event l.initial.lines.row.now l.initial.lines.at l.k l.lines.row.now l.lines.at
