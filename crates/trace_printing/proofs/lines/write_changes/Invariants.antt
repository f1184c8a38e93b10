-- What the loop of `trace_printing::lines::write_changes` keeps.
use mathlib.Core.Path.{◌≡◌}
use Prim.Native.Nat.{◌*◌, ◌≤◌}
use Rattle.layout.specs.Change.{change_size}
use Rattle.step.specs.Read.{change_at}
use Rattle.trace_rules.specs.Printed.{change_text}
use Rattle.trace_printing.specs.Lines.{change_room}
use Rattle.trace_printing.specs.LineLaws.{length_change, LinesWritten}
use Rattle.trace_printing.proofs.lines.write_changes.Given as goal

abbrev pub invariant-loop-k : goal.invariant-loop-k
invariant-loop-k l = (l.k ≤ l.count) × (l.lines.row.ghost_name ≡ l.initial.lines.row.ghost_name) × LinesWritten change_text (λ n. change_at l.changes (n * change_size)) change_room length_change l.initial.lines.row.now l.initial.lines.at l.k l.lines.row.now l.lines.at
