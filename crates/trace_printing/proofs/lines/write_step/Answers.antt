-- `trace_printing::lines::write_step` meets its contract. Assumes nothing.
use Prim.Native.Nat.{◌*◌}
use Rattle.std.proofs.Common.{rules, arith}
use Rattle.layout.specs.Event.{event_size}
use Rattle.step.specs.Read.{event_at}
use Rattle.text.specs.WrittenLaws.{written_then, written_kept}
use Rattle.trace_rules.specs.Printed.{event_text}
use Rattle.trace_printing.specs.Lines.{event_room}
use Rattle.trace_printing.specs.LineLaws.{length_event, length_lines}
use Rattle.trace_printing.proofs.lines.write_step.Goals as goal

pub write_changes-requires : goal.write_changes-requires
write_changes-requires c =
    let s = c in
    let p = s.requires in
    let w = c.write_events.ensures.written in
    let h = length_lines event_text (λ k. event_at s.args.events.now (k * event_size)) event_room length_event s.args.n in
    (p.1, omega (arith, c.new-lines.ensures.at, w.count, h, p.2, p.3))

pub returns : goal.returns
returns c =
    let w = written_then _ _ c.write_events.ensures.written c.write_changes.ensures.written in
    written_kept _ _ (search rules) (rw (c.new-lines.ensures.row, c.new-lines.ensures.at, ← c.place.ensures) at w)
