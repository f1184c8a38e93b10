-- `trace_printing::lines::write_events` meets its contract. Assumes nothing.
use mathlib.Core.Path.{◌≡◌, refl}
use Prim.Native.Nat.{◌*◌}
use native.Mathlib.Omega.{arith}
use borrow.Author.Rules.{rules}
use Rattle.layout.specs.Event.{event_size}
use Rattle.step.specs.Read.{event_at}
use Rattle.trace_rules.specs.Printed.{event_text}
use Rattle.trace_printing.specs.Lines.{event_room}
use Rattle.trace_printing.specs.LineLaws.{length_event, no_lines, next_line}
use Rattle.trace_printing.proofs.lines.write_events.Goals as goal

pub loop-k-init : goal.loop-k-init
loop-k-init c = let a = c.args in (search rules, refl, no_lines event_text (λ n. event_at a.events.now (n * event_size)) event_room length_event a.lines.now.row.now a.lines.now.at)

pub write_event-requires : goal.write_event-requires
write_event-requires c =
    let p = c.requires in
    let w = c.loop-k.invariant.2 in
    (omega (arith, p.0), omega (arith, p.1, w.below))

pub loop-k-preserved : goal.loop-k-preserved
loop-k-preserved c =
    let a = c.args in
    let l = c.loop-k in
    (search rules, search rules, next_line event_text (λ n. event_at a.events.now (n * event_size)) event_room length_event a.lines.now.row.now a.lines.now.at l.k l.lines.row.now _ l.lines.at _ l.invariant.2 c.write_event.ensures.written)

pub returns-clause-written : goal.returns-clause-written
returns-clause-written c =
    let l = c.loop-k in
    let e : l.k ≡ c.args.count = search rules in
    rw (← e) l.invariant.2.lines
