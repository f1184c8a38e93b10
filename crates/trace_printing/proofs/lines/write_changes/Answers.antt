-- `trace_printing::lines::write_changes` meets its contract. Assumes nothing.
use mathlib.Core.Path.{◌≡◌, refl}
use Prim.Native.Nat.{◌*◌}
use native.Mathlib.Omega.{arith}
use borrow.Author.Rules.{rules}
use Rattle.layout.specs.Change.{change_size}
use Rattle.step.specs.Read.{change_at}
use Rattle.trace_rules.specs.Printed.{change_text}
use Rattle.trace_printing.specs.Lines.{change_room}
use Rattle.trace_printing.specs.LineLaws.{length_change, no_lines, next_line}
use Rattle.trace_printing.proofs.lines.write_changes.Goals as goal

pub loop-k-init : goal.loop-k-init
loop-k-init c = let a = c.args in (search rules, refl, no_lines change_text (λ n. change_at a.changes.now (n * change_size)) change_room length_change a.lines.now.row.now a.lines.now.at)

pub write_change-requires : goal.write_change-requires
write_change-requires c =
    let p = c.requires in
    let w = c.loop-k.invariant.2 in
    (omega (arith, p.0), omega (arith, p.1, w.below))

pub loop-k-preserved : goal.loop-k-preserved
loop-k-preserved c =
    let a = c.args in
    let l = c.loop-k in
    (search rules, search rules, next_line change_text (λ n. change_at a.changes.now (n * change_size)) change_room length_change a.lines.now.row.now a.lines.now.at l.k l.lines.row.now _ l.lines.at _ l.invariant.2 c.write_change.ensures.written)

pub returns-clause-written : goal.returns-clause-written
returns-clause-written c =
    let l = c.loop-k in
    let e : l.k ≡ c.args.count = search rules in
    rw (← e) l.invariant.2.lines
