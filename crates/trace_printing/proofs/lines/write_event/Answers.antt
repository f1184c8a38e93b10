-- `trace_printing::lines::write_event` meets its contract. Assumes nothing.
use Rattle.std.proofs.Common.{rules, ◌∙◌, ap, subst, ℕ, List, cond, eqb}
use Rattle.layout.specs.Event.{event_body1, event_body2}
use Rattle.text.specs.Text.{Written}
use Rattle.trace_rules.specs.Printed.{optional_cell}
use Rattle.trace_printing.specs.LineLaws.{body_read, event_printed}
use Rattle.trace_printing.proofs.lines.write_event.Goals as goal

pub returns-clause-written : goal.returns-clause-written
returns-clause-written c =
    let a = c.args in
    subst (λ (ws : List ℕ). Written a.lines.now.row.now a.lines.now.at ws c.write_line.new.lines.row.now c.write_line.new.lines.at)
    (event_printed a.events.now a.at c.event_kind-kind.result (search rules) (c.event_kind-kind.ensures ∙ ap (λ (w : ℕ). cond (eqb w 0) 0 1) c.load.ensures) c.load-contact.ensures c.load-collider1.ensures c.load-collider2.ensures
    (c.optional_cell.ensures ∙ ap optional_cell (c.load-body1.ensures ∙ body_read a.events.now a.at event_body1))
    (c.optional_cell-2.ensures ∙ ap optional_cell (c.load-body2.ensures ∙ body_read a.events.now a.at event_body2)))
    c.write_line.ensures.written
