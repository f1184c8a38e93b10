-- `trace_printing::lines::write_change` meets its contract: kind by kind. Assumes nothing.
use Rattle.std.proofs.Common.{◌≡◌, sym, ◌∙◌, subst, ℕ, List, map}
use Rattle.step.specs.Read.{change_at}
use Rattle.text.specs.Text.{Written}
use Rattle.trace_rules.specs.Printed.{change_cells}
use Rattle.trace_printing.specs.Cells.{cell_of}
use Rattle.trace_printing.specs.LineLaws.{start_at, stop_at, count_at, change_printed}
use Rattle.trace_printing.proofs.lines.write_change.Goals as goal
use Rattle.trace_printing.proofs.lines.write_change.Goals.{in-StartedGeneratingConstraints, in-StoppedGeneratingConstraints, in-ManifoldCountChanged}

pub returns-clause-written : goal.returns-clause-written
returns-clause-written c =
    let a = c.args in
    let cells : map cell_of c.match-kind.cells ≡ change_cells (change_at a.changes.now a.at)
    = elim c.match-kind.branch [
      | in-StartedGeneratingConstraints w ↦
          let k = rw w.in-StartedGeneratingConstraints.is at c.change_kind-kind.ensures in
          rw (w.cells-is, w.in-StartedGeneratingConstraints.is, start_at a.changes.now a.at (sym c.load.ensures ∙ k), c.load-contact.ensures)
      | in-StoppedGeneratingConstraints w ↦
          let k = rw w.in-StoppedGeneratingConstraints.is at c.change_kind-kind.ensures in
          rw (w.cells-is, w.in-StoppedGeneratingConstraints.is, stop_at a.changes.now a.at (sym c.load.ensures ∙ k), c.load-contact.ensures, c.load-body1.ensures, c.load-body2.ensures)
      | in-ManifoldCountChanged w ↦
          let k = rw w.in-ManifoldCountChanged.is at c.change_kind-kind.ensures in
          rw (
            w.cells-is,
            w.in-ManifoldCountChanged.is,
            count_at a.changes.now a.at (λ e. k.0 (c.load.ensures ∙ e)) (λ e. k.1 (c.load.ensures ∙ e)),
            c.load-contact.ensures,
            c.load-body1.ensures,
            c.load-body2.ensures,
            w.signed_cell.ensures,
            c.load-count.ensures,
          )
    ] in
    subst (λ (ws : List ℕ). Written a.lines.now.row.now a.lines.now.at ws c.write_line.new.lines.row.now c.write_line.new.lines.at) (change_printed (change_at a.changes.now a.at) cells) c.write_line.ensures.written
