-- `trace_player::player::next_line` meets its contract. Assumes nothing.
use Rattle.std.proofs.Common.{sym, ap, ◌∙◌}
use denote.Enum.Bare.{same_true, same_false}
use Rattle.trace_lines.specs.Items.{letter_of}
use Rattle.trace_lines.specs.declared.line_kind.LineKind.TheVariants.{Go}
use Rattle.trace_lines.specs.contracts.line_kind.LineKind.{the_type}
use Rattle.trace_player.specs.AskedLaws.{asked_unread, asked_misplaced, asked_line, not_go, addition_tested, after_go, after_other}
use Rattle.trace_player.proofs.player.next_line.Goals as goal

pub returns-in_err-line : goal.returns-in_err-line
returns-in_err-line c = rw c.from_residual.ensures (asked_unread c.args.trace.now c.args.player c.in_err-line.ensures)

pub returns-in_err-next : goal.returns-in_err-next
returns-in_err-next c =
    rw c.from_residual-in_err-next.ensures (asked_misplaced c.args.trace.now c.args.player _ _ _ c.in_ok-line.ensures c.in_err-next.ensures.context)

pub returns-then-eq : goal.returns-then-eq
returns-then-eq c =
    asked_line c.args.trace.now c.args.player _ _ _ c.in_ok-line.ensures _ _ c.in_ok-next.ensures.context
    (after_go c.args.player _ _ _ (ap letter_of (same_true the_type tt c.in_ok-line.line.kind Go (sym c.eq.ensures ∙ c.if-eq.true))) ∙ sym c.at.ensures)

pub returns : goal.returns
returns c =
    let kind = c.in_ok-line.line.kind in
    asked_line c.args.trace.now c.args.player _ _ _ c.in_ok-line.ensures _ _ c.in_ok-next.ensures.context
    (rw (c.eq-2.ensures, addition_tested kind) (after_other c.args.player _ _ _ (not_go kind (same_false the_type _ _ (sym c.eq.ensures ∙ c.if-eq.false)))))
