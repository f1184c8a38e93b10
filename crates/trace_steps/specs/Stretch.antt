-- The lines of a stretch of text, one after another. Definitions only.
use Rattle.std.specs.Prelude.{◌≡◌, List, [], ◌∷◌, None, Some, Option}
use Rattle.trace_lines.specs.Items.{letter_of}
use Rattle.trace_lines.specs.declared.line_kind.LineKind.{LineKind}
use Rattle.trace_rules.specs.Fields.{Line}
use Rattle.trace_rules.specs.Places.{lines_between}
use Rattle.trace_steps.specs.Lines.{Held}
use Rattle.trace_steps.specs.declared.stretch.Lines.{Lines}
use Rattle.trace_steps.specs.declared.stretch.Stretch.{Stretch}

abbrev pub lines_of : Stretch → List Line
lines_of s = lines_between s.text.now s.start s.stop

-- the first of the lines that are left: its words stand at the front of the row
pub record LineTaken (l l' : Lines) (kind : LineKind) : Type 0 where
  pub line : Line
  pub letter : line.letter ≡ letter_of kind
  pub held : Held l'.words line
  pub left : lines_of l.left ≡ line ∷ lines_of l'.left

-- the promise of `next`
abbrev pub NextIs : Lines → Lines → Option LineKind → Type 0
NextIs l l' (Some kind) = LineTaken l l' kind
NextIs l l' None = lines_of l.left ≡ []
