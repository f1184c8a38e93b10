-- What `read_line` promises. Definitions only.
use Rattle.std.specs.Prelude.{◌≡◌, ℕ, ◌≤◌, ◌<◌, List, length, drop, None, Some, Option}
use Rattle.rows.specs.Rows.{put}
use Rattle.trace_rules.specs.Fields.{read_line}
use Rattle.trace_lines.specs.Items.{letter_of}
use Rattle.trace_lines.specs.declared.line.ReadLine.{ReadLine}

-- the line at a place: its words stand at the front of the row
pub record LineIs (xs : List ℕ) (at : ℕ) (before after : List ℕ) (l : ReadLine) : Type 0 where
  pub fields : List ℕ
  pub read : read_line (drop at xs) ≡ Some (record { value = record { letter = letter_of l.kind; words = fields; fits = l.fits }; rest = drop l.next xs })
  pub stored : after ≡ put before 0 fields
  pub past : at < l.next
  pub inside : l.next ≤ length xs

abbrev pub LineReadAt : List ℕ → ℕ → List ℕ → List ℕ → Option ReadLine → Type 0
LineReadAt xs at before after (Some l) = LineIs xs at before after l
LineReadAt xs at before after None = read_line (drop at xs) ≡ None
