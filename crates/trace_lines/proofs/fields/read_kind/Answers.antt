-- `trace_lines::fields::read_kind` meets its contract. Assumes nothing.
use Rattle.std.proofs.Common.{ap}
use Rattle.trace_lines.specs.Items.{kind_of}
use Rattle.trace_lines.specs.FieldLaws.{float_read}
use Rattle.trace_lines.proofs.fields.read_kind.Goals as goal

pub returns-in-Float : goal.returns-in-Float
returns-in-Float c = float_read _ _ _ _ c.in_ok-start.ensures _ (ap kind_of c.in-Float.is) c.in_ok-value.ensures
