-- `contact_records::state::word_of_int` meets its contract. Assumes nothing.
use mathlib.Core.Path.{ap, ◌∙◌}
use mir.Syntax.{w32}
use mir.Val.{of_z}
use mir.ValLaws.{to_z-of_z}
use Rattle.contact_records.proofs.IntLaws.{unsigned_word}
use Rattle.contact_records.proofs.state.word_of_int.Goals as goal

pub returns : goal.returns
returns c = c.cast_unsigned.ensures ∙ ap (of_z w32) (to_z-of_z w32 _ c.ranges.i) ∙ unsigned_word c.args.i
