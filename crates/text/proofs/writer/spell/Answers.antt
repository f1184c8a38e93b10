-- `text::writer::spell` meets its contract. Assumes nothing.
use Rattle.std.proofs.Common.{rules}
use Rattle.text.specs.SpelledLaws.{spell_first, spell_next, spell_last}
use Rattle.text.proofs.writer.spell.Goals as goal

pub loop-rest-init : goal.loop-rest-init
loop-rest-init c = spell_first _ _ (search rules) (search rules)

pub loop-rest-preserved : goal.loop-rest-preserved
loop-rest-preserved c = spell_next _ _ _ _ c.loop-rest.invariant c.loop-rest-test.true

pub returns : goal.returns
returns c = spell_last _ _ _ _ c.loop-rest.invariant c.loop-rest-test.false
