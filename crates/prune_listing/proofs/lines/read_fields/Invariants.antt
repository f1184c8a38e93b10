-- What the loop of `prune_listing::lines::read_fields` keeps: k fields are read, and the first words are theirs.
use Rattle.prune_listing.specs.LineLaws.{FieldsTo}
use Rattle.prune_listing.proofs.lines.read_fields.Given as goal

abbrev pub invariant-loop-k : goal.invariant-loop-k
invariant-loop-k g l = FieldsTo g.row.N l.text l.at l.words l.k
