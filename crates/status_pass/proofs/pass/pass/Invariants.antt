-- What the loop of `status_pass::pass::pass` keeps.
use lib.ListN.{take}
use Rattle.status_pass.specs.Pass.{begun, pass_words, Left}
use Rattle.status_pass.proofs.pass.pass.Given as goal

abbrev pub invariant-loop-id : goal.invariant-loop-id
invariant-loop-id l = Left (pass_words (begun l.initial.graph) (take l.id-index l.ids)) l.initial.events l.initial.changes l.graph l.events l.changes l.counts
