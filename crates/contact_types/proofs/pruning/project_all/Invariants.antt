-- What the loop of `contact_types::pruning::project_all` keeps.
use Rattle.std.proofs.Common.{◌≡◌, length}
use Rattle.rules.specs.Limits.{proposed_points}
use Rattle.contact_types.specs.Pruned.{AllProjected}
use Rattle.contact_types.proofs.pruning.project_all.Given as goal

abbrev pub invariant-loop-k : goal.invariant-loop-k
invariant-loop-k l = (length l.ps ≡ proposed_points) × AllProjected l.normal l.points l.ps l.k
