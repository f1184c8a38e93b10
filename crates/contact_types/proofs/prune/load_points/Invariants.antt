-- What the loop of `contact_types::prune::load_points` keeps.
use Rattle.std.proofs.Common.{◌≡◌, length}
use Rattle.rules.specs.Limits.{proposed_points}
use Rattle.contact_types.specs.Prune.{LoadedPoints}
use Rattle.contact_types.proofs.prune.load_points.Given as goal

abbrev pub invariant-loop-k : goal.invariant-loop-k
invariant-loop-k l = (length l.loaded ≡ proposed_points) × LoadedPoints l.points l.loaded l.k
