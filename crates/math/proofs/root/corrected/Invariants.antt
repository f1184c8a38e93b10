-- What the loops of `math::root::corrected` keep. The first loop keeps q at most 2 ^ 24; after it q can only be too small, which the second loop keeps.
-- The measure of each is how far q still is from the number looked for, so there are at most as many passes as the guess is off after its one step:
-- none where it was at most one off (`no_pass`), and never more than 2 ^ 24 (`passes_le`).
use Rattle.std.proofs.Common.{◌+◌, ◌-◌, ◌*◌, ◌^◌, ◌<◌, ◌≤◌}
use Rattle.math.proofs.CorrectedLaws.{nearest_whole}
use Rattle.math.proofs.root.corrected.Given as goal

abbrev pub invariant-loop-q : goal.invariant-loop-q
invariant-loop-q l = l.q ≤ 2 ^ 24

abbrev pub decreases-loop-q : goal.decreases-loop-q
decreases-loop-q l = l.q - nearest_whole l.m

abbrev pub invariant-loop-q-2 : goal.invariant-loop-q-2
invariant-loop-q-2 l = (l.q ≤ 2 ^ 24) × (l.q * l.q < l.m + l.q)

abbrev pub decreases-loop-q-2 : goal.decreases-loop-q-2
decreases-loop-q-2 l = nearest_whole l.m - l.q
