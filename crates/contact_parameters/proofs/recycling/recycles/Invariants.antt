-- What the loop of `contact_parameters::recycling::recycles` keeps, and how far there is still to go.
use mathlib.Core.Path.{◌≡◌}
use Rattle.contact_parameters.proofs.recycling.recycles.Given as goal

-- the loop has no way round
abbrev pub invariant-recycle : goal.invariant-recycle
invariant-recycle l = l.cache ≡ l.initial.cache

abbrev pub decreases-recycle : goal.decreases-recycle
decreases-recycle l = 0
