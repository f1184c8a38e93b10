-- What the loop of `contact_types::pruning::heaviest` keeps.
use Rattle.std.proofs.Common.{◌≡◌, ℕ, Bool}
use Rattle.std.specs.Prelude.{Float}
use Rattle.math.specs.Constants.{lowest}
use Rattle.math.specs.declared.vec.Vec3.{Vec3}
use Rattle.rules.specs.Numbers.{greater, leader}
use Rattle.contact_types.specs.Pruned.{projected_by, Computes, weighed, leading_of}
use Rattle.contact_types.proofs.pruning.heaviest.Given as goal

abbrev pub invariant-loop-k : goal.invariant-loop-k
invariant-loop-k g l =
    (s : Vec3 → Float) (a : ℕ → Bool) → Computes (goal.S-post g l.squared) s → Computes (goal.A-post g l.among) a → leading_of l.lead ≡ leader greater (weighed s (projected_by l.ps)) a lowest l.k
