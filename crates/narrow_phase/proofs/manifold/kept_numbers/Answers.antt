-- `narrow_phase::manifold::kept_numbers` meets its contract. Assumes nothing.
use native.Mathlib.Omega.{arith}
use Rattle.contact_types.specs.PruneLaws.{kept_numbers, kept_most}
use Rattle.narrow_phase.proofs.manifold.kept_numbers.Goals as goal

pub returns : goal.returns
returns c = record { few = λ h. absurd (omega (arith, c.if-view-le-STORED_POINTS.false)); many = λ h. kept_numbers _ _ _ c.prune_points.ensures; most = kept_most _ _ _ c.prune_points.ensures }
