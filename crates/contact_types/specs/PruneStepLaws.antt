-- One turn of a search for the point that leads, and one more point projected. Assumes nothing.
use Rattle.std.specs.Prelude.{ℕ, ◌+◌, ◌≤◌, ◌<◌, ◌≡◌, refl, Bool, true, false, cond, ◌&&◌, List, Float, length, set, Some}
use Rattle.std.proofs.Common.{eq-or-lt_of_le, add-one, arith, sym, ap, ◌∙◌, inl, inr, get_or-set_same, get_or-set_other}
use Rattle.rules.specs.Numbers.{Better, leader, overtaken}
use Rattle.rules.specs.Pruning.{projected}
use Rattle.contact_types.specs.Pruned.{projected_of, point_by, projected_by, AllProjected, leading_of, passed}
use Rattle.contact_types.specs.declared.pruning.Lead.{Lead}
use Rattle.contact_types.specs.declared.pruning.Projected.{Projected}
use Rattle.contact_types.specs.declared.pruning.PrunePoint.{PrunePoint}
use Rattle.math.specs.declared.vec.Vec3.{Vec3}

-- ---- a turn of a search
chosen : (wins : Bool) (l : Lead) (v : Float) (k : ℕ) → leading_of (passed l wins v k) ≡ cond wins (record { value = v; who = Some k }) (leading_of l)
chosen true l v k = refl
chosen false l v k = refl

-- the code's lead stays the rule's
pub turn : (better : Better) (value : ℕ → Float) (among : ℕ → Bool) (start : Float) (k : ℕ) {l r : Lead} {wins takes_part : Bool} {v : Float}
    → leading_of l ≡ leader better value among start k → takes_part ≡ among k → v ≡ value k → wins ≡ (takes_part && better v l.value) → r ≡ passed l wins v k → leading_of r ≡ leader better value among start (k + 1)
unfolding leader
turn better value among start k {l} h t q p e = rw (add-one, e, p, t, q) (chosen (among k && better (value k) l.value) l (value k) k ∙ ap (overtaken better value among k) h)

-- ---- the points
-- one more point projected
pub projected_step : (normal : Vec3) (points : List PrunePoint) (ps : List Projected) (k : ℕ) {q : Projected}
    → k < length ps → AllProjected normal points ps k → projected_of q ≡ projected normal (point_by points k) → AllProjected normal points (set ps k q) (k + 1)
projected_step normal points ps k {q} h all e = record { each = go }
  where
    go : (j : ℕ) → j < k + 1 → projected_by (set ps k q) j ≡ projected normal (point_by points j)
    go j l =
        elim (eq-or-lt_of_le (let z : j ≤ k = omega arith in z)) [
          | inl z ↦ ap projected_of (rw z (get_or-set_same ps k q _ h)) ∙ e ∙ ap (λ (n : ℕ). projected normal (point_by points n)) (sym z)
          | inr z ↦ ap projected_of (get_or-set_other ps k j q _ (omega arith)) ∙ all.each j z
        ]
