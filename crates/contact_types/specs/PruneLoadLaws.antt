-- One more point loaded, and points that are loaded pruned. Assumes nothing.
use Rattle.std.specs.Prelude.{ℕ, ◌+◌, ◌*◌, ◌≤◌, ◌<◌, ◌≡◌, List, length, set}
use Rattle.std.proofs.Common.{eq-or-lt_of_le, arith, sym, ap, ◌∙◌, inl, inr, get_or-set_same, get_or-set_other}
use Rattle.math.specs.declared.vec.Vec3.{Vec3}
use Rattle.layout.specs.Prune.{prune_point_size}
use Rattle.rules.specs.Pruning as rules
use Rattle.rule_laws.specs.PruningLaws.{kept_same}
use Rattle.contact_types.specs.Pruned.{prune_point_of, point_by}
use Rattle.contact_types.specs.Prune.{recorded_prune_point, prune_point_at, LoadedPoints}
use Rattle.contact_types.specs.declared.pruning.PrunePoint.{PrunePoint}

pub loaded_step : (words : List ℕ) (points : List PrunePoint) (k : ℕ) {q : PrunePoint}
    → k < length points → LoadedPoints words points k → q ≡ recorded_prune_point words (prune_point_size * k) → LoadedPoints words (set points k q) (k + 1)
loaded_step words points k {q} h all e = record { each = go }
  where
    go : (j : ℕ) → j < k + 1 → point_by (set points k q) j ≡ prune_point_at words j
    go j l =
        elim (eq-or-lt_of_le (let z : j ≤ k = omega arith in z)) [
          | inl z ↦ ap prune_point_of (rw z (get_or-set_same points k q _ h) ∙ e) ∙ ap (prune_point_at words) (sym z)
          | inr z ↦ ap prune_point_of (get_or-set_other points k j q _ (omega arith)) ∙ all.each j z
        ]

pub kept_loaded : (normal : Vec3) (words : List ℕ) (points : List PrunePoint) (count : ℕ) → LoadedPoints words points count → rules.kept normal count (point_by points) ≡ rules.kept normal count (prune_point_at words)
unfolding rules.kept
kept_loaded normal words points count all =
    kept_same normal count (λ k. rules.projected normal (point_by points k)) (λ k. rules.projected normal (prune_point_at words k)) (λ k h. ap (rules.projected normal) (all.each k h))
