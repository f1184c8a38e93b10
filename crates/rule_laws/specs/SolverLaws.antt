-- What a solver writes changes impulses of stored points, and nothing else. Assumes nothing.
use Rattle.std.specs.Prelude.{ℕ, zero, suc, ◌≤◌, ◌≡◌, refl, Bool, true, false, cond, List, [], ◌∷◌, map, eqb, Float, length}
use Rattle.std.proofs.Common.{ap, arith}
use Rattle.rules.specs.Matching.{with_points}
use Rattle.rules.specs.Records.{Point, Manifold, Pair}
use Rattle.rules.specs.Solver.{Impulse, normal_impulse, warm_start_normal_impulse, warm_start_tangent_impulse_x, warm_start_tangent_impulse_y, Write, point_written, changed_at, manifold_written, with_manifolds, pair_written}
use Rattle.rule_laws.specs.Stripped.{stripped_point, stripped_manifold, stripped}

-- ---- one element changed

-- what a change keeps of an element, it keeps of the list
pub changed_kept {ℓ κ} : {A : Type ℓ} {B : Type κ} (s : A → B) (f : A → A) → ((x : A) → s (f x) ≡ s x) → (n : ℕ) (xs : List A) → map s (changed_at n f xs) ≡ map s xs
unfolding changed_at
changed_kept s f k n [] = refl
changed_kept s f k zero (x ∷ xs) = λ j. k x j ∷ map s xs
changed_kept s f k (suc n) (x ∷ xs) = λ j. s x ∷ changed_kept s f k n xs j

-- a number past the end changes nothing
pub changed_past {ℓ} : {A : Type ℓ} (f : A → A) (n : ℕ) (xs : List A) → length xs ≤ n → changed_at n f xs ≡ xs
unfolding changed_at
changed_past f n [] l = refl
changed_past f zero (x ∷ xs) l = absurd (omega arith)
changed_past f (suc n) (x ∷ xs) l = λ j. x ∷ changed_past f n xs (omega arith) j

-- ---- all but the impulses stays

point_kept : (i : Impulse) (v : Float) (p : Point) → stripped_point (point_written i v p) ≡ stripped_point p
unfolding point_written
point_kept normal_impulse v p = refl
point_kept warm_start_normal_impulse v p = refl
point_kept warm_start_tangent_impulse_x v p = refl
point_kept warm_start_tangent_impulse_y v p = refl

manifold_kept : (w : Write) (m : Manifold) → stripped_manifold (manifold_written w m) ≡ stripped_manifold m
manifold_kept w m = ap (with_points m) (changed_kept stripped_point (point_written w.impulse w.value) (point_kept w.impulse w.value) w.point m.points)

pub written_kept : (w : Write) (p : Pair) → stripped (pair_written w p) ≡ stripped p
unfolding pair_written stripped
written_kept w p = go (eqb p.names.id w.contact)
  where
    go : (b : Bool) → stripped (cond b (with_manifolds p (changed_at w.manifold (manifold_written w) p.manifolds)) p) ≡ stripped p
    go true = ap (with_manifolds p) (changed_kept stripped_manifold (manifold_written w) (manifold_kept w) w.manifold p.manifolds)
    go false = refl
