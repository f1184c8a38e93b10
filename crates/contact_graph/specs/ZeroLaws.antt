-- Rows of zeros. Assumes nothing.
use Rattle.std.specs.Prelude.{ℕ, ◌≡◌, refl, List, [], ◌∷◌, map, length}
use Rattle.std.proofs.Common.{ap}
use Rattle.manifold_records.specs.Written.{zeros}

pub zeros_map : (xs : List ℕ) → map (λ _. 0) xs ≡ zeros (length xs)
unfolding zeros
zeros_map [] = refl
zeros_map (x ∷ xs) = ap (λ (l : List ℕ). 0 ∷ l) (zeros_map xs)
