-- Stores one after another, put together: a law for each function that stores so, and for each turn of a loop. Assumes nothing.
use Rattle.std.specs.Prelude.{◌≡◌, refl, ℕ, ◌+◌, ◌-◌, ◌≤◌, List, [], ◌∷◌, ◌++◌, map, length, set}
use Rattle.std.proofs.Common.{sym, ap, ◌∙◌, arith}
use Rattle.rows.specs.Rows.{put, each}
use Rattle.rows.specs.Laws.{put_next, put_next_one}
use Rattle.contact_types.specs.Views.{point_of}
use Rattle.contact_types.specs.declared.contact_point.ContactPoint.{ContactPoint}
use Rattle.manifold_records.specs.ListLaws.{length_zeros, zeros_next, padded_is}
use Rattle.manifold_records.specs.Written.{zeros, padded, point_words}

pub zeros_step : (xs : List ℕ) (at k : ℕ) {ys : List ℕ} → ys ≡ put xs at (zeros k) → set ys (at + k) 0 ≡ put xs at (zeros (k + 1))
zeros_step xs at k e = ap (λ (ws : List ℕ). set ws (at + k) 0) e ∙ put_next_one xs at (zeros k) 0 k (length_zeros k) ∙ ap (put xs at) (zeros_next k)

-- the words, and zeros after them
pub padded_stored : (n : ℕ) (xs : List ℕ) (at : ℕ) (ws : List ℕ) (m : ℕ) {ys zs : List ℕ} → ys ≡ put xs at ws → zs ≡ put ys (at + m) (zeros (n - m)) → length ws ≡ m → m ≤ n
    → zs ≡ put xs at (padded n ws)
padded_stored n xs at ws m p q e h =
    q ∙ ap (λ (ys : List ℕ). put ys (at + m) (zeros (n - m))) p ∙ put_next xs at ws (zeros (n - m)) m e
    ∙ ap (λ (k : ℕ). put xs at (ws ++ zeros (n - k))) (sym e) ∙ ap (put xs at) (sym (padded_is n ws (omega arith)))

pub each_map {ℓ ℓ'} : {A : Type ℓ} {B : Type ℓ'} (f : B → List ℕ) (h : A → B) (us : List A) → each (λ u. f (h u)) us ≡ each f (map h us)
each_map f h [] = refl
each_map f h (u ∷ us) = ap (λ (r : List ℕ). f (h u) ++ r) (each_map f h us)

pub point_size_lem : (p : ContactPoint) → length (point_words (point_of p)) ≡ 18
unfolding point_words
point_size_lem p = refl
