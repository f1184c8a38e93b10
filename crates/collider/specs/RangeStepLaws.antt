-- What is asked of a record whose presence mark is set. Assumes nothing.
use Rattle.std.specs.Prelude.{◌≡◌, ℕ, List}
use Rattle.std.proofs.Math.Path.{refl}
use Rattle.words.specs.Words.{word_at, where_set}
use Rattle.collider.specs.Range.{collider_values_fit, collider_fits, body_values_fit, body_fits}

module _ (xs : List ℕ) (at : ℕ) where
  pub collider_fits_whole : where_set (word_at xs at) (collider_values_fit xs at) ≡ collider_fits xs at
  unfolding collider_fits
  collider_fits_whole = refl

  pub body_fits_whole : where_set (word_at xs at) (body_values_fit xs at) ≡ body_fits xs at
  unfolding body_fits
  body_fits_whole = refl
