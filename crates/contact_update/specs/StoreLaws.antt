-- The words that a full update stores, one part after another. Assumes nothing.
use Rattle.std.specs.Prelude.{◌≡◌, ℕ}
use Rattle.std.proofs.Math.Path.{refl, ap}
use Rattle.std.proofs.Common.{◌∙◌}
use mathlib.Core.List.{List, [], ◌∷◌, ◌++◌}
use Rattle.rows.specs.Laws.{put_next}
use Rattle.rows.specs.Rows.{put}
use Rattle.rules.specs.Records.{PairFlags}
use Rattle.contact_records.specs.Written.{flags_words}

module _ (w : List ℕ) (f : PairFlags) (change : ℕ) where
  pub marks_stored : {a b c : List ℕ} → a ≡ put w 9 (flags_words f) → b ≡ put a 18 (change ∷ []) → c ≡ put b 19 (0 ∷ []) → c ≡ put w 9 (flags_words f ++ change ∷ 0 ∷ [])
  unfolding flags_words
  marks_stored {a} {b} p q r =
      let fs = flags_words f in
      let q2 : b ≡ put w 9 (fs ++ change ∷ []) = q ∙ ap (λ (x : List ℕ). put x 18 (change ∷ [])) p ∙ put_next w 9 fs (change ∷ []) 9 refl in
      r ∙ ap (λ (x : List ℕ). put x 19 (0 ∷ [])) q2 ∙ put_next w 9 (fs ++ change ∷ []) (0 ∷ []) 10 refl

  pub renewal_stored : (cache : List ℕ) {a b : List ℕ} → a ≡ put w 9 (flags_words f ++ change ∷ 0 ∷ []) → b ≡ put a 20 cache → b ≡ put w 9 (flags_words f ++ change ∷ 0 ∷ cache)
  unfolding flags_words
  renewal_stored cache p q = q ∙ ap (λ (x : List ℕ). put x 20 cache) p ∙ put_next w 9 (flags_words f ++ change ∷ 0 ∷ []) cache 11 refl
