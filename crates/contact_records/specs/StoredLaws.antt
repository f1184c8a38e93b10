-- The stores of a pair's state one after another, put together. Assumes nothing.
use Rattle.std.specs.Prelude.{◌≡◌, refl, ℕ, ◌+◌, List, [], ◌∷◌, ◌++◌, length}
use Rattle.std.proofs.Common.{sym, ap, ◌∙◌, add_assoc, arith}
use Rattle.rows.specs.Rows.{put}
use Rattle.rows.specs.Laws.{put_next}
use Rattle.rules.specs.Records.{Pair}
use Rattle.words.specs.Words.{float_word}
use Rattle.manifold_records.specs.Written.{manifolds_words}
use Rattle.contact_records.specs.LengthLaws.{length_cache}
use Rattle.contact_records.specs.Written.{int_word, cache_words, flags_words, state_words}

-- the next words, at a place that is n further
next_stored : (xs : List ℕ) (at n m : ℕ) (vs ws : List ℕ) {a b : List ℕ} → length vs ≡ n → at + n ≡ m → a ≡ put xs at vs → b ≡ put a m ws → b ≡ put xs at (vs ++ ws)
next_stored xs at n m vs ws l e p q =
    q ∙ ap (λ (ys : List ℕ). put ys m ws) p ∙ ap (λ (k : ℕ). put (put xs at vs) k ws) (sym e) ∙ put_next xs at vs ws n l

-- the parts of a pair's state, one after another
pub state_stored : (xs : List ℕ) (at : ℕ) (p : Pair) {a b c d e : List ℕ}
    → a ≡ put xs (at + 9) (flags_words p.flags) → b ≡ put a (at + 18) (int_word p.count_change ∷ []) → c ≡ put b (at + 19) (float_word p.speculative ∷ [])
    → d ≡ put c (at + 20) (cache_words p.cache) → e ≡ put d (at + 36) (manifolds_words p.manifolds) → e ≡ put xs (at + 9) (state_words p)
unfolding state_words flags_words
state_stored xs at p q r s t u =
    let fs = flags_words p.flags in
    let f2 = fs ++ int_word p.count_change ∷ [] in
    let f3 = f2 ++ float_word p.speculative ∷ [] in
    let f4 = f3 ++ cache_words p.cache in
    let n4 : length f4 ≡ 27 = omega (arith, length_cache p.cache) in
    let e2 = next_stored xs (at + 9) 9 (at + 18) fs (int_word p.count_change ∷ []) refl (add_assoc at 9 9) q r in
    let e3 = next_stored xs (at + 9) 10 (at + 19) f2 (float_word p.speculative ∷ []) refl (add_assoc at 9 10) e2 s in
    let e4 = next_stored xs (at + 9) 11 (at + 20) f3 (cache_words p.cache) refl (add_assoc at 9 11) e3 t in
    next_stored xs (at + 9) 27 (at + 36) f4 (manifolds_words p.manifolds) n4 (add_assoc at 9 27) e4 u
