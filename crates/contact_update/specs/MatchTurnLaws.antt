-- The new manifolds of a pair take the place of the old ones, matched: the stores put together, and a copy of the old ones read. Assumes nothing.
use Rattle.std.specs.Prelude.{◌≡◌, refl, ℕ, ◌+◌, ◌*◌, ◌-◌, ◌≤◌, ◌<◌, Bool, true, false, cond, not, ◌&&◌, leb, Float, length}
use Rattle.std.proofs.Common.{sym, subst, ◌∙◌, zero-add, arith, inr, le-leb}
use Rattle.std.proofs.Math.Path.{ap}
use mathlib.Core.List.{List, [], ◌∷◌, map}
use Rattle.std.proofs.lemmas.Bool.{lt-leb, not-true, not-false}
use Rattle.std.proofs.lemmas.List.{length-map}
use Rattle.math.specs.Constants.{tenth}
use Rattle.math.specs.Floats.{◌⊗◌}
use Rattle.rows.specs.EachLaws.{length_each}
use Rattle.rows.specs.Laws.{length_part, get_d_part, put_put, put_comm, put_next}
use Rattle.rows.specs.Rows.{part, put, each}
use Rattle.rows.specs.Slots.{upto}
use Rattle.rules.specs.Inputs.{Settings}
use Rattle.rules.specs.Matching.{FeatureRule, feature_rule, match_all}
use Rattle.rules.specs.Records.{Manifold}
use Rattle.rules.specs.Update.{matched}
use Rattle.words.specs.Words.{word_at}
use Rattle.manifold_records.specs.Counts.{Counted}
use Rattle.manifold_records.specs.LengthLaws.{length_manifold}
use Rattle.manifold_records.specs.ListLaws.{map_upto_same}
use Rattle.manifold_records.specs.Recorded.{manifold_at, manifolds_at}
use Rattle.manifold_records.specs.StoredLaws.{padded_stored}
use Rattle.manifold_records.specs.Written.{zeros, padded, manifold_words, manifolds_words}
use Rattle.contact_records.specs.ApartLaws.{row_in, manifold_same}
use Rattle.contact_records.specs.Fit.{FitManifolds}
use Rattle.contact_records.specs.HeldLaws.{Holds, put_holds, part_same, same_in}
use Rattle.layout.specs.Contact.{contact_manifolds, contact_size}
use Rattle.narrow_phase.specs.Views.{ManifoldsStored}
use Rattle.manifold_matching.specs.Matched.{manifolds_from, WrittenManifolds, OldManifolds, ManifoldsMatched}
use Rattle.contact_update.specs.Updates.{ManifoldsRenewed}

map_same : (f : Manifold → Manifold) → ((m : Manifold) → f m ≡ m) → (ms : List Manifold) → map f ms ≡ ms
map_same f e [] = refl
map_same f e (m ∷ ms) = λ i. e m i ∷ map_same f e ms i

-- ---- how many of the old manifolds there are to match against
module _ (on : Bool) (new old : ℕ) where
  pub count_off : not on ≡ true → 0 ≡ cond (on && leb new 4) old 0
  count_off e = let o = not-true on e in sym (rw o)

  pub count_many : not on ≡ false → 4 < new → 0 ≡ cond (on && leb new 4) old 0
  count_many e l = let o = not-false on e in let m = lt-leb new 4 l in sym (rw (o, m))

  pub count_few : not on ≡ false → new ≤ 4 → old ≡ cond (on && leb new 4) old 0
  count_few e l = let o = not-false on e in let m = le-leb new 4 l in sym (rw (o, m))

-- against none, or against all
matched_by_lem : (s : Settings) (xs : List ℕ) (old : ℕ) (news : List Manifold) {new m : ℕ} → length news ≡ new → m ≡ cond (s.match_contacts && leb new 4) old 0
    → map (match_all (feature_rule s.by_place) (tenth ⊗ s.length_unit) (manifolds_from xs m)) news ≡ matched s (manifolds_from xs old) news
unfolding matched match_all manifolds_from upto
matched_by_lem s xs old news l e =
    let same = feature_rule s.by_place in
    let t = tenth ⊗ s.length_unit in
    ap (λ (k : ℕ). map (match_all same t (manifolds_from xs k)) news) (e ∙ ap (λ (k : ℕ). cond (s.match_contacts && leb k 4) old 0) (sym l)) ∙ go same t (s.match_contacts && leb (length news) 4)
  where
    go : (same : FeatureRule) (t : Float) (b : Bool) → map (match_all same t (manifolds_from xs (cond b old 0))) news ≡ cond b (map (match_all same t (manifolds_from xs old)) news) news
    go same t true = refl
    go same t false = map_same _ (λ m. refl) news

-- fewer of them
pub old_fewer : (b : Bool) (xs : List ℕ) (old : ℕ) {m : ℕ} → m ≡ cond b old 0 → OldManifolds xs old → OldManifolds xs m
old_fewer b xs old e h = subst (OldManifolds xs) (sym e) (go b)
  where
    go : (b : Bool) → OldManifolds xs (cond b old 0)
    go true = h
    go false = record { manifolds = omega arith; long = omega arith; points = λ k l. absurd (omega arith) }

-- ---- the stores
news_held : (w : List ℕ) (at : ℕ) (news : List Manifold) {n : ℕ} {a : List ℕ} → a ≡ put w at (each manifold_words news) → length news ≡ n → at + n * 81 ≤ length w → Holds a at (each manifold_words news)
news_held w at news {n} e l h =
    let z : length (each manifold_words news) ≡ n * 81 = length_each manifold_words 81 length_manifold news ∙ ap (λ (k : ℕ). k * 81) l in
    subst (λ (g : List ℕ). Holds g at (each manifold_words news)) (sym e) (put_holds w at (each manifold_words news) (rw z h))

pub written : (w : List ℕ) (at : ℕ) (news : List Manifold) {n : ℕ} {a : List ℕ} → a ≡ put w at (each manifold_words news) → length news ≡ n → FitManifolds news → at + n * 81 ≤ length w
    → WrittenManifolds a at n
written w at news e l f h = record { manifolds = news; count = l; fits = f; held = news_held w at news e l h }

-- the new ones, the matched ones over them, their number, and zeros after them
renewed_stored : (w : List ℕ) (at : ℕ) (news ms : List Manifold) (n : ℕ) {a b c d : List ℕ} → a ≡ put w (at + 1) (each manifold_words news) → b ≡ put a (at + 1) (each manifold_words ms)
    → c ≡ put b at (n ∷ []) → d ≡ put c (at + 1 + n * 81) (zeros (486 - n * 81)) → length news ≡ n → length ms ≡ n → n ≤ 6
    → d ≡ put w at (manifolds_words ms)
unfolding manifolds_words
renewed_stored w at news ms n {a} {b} {c} {d} p q r s ln lm h =
    let us = each manifold_words news in
    let vs = each manifold_words ms in
    let zu : length us ≡ n * 81 = length_each manifold_words 81 length_manifold news ∙ ap (λ (k : ℕ). k * 81) ln in
    let zv : length vs ≡ n * 81 = length_each manifold_words 81 length_manifold ms ∙ ap (λ (k : ℕ). k * 81) lm in
    let e : b ≡ put w (at + 1) vs = q ∙ ap (λ (g : List ℕ). put g (at + 1) vs) p ∙ put_put w (at + 1) us vs (zu ∙ sym zv) in
    let f : c ≡ put (put w at (n ∷ [])) (at + 1) vs = r ∙ ap (λ (g : List ℕ). put g at (n ∷ [])) e ∙ put_comm w (at + 1) vs at (n ∷ []) (inr (omega arith)) in
    padded_stored 486 (put w at (n ∷ [])) (at + 1) vs (n * 81) f s zv (omega arith)
    ∙ put_next w at (n ∷ []) (padded 486 vs) 1 refl ∙ ap (λ (k : ℕ). put w at (k ∷ padded 486 vs)) (sym lm)

-- all of it
pub renewed_from : (s : Settings) (w xs : List ℕ) (old : ℕ) (news : List Manifold) {n m : ℕ} {a b c d : List ℕ} → length w ≡ contact_size → FitManifolds news
    → ManifoldsStored news (contact_manifolds + 1) w a n → m ≡ cond (s.match_contacts && leb n 4) old 0
    → ManifoldsMatched (feature_rule s.by_place) (tenth ⊗ s.length_unit) (manifolds_from xs m) (contact_manifolds + 1) n a b → c ≡ put b contact_manifolds (n ∷ [])
    → d ≡ put c (contact_manifolds + 1 + n * 81) (zeros (486 - n * 81)) → ManifoldsRenewed s (manifolds_from xs old) news w d n
renewed_from s w xs old news {n} {m} {a} {b} {c} {d} z f stored e matches p q =
    let ms = map (match_all (feature_rule s.by_place) (tenth ⊗ s.length_unit) (manifolds_from xs m)) news in
    let held = news_held w (contact_manifolds + 1) news stored.words stored.count (omega (arith, stored.few)) in
    record {
      words = renewed_stored w contact_manifolds news ms n stored.words (matches.words news f stored.count held) p q stored.count (length-map news _ ∙ stored.count) stored.few
          ∙ ap (λ (us : List Manifold). put w contact_manifolds (manifolds_words us)) (matched_by_lem s xs old news stored.count e);
      count = stored.count;
      few = stored.few;
    }

-- ---- a copy of the old ones' words
module _ (w : List ℕ) (at n size : ℕ) {xs : List ℕ} (copied : xs ≡ part w (at + 1) size) (counted : Counted w at) (count : n ≡ word_at w at) (room : n * 81 ≤ size) where
  -- each of the n stands in the copy
  inside : (k : ℕ) → k < n → k * 81 + 81 ≤ size
  inside k l = omega (arith, row_in n 81 n k l (omega arith), room)

  few : (k : ℕ) → k < n → word_at w (at + 1 + k * 81) ≤ 4
  few k l = counted.points k (omega (arith, l, count))

  pub olds_counted : at + 1 + size ≤ length w → OldManifolds xs n
  olds_counted h =
      record {
        manifolds = omega (arith, count, counted.manifolds);
        long = rw (copied, length_part w (at + 1) size h) room;
        points = λ k l. rw (copied, get_d_part w (at + 1) size (k * 81) 0 (omega (arith, inside k l))) (few k l);
      }

  olds_read : manifolds_from xs n ≡ manifolds_at w at
  unfolding manifolds_from manifolds_at
  olds_read =
      ap (λ (ys : List ℕ). map (λ (k : ℕ). manifold_at ys (k * 81)) (upto n)) copied
      ∙ map_upto_same _ _ n (λ k l. ap (manifold_at (part w (at + 1) size)) (sym (zero-add (k * 81))) ∙ manifold_same (few k l) (same_in (part_same w (at + 1) size) (k * 81) 81 (inside k l)))
      ∙ ap (λ (m : ℕ). map (λ (k : ℕ). manifold_at w (at + 1 + k * 81)) (upto m)) count

-- what was made from the copy
pub renewed_read : (w : List ℕ) (n size : ℕ) {s : Settings} {xs after : List ℕ} {news : List Manifold} {r : ℕ} → xs ≡ part w (contact_manifolds + 1) size → Counted w contact_manifolds
    → n ≡ word_at w contact_manifolds → n * 81 ≤ size → ManifoldsRenewed s (manifolds_from xs n) news w after r → ManifoldsRenewed s (manifolds_at w contact_manifolds) news w after r
renewed_read w n size {s} {xs} {after} {news} {r} e c l h m = subst (λ (os : List Manifold). ManifoldsRenewed s os news w after r) (olds_read w contact_manifolds n size e c l h) m
