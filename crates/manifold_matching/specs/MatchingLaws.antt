-- What a turn and the end of each loop of src/matching.rt give. Assumes nothing.
use Rattle.std.specs.Prelude.{◌≡◌, refl, ℕ, ◌+◌, ◌*◌, ◌≤◌, ◌<◌, Bool, true, false, List, [], ◌∷◌, ◌++◌, map, Float, length, get_or}
use Rattle.std.proofs.Common.{sym, ap, subst, ◌∙◌, add_assoc, arith}
use Rattle.math.specs.Floats.{◌⊗◌}
use Rattle.rows.specs.ArrayLaws.{front, front_all, front_next, length_front, get_d_front}
use Rattle.rows.specs.EachLaws.{length_each}
use Rattle.rows.specs.Laws.{put_next, put_put}
use Rattle.rows.specs.Rows.{put, each}
use Rattle.rows.specs.Slots.{upto}
use Rattle.rules.specs.Matching.{FeatureRule, matches, with_impulses, matched_point, with_points, match_contacts, match_all}
use Rattle.rule_laws.specs.MatchingLaws.{NoneBefore, none_before_next, matched_found, matched_none}
use Rattle.rules.specs.Records.{Point, Manifold}
use Rattle.words.specs.Words.{word_at, float_at, float_word}
use Rattle.manifold_records.specs.LengthLaws.{length_point, length_manifold}
use Rattle.manifold_records.specs.ListLaws.{map_upto_next, map_upto_is, get_d_map_upto, length_map_upto}
use Rattle.manifold_records.specs.Recorded.{point_at, points_at, manifold_at}
use Rattle.manifold_records.specs.Written.{point_words, manifold_words}
use Rattle.contact_records.proofs.BackLaws.{point_held, manifold_held}
use Rattle.contact_records.specs.Fit.{FitManifold, FitManifolds}
use Rattle.contact_records.proofs.FitLaws.{manifold_fits}
use Rattle.contact_records.specs.HeldLaws.{Holds, put_holds, holds_each}
use Rattle.manifold_matching.specs.Matched.{impulse_words, manifolds_from, WrittenManifold, WrittenManifolds, OldManifolds, PointMatched, ManifoldMatched, AllMatched, ManifoldsMatched}
use Rattle.manifold_matching.specs.MatchedFitLaws.{each_upto, all_matched}
use Rattle.manifold_matching.specs.StoredOverLaws.{put_held, stored_over_each, impulses_stored, points_in, point_stored_lem}

-- ---- the impulses, word by word
pub impulses_taken : (xs : List ℕ) (at : ℕ) (olds : List ℕ) (from : ℕ) {n t u : Float} {a b c : List ℕ} → n ≡ float_at olds (from + 13) → a ≡ put xs (at + 13) (float_word n ∷ [])
    → t ≡ float_at olds (from + 14) → b ≡ put a (at + 14) (float_word t ∷ []) → u ≡ float_at olds (from + 15) → c ≡ put b (at + 15) (float_word u ∷ [])
    → c ≡ put xs (at + 13) (impulse_words (point_at olds from))
unfolding point_at
impulses_taken xs at olds from {n} {t} {u} e p f q g r =
    r ∙ ap (λ (ys : List ℕ). put ys (at + 15) (float_word u ∷ [])) (q ∙ ap (λ (ys : List ℕ). put ys (at + 14) (float_word t ∷ [])) p)
    ∙ ap (λ (k : ℕ). put (put (put xs (at + 13) (float_word n ∷ [])) k (float_word t ∷ [])) (at + 15) (float_word u ∷ [])) (sym (add_assoc at 13 1))
    ∙ ap (λ (ys : List ℕ). put ys (at + 15) (float_word u ∷ [])) (put_next xs (at + 13) (float_word n ∷ []) (float_word t ∷ []) 1 refl)
    ∙ ap (λ (k : ℕ). put (put xs (at + 13) (float_word n ∷ float_word t ∷ [])) k (float_word u ∷ [])) (sym (add_assoc at 13 2))
    ∙ put_next xs (at + 13) (float_word n ∷ float_word t ∷ []) (float_word u ∷ []) 2 refl
    ∙ (λ i. put xs (at + 13) (float_word (e i) ∷ float_word (f i) ∷ float_word (g i) ∷ []))

-- ---- the search through n old points
module _ (same : FeatureRule) (square : Float) (olds : List ℕ) (from n : ℕ) (xs : List ℕ) (at : ℕ) where
  -- none before k matches
  abbrev pub Unmatched : ℕ → Type 0
  Unmatched k = NoneBefore same square (points_at olds from n) (point_at xs at) k

  old_count : length (points_at olds from n) ≡ n
  unfolding points_at
  old_count = length_map_upto (λ (i : ℕ). point_at olds (from + i * 18)) n

  module _ (k : ℕ) (below : k < n) where
    old_is : (d : Point) → get_or (points_at olds from n) k d ≡ point_at olds (from + k * 18)
    unfolding points_at
    old_is d = get_d_map_upto (λ (i : ℕ). point_at olds (from + i * 18)) n k d below

    -- what the code has found, of the points that it has loaded
    found : {new old : Point} {m b : Bool} → new ≡ point_at xs at → old ≡ point_at olds (from + k * 18) → m ≡ matches same square new old → m ≡ b
        → matches same square (point_at xs at) (get_or (points_at olds from n) k (point_at xs at)) ≡ b
    found e f g h = sym (g ∙ (λ i. matches same square (e i) ((f ∙ sym (old_is (point_at xs at))) i))) ∙ h

    pub unmatched_next : {new old : Point} {m : Bool} → Unmatched k → new ≡ point_at xs at → old ≡ point_at olds (from + k * 18) → m ≡ matches same square new old → m ≡ false → Unmatched (k + 1)
    unmatched_next u e f g h = none_before_next same square (points_at olds from n) (point_at xs at) k u (found e f g h)

    pub matched_at : {new old : Point} {m : Bool} {ys zs : List ℕ} → Unmatched k → new ≡ point_at xs at → old ≡ point_at olds (from + k * 18) → m ≡ matches same square new old → m ≡ true
        → zs ≡ xs → ys ≡ put zs (at + 13) (impulse_words (point_at olds (from + k * 18))) → PointMatched same square (points_at olds from n) at xs ys
    matched_at u e f g h s q =
        let os = points_at olds from n in
        let old = point_at olds (from + k * 18) in
        let l : length os ≡ n = old_count in
        let t : matched_point same square os (point_at xs at) ≡ with_impulses (point_at xs at) old =
        matched_found same square os (point_at xs at) k u (found e f g h) (omega arith) ∙ ap (with_impulses (point_at xs at)) (old_is (point_at xs at)) in
        record {
          words = λ p fit held. let z = point_held p fit held in
              q ∙ ap (λ (ws : List ℕ). put ws (at + 13) (impulse_words old)) s ∙ impulses_stored xs at p old held
              ∙ ap (λ (r : Point). put xs at (point_words r)) (ap (λ (r : Point). with_impulses r old) (sym z) ∙ sym t ∙ ap (matched_point same square os) z);
        }

  pub unmatched_all : (k : ℕ) → k ≡ n → Unmatched k → PointMatched same square (points_at olds from n) at xs xs
  unmatched_all k e u =
      let os = points_at olds from n in
      let t : matched_point same square os (point_at xs at) ≡ point_at xs at = matched_none same square os (point_at xs at) (subst Unmatched (e ∙ sym old_count) u) in
      record {
        words = λ p fit held. let z = point_held p fit held in
            sym (put_held xs at (point_words p) held) ∙ ap (λ (r : Point). put xs at (point_words r)) (sym z ∙ sym t ∙ ap (matched_point same square os) z);
      }

-- ---- the manifold that stands at a place
pub count_read : (xs : List ℕ) (at : ℕ) → length (manifold_at xs at).points ≡ word_at xs at
unfolding manifold_at points_at
count_read xs at = length_map_upto (λ (k : ℕ). point_at xs (at + 9 + k * 18)) (word_at xs at)

module _ (xs : List ℕ) (at : ℕ) (w : WrittenManifold xs at) where
  read_is : manifold_at xs at ≡ w.manifold
  read_is = manifold_held w.manifold w.fits w.held

  pub read_held : Holds xs at (manifold_words (manifold_at xs at))
  read_held = subst (λ (m : Manifold). Holds xs at (manifold_words m)) (sym read_is) w.held

  pub read_fits : FitManifold (manifold_at xs at)
  read_fits = subst FitManifold (sym read_is) w.fits

  -- nothing is matched where a loop begins
  pub read_stored : xs ≡ put xs at (manifold_words (manifold_at xs at))
  read_stored = sym (put_held xs at (manifold_words (manifold_at xs at)) read_held)

  pub count_few : word_at xs at ≤ 4
  count_few = let n = count_read xs at in omega (arith, read_fits.points.few)

-- what was done to it was done to whatever manifold's words they are
by_any : (f : Manifold → Manifold) (xs : List ℕ) (at : ℕ) {ys : List ℕ} → ys ≡ put xs at (manifold_words (f (manifold_at xs at)))
    → (m : Manifold) → FitManifold m → Holds xs at (manifold_words m) → ys ≡ put xs at (manifold_words (f m))
by_any f xs at e m fit held = e ∙ ap (λ (r : Manifold). put xs at (manifold_words (f r))) (manifold_held m fit held)

-- a manifold's words are stored, and then another's
module _ (xs : List ℕ) (at : ℕ) (a : Manifold) {ys : List ℕ} (e : ys ≡ put xs at (manifold_words a)) where
  stored_held : at + 81 ≤ length xs → Holds ys at (manifold_words a)
  stored_held room = subst (λ (ws : List ℕ). Holds ws at (manifold_words a)) (sym e) (put_holds xs at (manifold_words a) (omega (arith, length_manifold a)))

  stored_again : (b : Manifold) {zs : List ℕ} → zs ≡ put ys at (manifold_words b) → zs ≡ put xs at (manifold_words b)
  stored_again b p =
      p ∙ ap (λ (ws : List ℕ). put ws at (manifold_words b)) e ∙ put_put xs at (manifold_words a) (manifold_words b) (length_manifold a ∙ sym (length_manifold b))

-- ---- a manifold's points, one after another
-- the first k are changed
abbrev pub matched_first : (Point → Point) → ℕ → Manifold → Manifold
matched_first f k m = with_points m (front f k m.points)

pub contacts_next : (same : FeatureRule) (square : Float) (olds : List Point) (xs : List ℕ) (at k : ℕ) (m : Manifold) {ys zs : List ℕ} → FitManifold m → k < length m.points → at + 81 ≤ length xs
    → ys ≡ put xs at (manifold_words (matched_first (matched_point same square olds) k m)) → PointMatched same square olds (at + 9 + k * 18) ys zs
    → zs ≡ put xs at (manifold_words (matched_first (matched_point same square olds) (k + 1) m))
contacts_next same square olds xs at k m {ys} fit l room e r =
    let f = matched_point same square olds in
    let d = point_at xs at in
    let p = get_or m.points k d in
    let a : Manifold = matched_first f k m in
    let n : length a.points ≡ length m.points = length_front f k m.points in
    let few : length a.points ≤ 4 = omega (arith, fit.points.few) in
    let h : Holds ys at (manifold_words a) = stored_held xs at a e room in
    let i : k < length a.points = omega arith in
    let held : Holds ys (at + 9 + k * 18) (point_words p) =
    subst (λ (q : Point). Holds ys (at + 9 + k * 18) (point_words q)) (get_d_front f k m.points d)
    (holds_each point_words 18 length_point (at + 9) a.points k d i (points_in ys at a few h)) in
    stored_again xs at a e (matched_first f (k + 1) m)
    (r.words p (fit.points.each k d l) held ∙ point_stored_lem ys at a k (f p) few i h
    ∙ ap (λ (ps : List Point). put ys at (manifold_words (with_points m ps))) (front_next f k m.points d l))

old_points_are : (olds : List ℕ) (from n : ℕ) → n ≡ word_at olds from → points_at olds (from + 9) n ≡ (manifold_at olds from).points
unfolding manifold_at
old_points_are olds from n e = ap (points_at olds (from + 9)) e

pub contacts_all : (same : FeatureRule) (threshold : Float) (olds : List ℕ) (from n : ℕ) (xs : List ℕ) (at count k : ℕ) {ys : List ℕ} → n ≡ word_at olds from → count ≡ word_at xs at → count ≤ k
    → ys ≡ put xs at (manifold_words (matched_first (matched_point same (threshold ⊗ threshold) (points_at olds (from + 9) n)) k (manifold_at xs at)))
    → ManifoldMatched same threshold (manifold_at olds from).points at xs ys
unfolding match_contacts
contacts_all same threshold olds from n xs at count k o c l e =
    let m = manifold_at xs at in
    let q = count_read xs at in
    let f : Point → Point = matched_point same (threshold ⊗ threshold) (points_at olds (from + 9) n) in
    record {
      words = by_any (match_contacts same threshold (manifold_at olds from).points) xs at
          (e ∙ ap (λ (ps : List Point). put xs at (manifold_words (with_points m ps))) (front_all f k m.points (omega arith))
          ∙ ap (λ (os : List Point). put xs at (manifold_words (match_contacts same threshold os m))) (old_points_are olds from n o));
    }

-- ---- the old manifolds in turn
match_last : (same : FeatureRule) (threshold : Float) (os : List Manifold) (o m : Manifold)
    → match_all same threshold (os ++ o ∷ []) m ≡ match_contacts same threshold o.points (match_all same threshold os m)
unfolding match_all
match_last same threshold [] o m = refl
match_last same threshold (u ∷ os) o m = match_last same threshold os o (match_contacts same threshold u.points m)

-- matched against the first j manifolds of a row
abbrev pub matched_by : FeatureRule → Float → List ℕ → ℕ → Manifold → Manifold
matched_by same threshold olds j m = match_all same threshold (manifolds_from olds j) m

matched_none_yet : (same : FeatureRule) (threshold : Float) (olds : List ℕ) (m : Manifold) → matched_by same threshold olds 0 m ≡ m
unfolding manifolds_from match_all upto
matched_none_yet same threshold olds m = refl

matched_next : (same : FeatureRule) (threshold : Float) (olds : List ℕ) (j : ℕ) (m : Manifold)
    → match_contacts same threshold (manifold_at olds (j * 81)).points (matched_by same threshold olds j m) ≡ matched_by same threshold olds (j + 1) m
unfolding manifolds_from
matched_next same threshold olds j m =
    sym (match_last same threshold (manifolds_from olds j) (manifold_at olds (j * 81)) m)
    ∙ ap (λ (os : List Manifold). match_all same threshold os m) (sym (map_upto_next (λ (k : ℕ). manifold_at olds (k * 81)) j))

matched_fits : (same : FeatureRule) (threshold : Float) (olds : List ℕ) (n j : ℕ) (m : Manifold) → OldManifolds olds n → j ≤ n → FitManifold m → FitManifold (matched_by same threshold olds j m)
unfolding manifolds_from
matched_fits same threshold olds n j m o l fit =
    all_matched same threshold (manifolds_from olds j) m
    (each_upto FitManifold (λ (k : ℕ). manifold_at olds (k * 81)) j (λ k b. manifold_fits olds (k * 81) (o.points k (omega arith)))) fit

pub all_begin : (same : FeatureRule) (threshold : Float) (olds xs : List ℕ) (at : ℕ) → WrittenManifold xs at → xs ≡ put xs at (manifold_words (matched_by same threshold olds 0 (manifold_at xs at)))
all_begin same threshold olds xs at w = read_stored xs at w ∙ ap (λ (m : Manifold). put xs at (manifold_words m)) (sym (matched_none_yet same threshold olds (manifold_at xs at)))

-- a turn, against old manifold j of n
module _ (same : FeatureRule) (threshold : Float) (olds : List ℕ) (n j : ℕ) (xs : List ℕ) (at : ℕ) {ys : List ℕ} (o : OldManifolds olds n) (l : j < n) (w : WrittenManifold xs at) (room : at + 81 ≤ length xs)
    (e : ys ≡ put xs at (manifold_words (matched_by same threshold olds j (manifold_at xs at)))) where
  all_fits : FitManifold (matched_by same threshold olds j (manifold_at xs at))
  all_fits = matched_fits same threshold olds n j (manifold_at xs at) o (omega arith) (read_fits xs at w)

  all_held : Holds ys at (manifold_words (matched_by same threshold olds j (manifold_at xs at)))
  all_held = stored_held xs at (matched_by same threshold olds j (manifold_at xs at)) e room

  pub all_written : WrittenManifold ys at
  all_written = record { manifold = matched_by same threshold olds j (manifold_at xs at); fits = all_fits; held = all_held }

  pub all_next : {zs : List ℕ} → ManifoldMatched same threshold (manifold_at olds (j * 81)).points at ys zs → zs ≡ put xs at (manifold_words (matched_by same threshold olds (j + 1) (manifold_at xs at)))
  all_next r =
      let m = manifold_at xs at in
      stored_again xs at (matched_by same threshold olds j m) e (matched_by same threshold olds (j + 1) m)
      (r.words (matched_by same threshold olds j m) all_fits all_held ∙ ap (λ (b : Manifold). put ys at (manifold_words b)) (matched_next same threshold olds j m))

pub all_end : (same : FeatureRule) (threshold : Float) (olds xs : List ℕ) (at n j : ℕ) {ys : List ℕ} → j ≡ n → ys ≡ put xs at (manifold_words (matched_by same threshold olds j (manifold_at xs at)))
    → AllMatched same threshold (manifolds_from olds n) at xs ys
all_end same threshold olds xs at n j {ys} z e =
    record { words = by_any (matched_by same threshold olds n) xs at (subst (λ (k : ℕ). ys ≡ put xs at (manifold_words (matched_by same threshold olds k (manifold_at xs at)))) z e) }

-- ---- the manifolds that stand one after another
-- n of them, from a place on
unfoldable pub manifolds_read : List ℕ → ℕ → ℕ → List Manifold
manifolds_read xs at n = map (λ k. manifold_at xs (at + k * 81)) (upto n)

count_all : (xs : List ℕ) (at n : ℕ) → length (manifolds_read xs at n) ≡ n
unfolding manifolds_read
count_all xs at n = length_map_upto (λ (k : ℕ). manifold_at xs (at + k * 81)) n

all_read : (xs : List ℕ) (at n : ℕ) (ms : List Manifold) → FitManifolds ms → length ms ≡ n → Holds xs at (each manifold_words ms) → manifolds_read xs at n ≡ ms
unfolding manifolds_read
all_read xs at n ms fit l h =
    ap (manifolds_read xs at) (sym l)
    ∙ map_upto_is (λ (k : ℕ). manifold_at xs (at + k * 81)) ms (λ k d b. manifold_held (get_or ms k d) (fit.each k d b) (holds_each manifold_words 81 length_manifold at ms k d b h))

-- none is matched where the loop begins
pub manifolds_begin : (xs : List ℕ) (at n : ℕ) → WrittenManifolds xs at n → xs ≡ put xs at (each manifold_words (manifolds_read xs at n))
manifolds_begin xs at n w =
    sym (put_held xs at (each manifold_words w.manifolds) w.held)
    ∙ ap (λ (ms : List Manifold). put xs at (each manifold_words ms)) (sym (all_read xs at n w.manifolds w.fits w.count w.held))

words_count : (ms : List Manifold) (n : ℕ) → length ms ≡ n → length (each manifold_words ms) ≡ n * 81
words_count ms n e = length_each manifold_words 81 length_manifold ms ∙ ap (λ (k : ℕ). k * 81) e

-- a turn, at manifold i of n: the first i are changed
module _ (f : Manifold → Manifold) (xs : List ℕ) (at n : ℕ) (ms : List Manifold) (i : ℕ) (d : Manifold) {ys : List ℕ} (count : length ms ≡ n) (l : i < n) (room : at + n * 81 ≤ length xs)
    (e : ys ≡ put xs at (each manifold_words (front f i ms))) where
  front_length : length (front f i ms) ≡ n
  front_length = length_front f i ms ∙ count

  front_held : Holds ys at (each manifold_words (front f i ms))
  front_held =
      let z = words_count (front f i ms) n front_length in
      subst (λ (ws : List ℕ). Holds ws at (each manifold_words (front f i ms))) (sym e) (put_holds xs at (each manifold_words (front f i ms)) (omega arith))

  -- manifold i is as it was
  one_held : Holds ys (at + i * 81) (manifold_words (get_or ms i d))
  one_held =
      subst (λ (m : Manifold). Holds ys (at + i * 81) (manifold_words m)) (get_d_front f i ms d)
      (holds_each manifold_words 81 length_manifold at (front f i ms) i d (omega (arith, front_length)) front_held)

  -- and is changed
  front_stored : {zs : List ℕ} → zs ≡ put ys (at + i * 81) (manifold_words (f (get_or ms i d))) → zs ≡ put xs at (each manifold_words (front f (i + 1) ms))
  front_stored p =
      let next = front f (i + 1) ms in
      let a = words_count (front f i ms) n front_length in
      let b = words_count next n (length_front f (i + 1) ms ∙ count) in
      p ∙ stored_over_each manifold_words 81 length_manifold ys at (front f i ms) i (f (get_or ms i d)) (omega (arith, front_length)) front_held
      ∙ ap (λ (us : List Manifold). put ys at (each manifold_words us)) (front_next f i ms d (omega arith))
      ∙ ap (λ (ws : List ℕ). put ws at (each manifold_words next)) e ∙ put_put xs at (each manifold_words (front f i ms)) (each manifold_words next) (a ∙ sym b)

module _ (same : FeatureRule) (threshold : Float) (olds : List Manifold) (xs : List ℕ) (at n i : ℕ) {ys : List ℕ} (w : WrittenManifolds xs at n) (l : i < n) (room : at + n * 81 ≤ length xs)
    (e : ys ≡ put xs at (each manifold_words (front (match_all same threshold olds) i (manifolds_read xs at n)))) where
  one_fits : FitManifold (get_or (manifolds_read xs at n) i (manifold_at xs at))
  one_fits =
      subst (λ (ms : List Manifold). FitManifold (get_or ms i (manifold_at xs at))) (sym (all_read xs at n w.manifolds w.fits w.count w.held))
      (w.fits.each i (manifold_at xs at) (omega (arith, w.count)))

  pub one_written : WrittenManifold ys (at + i * 81)
  one_written =
      record {
        manifold = get_or (manifolds_read xs at n) i (manifold_at xs at);
        fits = one_fits;
        held = one_held (match_all same threshold olds) xs at n (manifolds_read xs at n) i (manifold_at xs at) (count_all xs at n) l room e;
      }

  pub manifolds_next : {zs : List ℕ} → AllMatched same threshold olds (at + i * 81) ys zs
      → zs ≡ put xs at (each manifold_words (front (match_all same threshold olds) (i + 1) (manifolds_read xs at n)))
  manifolds_next r =
      let f = match_all same threshold olds in
      let ms = manifolds_read xs at n in
      let d = manifold_at xs at in
      front_stored f xs at n ms i d (count_all xs at n) l room e (r.words (get_or ms i d) one_fits (one_held f xs at n ms i d (count_all xs at n) l room e))

pub manifolds_end : (same : FeatureRule) (threshold : Float) (olds : List Manifold) (xs : List ℕ) (at n i : ℕ) {ys : List ℕ} → n ≤ i
    → ys ≡ put xs at (each manifold_words (front (match_all same threshold olds) i (manifolds_read xs at n))) → ManifoldsMatched same threshold olds at n xs ys
manifolds_end same threshold olds xs at n i l e =
    let f = match_all same threshold olds in
    record {
      words = λ ms fit count held.
          e ∙ ap (λ (us : List Manifold). put xs at (each manifold_words (front f i us))) (all_read xs at n ms fit count held)
          ∙ ap (λ (us : List Manifold). put xs at (each manifold_words us)) (front_all f i ms (omega arith));
    }
