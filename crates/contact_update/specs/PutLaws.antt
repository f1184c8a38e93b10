-- Penetrations that are put one after another, and a turn of the loops that put them. Assumes nothing.
use Rattle.std.specs.Prelude.{◌≡◌, ℕ, zero, suc, ◌+◌, ◌*◌, ◌≤◌, ◌<◌, List, [], ◌∷◌, length, get_or, take}
use Rattle.std.proofs.Common.{sym, ap, ◌∙◌, le_of_suc-le-suc, not-suc-le-zero, add-one, arith}
use Rattle.rows.specs.Rows.{put}
use Rattle.rules.specs.Records.{Point, Manifold}
use Rattle.words.specs.Words.{word_at, float_word}
use Rattle.manifold_records.specs.ListLaws.{get_d_map_upto, length_map_upto}
use Rattle.manifold_records.specs.Recorded.{manifold_at, manifolds_at}
use Rattle.contact_records.specs.ApartLaws.{manifold_same}
use Rattle.layout.specs.Contact.{contact_manifolds}
use Rattle.layout.specs.Manifold.{manifold_points, manifold_size}
use Rattle.layout.specs.Point.{point_penetration, point_size}
use Rattle.contact_update.specs.After.{points_put, manifolds_put}
use Rattle.contact_update.specs.RecordLaws.{points_word}

-- ---- one more
pub points_next : (ps : List Point) (at : ℕ) (w : List ℕ) (k : ℕ) (d : Point) → k < length ps
    → points_put (take (suc k) ps) at w ≡ put (points_put (take k ps) at w) (at + k * point_size + point_penetration) (float_word (get_or ps k d).penetration ∷ [])
unfolding points_put
points_next [] at w k d l = absurd (not-suc-le-zero l)
points_next (p ∷ ps) at w zero d l = ap (λ (n : ℕ). put w n (float_word p.penetration ∷ [])) (let e : at + 9 ≡ at + 0 * 18 + 9 = omega arith in e)
points_next (p ∷ ps) at w (suc k) d l =
    let ys = put w (at + 9) (float_word p.penetration ∷ []) in
    points_next ps (at + 18) ys k d (le_of_suc-le-suc l)
    ∙ ap (λ (n : ℕ). put (points_put (take k ps) (at + 18) ys) n (float_word (get_or ps k d).penetration ∷ [])) (let e : at + 18 + k * 18 + 9 ≡ at + suc k * 18 + 9 = omega arith in e)

pub manifolds_next : (ms : List Manifold) (at : ℕ) (w : List ℕ) (k : ℕ) (d : Manifold) → k < length ms
    → manifolds_put (take (suc k) ms) at w ≡ points_put (get_or ms k d).points (at + k * manifold_size + manifold_points) (manifolds_put (take k ms) at w)
unfolding manifolds_put
manifolds_next [] at w k d l = absurd (not-suc-le-zero l)
manifolds_next (m ∷ ms) at w zero d l = ap (λ (n : ℕ). points_put m.points n w) (let e : at + 9 ≡ at + 0 * 81 + 9 = omega arith in e)
manifolds_next (m ∷ ms) at w (suc k) d l =
    let ys = points_put m.points (at + 9) w in
    manifolds_next ms (at + 81) ys k d (le_of_suc-le-suc l)
    ∙ ap (λ (n : ℕ). points_put (get_or ms k d).points n (manifolds_put (take k ms) (at + 81) ys)) (let e : at + 81 + k * 81 + 9 ≡ at + suc k * 81 + 9 = omega arith in e)

-- ---- a turn of each loop
pub points_step : (ps : List Point) (at : ℕ) (w : List ℕ) (k : ℕ) (d : Point) {g h : List ℕ} {v : ℕ} → g ≡ points_put (take k ps) at w
    → h ≡ put g (at + k * 18 + 9) (v ∷ []) → v ≡ float_word (get_or ps k d).penetration → k < length ps → h ≡ points_put (take (k + 1) ps) at w
points_step ps at w k d e p q l = p ∙ (λ i. put (e i) (at + k * 18 + 9) (q i ∷ [])) ∙ sym (points_next ps at w k d l) ∙ ap (λ (n : ℕ). points_put (take n ps) at w) (sym (add-one k))

pub manifolds_step : (ms : List Manifold) (at : ℕ) (w : List ℕ) (k : ℕ) (d : Manifold) {g h : List ℕ} {ps : List Point} → g ≡ manifolds_put (take k ms) at w
    → h ≡ points_put ps (at + k * 81 + 9) g → ps ≡ (get_or ms k d).points → k < length ms → h ≡ manifolds_put (take (k + 1) ms) at w
manifolds_step ms at w k d e p q l = p ∙ (λ i. points_put (q i) (at + k * 81 + 9) (e i)) ∙ sym (manifolds_next ms at w k d l) ∙ ap (λ (n : ℕ). manifolds_put (take n ms) at w) (sym (add-one k))

-- ---- what stands from a place on is as it was
pub record Left (w g : List ℕ) (n : ℕ) : Type 0 where
  pub after : (j : ℕ) → n ≤ j → word_at g j ≡ word_at w j

pub left_step : (w g : List ℕ) (n : ℕ) (ps : List Point) {h : List ℕ} → Left w g n → h ≡ points_put ps (n + 9) g → length ps ≤ 4 → Left w h (n + 81)
left_step w g n ps {h} f e l =
    record { after = λ j b. ap (λ (x : List ℕ). word_at x j) e ∙ points_word ps (n + 9) g j (λ k a z. omega arith) ∙ f.after j (omega arith) }

pub manifold_left : (w g : List ℕ) (n : ℕ) → Left w g n → word_at w n ≤ 4 → manifold_at g n ≡ manifold_at w n
manifold_left w g n f l = manifold_same l (record { each = λ j b. f.after (n + j) (omega arith) })

pub manifold_at_lem : (w : List ℕ) (k : ℕ) (d : Manifold) → k < word_at w contact_manifolds → get_or (manifolds_at w contact_manifolds) k d ≡ manifold_at w (contact_manifolds + 1 + k * manifold_size)
unfolding manifolds_at
manifold_at_lem w k d l = get_d_map_upto (λ j. manifold_at w (contact_manifolds + 1 + j * manifold_size)) (word_at w contact_manifolds) k d l

pub manifolds_length : (w : List ℕ) (at : ℕ) → length (manifolds_at w at) ≡ word_at w at
unfolding manifolds_at
manifolds_length w at = length_map_upto (λ j. manifold_at w (at + 1 + j * manifold_size)) (word_at w at)
