-- The manifolds of a record, recycled one after another: a turn of the loop, and its end. Assumes nothing.
use Rattle.std.specs.Prelude.{◌≡◌, refl, ℕ, ◌+◌, ◌*◌, ◌≤◌, ◌<◌, Bool, List, [], ◌∷◌, map, length, get_or, take}
use Rattle.std.proofs.Common.{sym, ap, ◌∙◌, arith, take_all}
use Rattle.std.proofs.lemmas.List.{length-map}
use Rattle.std.proofs.Math.ListN.{get_or-map}
use Rattle.math.specs.declared.vec.Vec3.{Vec3}
use Rattle.rows.specs.Rows.{put}
use Rattle.rules.specs.Records.{Manifold, Cache}
use Rattle.rules.specs.Recycling.{recycled_manifold}
use Rattle.rules.specs.Sides.{Side}
use Rattle.words.specs.Words.{word_at, vec3_at, mark_word}
use Rattle.manifold_records.specs.Counts.{Counted}
use Rattle.manifold_records.specs.Recorded.{points_at, manifold_at, manifolds_at}
use Rattle.layout.specs.Contact.{contact_manifolds}
use Rattle.contact_parameters.specs.Motions.{motion_of}
use Rattle.contact_parameters.specs.declared.recycling.Motion.{Motion}
use Rattle.contact_update.specs.After.{points_put, manifolds_put}
use Rattle.contact_update.specs.PointLaws.{after_length, manifold_recycled}
use Rattle.contact_update.specs.PutLaws.{manifolds_step, Left, left_step, manifold_left, manifold_at_lem, manifolds_length}
use Rattle.contact_update.specs.Updates.{point_after, manifold_after}

-- what a record's points and normal are, in its words
points_of_lem : (w : List ℕ) (at : ℕ) → (manifold_at w at).points ≡ points_at w (at + 9) (word_at w at)
unfolding manifold_at
points_of_lem w at = refl

normal_of_lem : (w : List ℕ) (at : ℕ) → (manifold_at w at).normal ≡ vec3_at w (at + 1)
unfolding manifold_at
normal_of_lem w at = refl

module _ (motion : Motion) (w g : List ℕ) (k : ℕ) (l : k < word_at w contact_manifolds) (c : Counted w contact_manifolds) (left : Left w g (37 + k * 81)) {n : ℕ} {normal : Vec3}
    (count : n ≡ word_at g (37 + k * 81)) (facing : normal ≡ vec3_at g (37 + k * 81 + 1)) {h : List ℕ}
    (stored : h ≡ points_put (map (point_after motion normal) (points_at g (37 + k * 81 + 9) n)) (37 + k * 81 + 9) g) where
  abbrev after : List Manifold
  after = map (manifold_after motion) (manifolds_at w contact_manifolds)

  pub left_turn : Left w h (37 + (k + 1) * 81)
  left_turn =
      let size = after_length motion normal g (37 + k * 81 + 9) n in
      let e = left.after (37 + k * 81) (omega arith) in
      let z = left_step w g (37 + k * 81) (map (point_after motion normal) (points_at g (37 + k * 81 + 9) n)) left stored (omega (arith, c.points k l)) in
      record { after = λ j b. z.after j (omega arith) }

  pub manifolds_turn : g ≡ manifolds_put (take k after) 37 w → h ≡ manifolds_put (take (k + 1) after) 37 w
  manifolds_turn e =
      let size : length after ≡ word_at w contact_manifolds = length-map (manifolds_at w contact_manifolds) (manifold_after motion) ∙ manifolds_length w contact_manifolds in
      let d = manifold_at g (37 + k * 81) in
      let there : get_or after k (manifold_after motion d) ≡ manifold_after motion d =
      get_or-map (manifold_after motion) (manifolds_at w contact_manifolds) k d
      ∙ ap (manifold_after motion) (manifold_at_lem w k d l ∙ sym (manifold_left w g (37 + k * 81) left (c.points k l))) in
      let ps : points_at g (37 + k * 81 + 9) n ≡ d.points = ap (points_at g (37 + k * 81 + 9)) count ∙ sym (points_of_lem g (37 + k * 81)) in
      let same : map (point_after motion normal) (points_at g (37 + k * 81 + 9) n) ≡ (get_or after k (manifold_after motion d)).points =
      (λ i. map (point_after motion ((facing ∙ sym (normal_of_lem g (37 + k * 81))) i)) (ps i)) ∙ sym (ap (λ (x : Manifold). x.points) there) in
      manifolds_step after 37 w k (manifold_after motion d) e stored same (omega arith)

pub manifolds_all : (motion : Motion) (w : List ℕ) (k : ℕ) {g : List ℕ} → g ≡ manifolds_put (take k (map (manifold_after motion) (manifolds_at w 36))) 37 w → word_at w 36 ≤ k
    → g ≡ manifolds_put (map (manifold_after motion) (manifolds_at w 36)) 37 w
manifolds_all motion w k e l =
    let ms = map (manifold_after motion) (manifolds_at w 36) in
    let size : length ms ≡ word_at w 36 = length-map (manifolds_at w 36) (manifold_after motion) ∙ manifolds_length w 36 in
    e ∙ ap (λ (x : List Manifold). manifolds_put x 37 w) (take_all k ms (omega arith))

-- and with the static marks and the speculative distance
pub recycled_stored : (w : List ℕ) (a b : Side) (k : Cache) (s t : Bool) {motion : Motion} {x y z : List ℕ} {u v : ℕ} → motion ≡ motion_of a b k
    → x ≡ manifolds_put (map (manifold_after motion) (manifolds_at w 36)) 37 w → u ≡ mark_word s → v ≡ mark_word t → y ≡ put x 15 (u ∷ v ∷ []) → z ≡ put y 19 (0 ∷ [])
    → z ≡ put (put (manifolds_put (map (recycled_manifold a b k) (manifolds_at w 36)) 37 w) 15 (mark_word s ∷ mark_word t ∷ [])) 19 (0 ∷ [])
recycled_stored w a b k s t m p q r f g =
    g ∙ ap (λ (y : List ℕ). put y 19 (0 ∷ [])) (f ∙ (λ i. put (p i) 15 (q i ∷ r i ∷ [])))
    ∙ ap (λ (h : Manifold → Manifold). put (put (manifolds_put (map h (manifolds_at w 36)) 37 w) 15 (mark_word s ∷ mark_word t ∷ [])) 19 (0 ∷ [])) (λ i x. (ap (λ (n : Motion). manifold_after n x) m ∙ manifold_recycled a b k x) i)
