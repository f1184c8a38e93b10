-- The points of a manifold, recycled one after another where they stand: a turn of the loop. Assumes nothing.
use Rattle.std.specs.Prelude.{◌≡◌, ℕ, ◌+◌, ◌*◌, ◌≤◌, ◌<◌, List, [], ◌∷◌, map, Float, length, get_or, take}
use Rattle.std.proofs.Common.{sym, ap, ◌∙◌, arith, take_all, length-take-le}
use Rattle.std.proofs.lemmas.List.{length-map}
use Rattle.std.proofs.Math.ListN.{get_or-map}
use Rattle.math.specs.Floats.{◌⊖◌}
use Rattle.math.specs.Mat.{◌*m◌}
use Rattle.math.specs.Vec.{◌+v◌, ◌-v◌, dot}
use Rattle.math.specs.declared.vec.Vec3.{Vec3}
use Rattle.rows.specs.Rows.{put}
use Rattle.rules.specs.Matching.{with_points}
use Rattle.rules.specs.Records.{Point, Manifold, Cache}
use Rattle.rules.specs.Recycling.{recycled_manifold}
use Rattle.rules.specs.Sides.{Side}
use Rattle.words.specs.Words.{word_at, float_at, float_word, vec3_at}
use Rattle.contact_records.specs.ApartLaws.{point_same}
use Rattle.manifold_records.specs.ListLaws.{get_d_map_upto, length_map_upto}
use Rattle.manifold_records.specs.Recorded.{point_at, points_at}
use Rattle.contact_parameters.specs.Motions.{motion_of, penetration_after, recycled_by}
use Rattle.contact_parameters.specs.declared.recycling.Motion.{Motion}
use Rattle.contact_update.specs.After.{points_put}
use Rattle.contact_update.specs.PutLaws.{points_step}
use Rattle.contact_update.specs.RecordLaws.{points_word}
use Rattle.contact_update.specs.Updates.{point_after, manifold_after}

-- a point's penetration, of the words that it is made of
pub penetration_read : (motion : Motion) (normal : Vec3) (w : List ℕ) (at : ℕ) {a b r s d delta : Vec3} {base along : Float} → a ≡ vec3_at w at → r ≡ motion.turn1 *m a → b ≡ vec3_at w (at + 3) → s ≡ motion.turn2 *m b
    → d ≡ s -v r → delta ≡ motion.between +v d → base ≡ float_at w (at + 10) → along ≡ dot delta normal → base ⊖ along ≡ penetration_after motion normal (point_at w at)
unfolding penetration_after point_at
penetration_read motion normal w at ea er eb es ed e ebase ealong = rw (ealong, ebase, e, ed, es, eb, er, ea)

pub points_length : (w : List ℕ) (at n : ℕ) → length (points_at w at n) ≡ n
unfolding points_at
points_length w at n = length_map_upto _ n

point_at_lem : (w : List ℕ) (at n k : ℕ) (d : Point) → k < n → get_or (points_at w at n) k d ≡ point_at w (at + k * 18)
unfolding points_at
point_at_lem w at n k d l = get_d_map_upto (λ j. point_at w (at + j * 18)) n k d l

module _ (motion : Motion) (normal : Vec3) (w : List ℕ) (at n : ℕ) where
  abbrev after : List Point
  after = map (point_after motion normal) (points_at w at n)

  pub after_length : length after ≡ n
  after_length = length-map (points_at w at n) (point_after motion normal) ∙ points_length w at n

  -- point k stands past what was put for those before it
  point_left : (k : ℕ) {g : List ℕ} → g ≡ points_put (take k after) at w → k < n → point_at g (at + k * 18) ≡ point_at w (at + k * 18)
  point_left k e l =
      let size = after_length in
      let f : length (take k after) ≡ k = length-take-le k after (omega arith) in
      point_same (record { each = λ j b. ap (λ (x : List ℕ). word_at x (at + k * 18 + j)) e ∙ points_word (take k after) at w (at + k * 18 + j) (λ i a z. omega arith) })

  pub points_turn : (k : ℕ) {g h : List ℕ} {v : Float} → g ≡ points_put (take k after) at w → v ≡ penetration_after motion normal (point_at g (at + k * 18))
      → h ≡ put g (at + k * 18 + 9) (float_word v ∷ []) → k < n → h ≡ points_put (take (k + 1) after) at w
  points_turn k e q p l =
      let size = after_length in
      let here = point_at w (at + k * 18) in
      let there : get_or after k (point_after motion normal here) ≡ point_after motion normal here =
      get_or-map (point_after motion normal) (points_at w at n) k here ∙ ap (point_after motion normal) (point_at_lem w at n k here l) in
      points_step after at w k (point_after motion normal here) e p (ap float_word (q ∙ ap (penetration_after motion normal) (point_left k e l) ∙ sym (ap (λ (x : Point). x.penetration) there))) (omega arith)

  pub points_all : (k : ℕ) {g : List ℕ} → g ≡ points_put (take k after) at w → n ≤ k → g ≡ points_put after at w
  points_all k e l = let size = after_length in e ∙ ap (λ (ps : List Point). points_put ps at w) (take_all k after (omega arith))

-- rule 5, with what all points share computed once
pub manifold_recycled : (a b : Side) (k : Cache) (m : Manifold) → manifold_after (motion_of a b k) m ≡ recycled_manifold a b k m
unfolding recycled_manifold
manifold_recycled a b k m = ap (λ f. with_points m (map f m.points)) (λ i p. sym (recycled_by a b k m.normal p) i)
