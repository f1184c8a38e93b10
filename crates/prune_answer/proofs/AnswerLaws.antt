-- The answer to a listing is that of `prune` to the row of its points' words; the numbers in it are small. Assumes nothing.
use Rattle.std.specs.Prelude.{◌≡◌, ℕ, zero, suc, ◌+◌, ◌*◌, ◌≤◌, ◌<◌, Bool, true, false, cond, List, [], ◌∷◌, ◌++◌, ltb, length, get_or, take, replicate, Option, None, Some}
use Rattle.std.proofs.Math.Path.{refl, ap}
use Rattle.std.proofs.Common.{sym, ◌∙◌, le_of_suc-le-suc, not-suc-le-zero, zero-add, add-zero, arith, eq-eqb, ltb-false, length-append, take_all, get_or-append-add}
use Rattle.std.proofs.lemmas.List.{length-replicate}
use Rattle.std.proofs.Math.ListN.{get_or-append}
use Rattle.rows.specs.Rows.{put, each}
use Rattle.rows.specs.Laws.{length_put, get_d_put}
use Rattle.words.specs.Words.{vec3_at}
use Rattle.math.specs.declared.vec.Vec3.{Vec3}
use Rattle.rules.specs.Pruning as rules
use Rattle.rule_laws.specs.PruningLaws.{point1_below, point2_below, point3_below, point4_below, kept_same}
use Rattle.contact_types.specs.Prune.{prune_point_at, refused, keeps, prune_answer}
use Rattle.prune_listing.specs.Listing.{Listing}
use Rattle.prune_listing.specs.ShapeLaws.{Fours}
use Rattle.prune_listing.specs.Answers.{room}
use Rattle.layout.specs.Prune.{prune_points_length}
use Rattle.prune_answer.specs.Answer.{point_of, listing_answer, Below}
use Rattle.prune_answer.specs.WriteLaws.{below_append}

-- ---- a point in the row

abbrev same : List ℕ → List ℕ
same words = words

each_length : (ps : List (List ℕ)) → Fours ps → length (each same ps) ≡ 4 * length ps
each_length [] f = refl
each_length (p ∷ ps) f = let e = each_length ps f.1 in let a = length-append p (each same ps) in omega (arith, f.0)

point_word : (ps : List (List ℕ)) (k j : ℕ) → Fours ps → k < length ps → j < 4 → get_or (each same ps) (4 * k + j) 0 ≡ get_or (get_or ps k []) j 0
point_word [] k j f h l = absurd (not-suc-le-zero h)
point_word (p ∷ ps) zero j f h l =
    let e : 4 * 0 + j ≡ j = omega arith in
    ap (λ (i : ℕ). get_or (p ++ each same ps) i 0) e ∙ get_or-append p (each same ps) 0 j (omega (arith, f.0))
point_word (p ∷ ps) (suc k) j f h l =
    let e : 4 * suc k + j ≡ length p + (4 * k + j) = omega (arith, f.0) in
    ap (λ (i : ℕ). get_or (p ++ each same ps) i 0) e ∙ get_or-append-add p (each same ps) (4 * k + j) 0 ∙ point_word ps k j f.1 (le_of_suc-le-suc h) l

-- the row that the code lends: the words of the first points, as many as there is room for, then zeros
abbrev pub row_of : List (List ℕ) → List ℕ
row_of ps = put (replicate prune_points_length 0) 0 (each same (take room ps))

pub row_length : (ps : List (List ℕ)) → length (row_of ps) ≡ prune_points_length
row_length ps = length_put (replicate prune_points_length 0) 0 (each same (take room ps)) ∙ length-replicate {A = ℕ} prune_points_length 0

module _ (ps : List (List ℕ)) (f : Fours ps) (few : length ps ≤ room) where
  row_word : (k j : ℕ) → k < length ps → j < 4 → get_or (row_of ps) (4 * k + j) 0 ≡ get_or (get_or ps k []) j 0
  row_word k j h l =
      let n = each_length ps f in
      let z = length-replicate {A = ℕ} prune_points_length 0 in
      ap (λ (qs : List (List ℕ)). get_or (put (replicate prune_points_length 0) 0 (each same qs)) (4 * k + j) 0) (take_all room ps few)
      ∙ ap (λ (i : ℕ). get_or (put (replicate prune_points_length 0) 0 (each same ps)) i 0) (sym (zero-add (4 * k + j)))
      ∙ get_d_put (replicate prune_points_length 0) 0 (each same ps) (4 * k + j) 0 (omega arith) (omega arith) ∙ point_word ps k j f h l

  row_point : (k : ℕ) → k < length ps → prune_point_at (row_of ps) k ≡ point_of (get_or ps k [])
  row_point k h =
      let a : get_or (row_of ps) (4 * k) 0 ≡ get_or (get_or ps k []) 0 0 = ap (λ (i : ℕ). get_or (row_of ps) i 0) (sym (add-zero (4 * k))) ∙ row_word k 0 h (omega arith) in
      let b = row_word k 1 h (omega arith) in
      let c = row_word k 2 h (omega arith) in
      let d = row_word k 3 h (omega arith) in
      rw (a, b, c, d)

  kept_row : (normal : Vec3) → rules.kept normal (length ps) (prune_point_at (row_of ps)) ≡ rules.kept normal (length ps) (λ k. point_of (get_or ps k []))
  unfolding rules.kept
  kept_row normal =
      kept_same normal (length ps) (λ k. rules.projected normal (prune_point_at (row_of ps) k)) (λ k. rules.projected normal (point_of (get_or ps k [])))
      (λ k h. ap (rules.projected normal) (row_point k h))

pub row_answer : (l : Listing) → Fours l.points → prune_answer (vec3_at l.normal 0) (row_of l.points) (length l.points) ≡ listing_answer (Some l)
unfolding prune_answer listing_answer
row_answer l f =
    rw (eq-eqb (length (row_of l.points)) prune_points_length (row_length l.points))
    (ap (cond (ltb (length l.points) 5) (refused 8)) (many (ltb room (length l.points)) refl))
  where
    many : (t : Bool) → ltb room (length l.points) ≡ t
        → cond t (refused 6) (keeps (rules.kept (vec3_at l.normal 0) (length l.points) (prune_point_at (row_of l.points))))
        ≡ cond t (refused 6) (keeps (rules.kept (vec3_at l.normal 0) (length l.points) (λ k. point_of (get_or l.points k []))))
    many true e = refl
    many false e = ap keeps (kept_row l.points f (ltb-false room (length l.points) e) (vec3_at l.normal 0))

-- ---- numbers of points that stay

module _ (normal : Vec3) (count : ℕ) (p : ℕ → rules.Projected) where
  listed_below : (o : Option ℕ) → ((k : ℕ) → o ≡ Some k → k < count) → Below count (rules.listed o)
  listed_below None h = tt
  listed_below (Some k) h = (h k refl, tt)

  beside_below : (i : ℕ) (o : Option ℕ) → i < count → ((j : ℕ) → o ≡ Some j → j < count) → Below count (rules.kept_beside normal count p i o)
  unfolding rules.kept_beside
  beside_below i None h b = (h, tt)
  beside_below i (Some j) h b = (
    h,
    below_append count (rules.listed (rules.point3 normal count p i j)) (j ∷ rules.listed (rules.point4 normal count p i j))
        (listed_below (rules.point3 normal count p i j) (point3_below count p normal i j))
        (b j refl, listed_below (rules.point4 normal count p i j) (point4_below count p normal i j)),
  )

  from_below : (o : Option ℕ) → ((i : ℕ) → o ≡ Some i → i < count) → Below count (rules.kept_from normal count p o)
  unfolding rules.kept_from
  from_below None b = tt
  from_below (Some i) b = beside_below i (rules.point2 count p i) (b i refl) (point2_below count p i)

pub kept_below : (normal : Vec3) (count : ℕ) (point : ℕ → rules.PrunePoint) → Below count (rules.kept normal count point)
unfolding rules.kept
kept_below normal count point =
    let p : ℕ → rules.Projected = λ k. rules.projected normal (point k) in
    from_below normal count p (rules.point1 count p) (point1_below count p)
