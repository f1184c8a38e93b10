-- Laws of pruning: points 1 and 2 always exist, whatever the floats, only the points below the count are looked at, of equal points two are kept, and four at most of any. Assumes nothing.
use Prim.Native.Nat.{ℕ, zero, suc, ◌≤◌, ◌<◌}
use native.Mathlib.Omega.{arith}
use Rattle.std.specs.Prelude.{◌≡◌, true, not, [], ◌∷◌, ◌++◌, T, length, Option, None, Some}
use Rattle.std.proofs.Math.Path.{refl, ap}
use Rattle.std.proofs.Common.{sym, ◌∙◌, ne_eqb}
use Rattle.std.specs.Float.Ieee.{Float, lt}
use Rattle.std.specs.Float.Ieee.Positive.{above}
use Rattle.std.proofs.Math.ListN.{length-append}
use Rattle.math.specs.Constants.{zero_f, lowest}
use Rattle.math.specs.ChooseLaws.{maximum_tiny}
use Rattle.math.specs.Laws.{lt_itself, product_above_lowest}
use Rattle.math.specs.Vec.{◌-v◌, cross, squared_length, squared_distance}
use Rattle.math.specs.ZeroLaws.{void, vector_difference_void, dot_void, void_not_below, void_not_above}
use Rattle.math.specs.declared.vec.Vec3.{Vec3}
use Rattle.rules.specs.Numbers.{Leading, leader, greater, less}
use Rattle.rule_laws.specs.NumberLaws.{Found, leader_takes, leader_keeps, leader_stands, leader_below, leader_exists, leader_same}
use Rattle.rules.specs.Pruning.{PrunePoint, Projected, projected, weight, other_than, rest, point1, point2, point3, point4, side_value, listed, kept_beside, kept_from, kept}

-- the points below the count have weights above zero, as `projected` gives them
abbrev pub Deep : ℕ → (ℕ → Projected) → Type 0
Deep count p = (k : ℕ) → k < count → T (above (p k).depth)

pub projected_deep : (normal : Vec3) (p : PrunePoint) → T (above (projected normal p).depth)
unfolding projected
projected_deep normal p = maximum_tiny _

weight_above : (squared : Float) (p : Projected) → T (above p.depth) → lt lowest (weight squared p) ≡ true
unfolding weight
weight_above squared p h = product_above_lowest _ _ (maximum_tiny squared) h

-- a number other than i
other : ℕ → ℕ
other zero = 1
other (suc i) = 0

other_differs : (i : ℕ) → other_than i (other i) ≡ true
unfolding other
other_differs zero = refl
other_differs (suc i) = ap not (ne_eqb 0 (suc i) (λ e. omega arith))

other_below : (i count : ℕ) → 1 < count → other i < count
unfolding other
other_below zero count h = h
other_below (suc i) count h = omega arith

module _ (count : ℕ) (p : ℕ → Projected) where
  pub point1_exists : 0 < count → Deep count p → Found (point1 count p)
  unfolding point1
  point1_exists h d =
      leader_exists greater (λ k. weight (squared_length (p k).point) (p k)) (λ k. true) lowest count 0 h refl (λ i l. weight_above _ (p i) (d i l))

  pub point1_below : (i : ℕ) → point1 count p ≡ Some i → i < count
  unfolding point1
  point1_below i e = leader_below greater (λ k. weight (squared_length (p k).point) (p k)) (λ k. true) lowest count i e

  pub point2_exists : (i : ℕ) → 1 < count → Deep count p → Found (point2 count p i)
  unfolding point2
  point2_exists i h d =
      leader_exists greater (λ k. weight (squared_distance (p k).point (p i).point) (p k)) (other_than i) lowest count (other i) (other_below i count h) (other_differs i)
      (λ k l. weight_above _ (p k) (d k l))

  pub point2_below : (i j : ℕ) → point2 count p i ≡ Some j → j < count
  unfolding point2
  point2_below i j e = leader_below greater (λ k. weight (squared_distance (p k).point (p i).point) (p k)) (other_than i) lowest count j e

  pub point3_below : (normal : Vec3) (i j k : ℕ) → point3 normal count p i j ≡ Some k → k < count
  unfolding point3
  point3_below normal i j k e = leader_below less (side_value normal p i j) (rest i j) zero_f count k e

  pub point4_below : (normal : Vec3) (i j k : ℕ) → point4 normal count p i j ≡ Some k → k < count
  unfolding point4
  point4_below normal i j k e = leader_below greater (side_value normal p i j) (rest i j) zero_f count k e

-- ---- points that agree below the count are pruned alike
module _ (normal : Vec3) (count : ℕ) (p q : ℕ → Projected) (same : (k : ℕ) → k < count → p k ≡ q k) where
  point1_same : point1 count p ≡ point1 count q
  unfolding point1
  point1_same =
      ap (λ l. l.who)
      (leader_same greater (λ k. weight (squared_length (p k).point) (p k)) (λ k. weight (squared_length (q k).point) (q k)) (λ k. true) (λ k. true) lowest count
      (λ k h. ap (λ (x : Projected). weight (squared_length x.point) x) (same k h)) (λ k h. refl))

  point2_same : (i : ℕ) → i < count → point2 count p i ≡ point2 count q i
  unfolding point2
  point2_same i b =
      ap (λ l. l.who)
      (leader_same greater (λ k. weight (squared_distance (p k).point (p i).point) (p k)) (λ k. weight (squared_distance (q k).point (q i).point) (q k)) (other_than i) (other_than i) lowest count
      (λ k h. ap (λ (x : Projected). weight (squared_distance x.point (p i).point) x) (same k h) ∙ ap (λ (x : Projected). weight (squared_distance (q k).point x.point) (q k)) (same i b)) (λ k h. refl))

  side_same : (i j k : ℕ) → i < count → j < count → k < count → side_value normal p i j k ≡ side_value normal q i j k
  unfolding side_value
  side_same i j k a b c = rw (same i a, same j b, same k c)

  point3_same : (i j : ℕ) → i < count → j < count → point3 normal count p i j ≡ point3 normal count q i j
  unfolding point3
  point3_same i j a b =
      ap (λ l. l.who)
      (leader_same less (side_value normal p i j) (side_value normal q i j) (rest i j) (rest i j) zero_f count
      (λ k h. side_same i j k a b h) (λ k h. refl))

  point4_same : (i j : ℕ) → i < count → j < count → point4 normal count p i j ≡ point4 normal count q i j
  unfolding point4
  point4_same i j a b =
      ap (λ l. l.who)
      (leader_same greater (side_value normal p i j) (side_value normal q i j) (rest i j) (rest i j) zero_f count
      (λ k h. side_same i j k a b h) (λ k h. refl))

  beside_same : (i : ℕ) → i < count → (o : Option ℕ) → point2 count q i ≡ o → kept_beside normal count p i o ≡ kept_beside normal count q i o
  unfolding kept_beside
  beside_same i a None e = refl
  beside_same i a (Some j) e = let b = point2_below count q i j e in rw (point3_same i j a b, point4_same i j a b)

  from_same : (o : Option ℕ) → point1 count q ≡ o → kept_from normal count p o ≡ kept_from normal count q o
  unfolding kept_from
  from_same None e = refl
  from_same (Some i) e =
      let a = point1_below count q i e in
      ap (kept_beside normal count p i) (point2_same i a) ∙ beside_same i a (point2 count q i) refl

  pub kept_same : kept_from normal count p (point1 count p) ≡ kept_from normal count q (point1 count q)
  kept_same = ap (kept_from normal count p) point1_same ∙ from_same (point1 count q) refl

-- ---- equal points, all of them q: the first has the greatest weight, the second is the earliest other, and none is on a side
module _ (normal : Vec3) (q : Projected) (deep : T (above q.depth)) (n : ℕ) (two : 1 < n) where
  abbrev all : ℕ → Projected
  all k = q

  point1_equal : point1 n all ≡ Some 0
  unfolding point1 leader
  point1_equal =
      let value : ℕ → Float = λ k. weight (squared_length q.point) q in
      let start : Leading = record { value = lowest; who = None } in
      ap (λ (l : Leading). l.who)
      (leader_stands greater value (λ k. true) lowest 1 n
      (leader_takes greater value (λ k. true) lowest 0 {l = start} refl (weight_above (squared_length q.point) q deep))
      (λ i l. lt_itself (value i)) (omega arith))

  point2_equal : point2 n all 0 ≡ Some 1
  unfolding point2 leader
  point2_equal =
      let value : ℕ → Float = λ k. weight (squared_distance q.point q.point) q in
      let start : Leading = record { value = lowest; who = None } in
      let one = leader_keeps greater value (other_than 0) lowest 0 {l = start} refl refl in
      ap (λ (l : Leading). l.who)
      (leader_stands greater value (other_than 0) lowest 2 n
      (leader_takes greater value (other_than 0) lowest 1 {l = start} (sym one) (weight_above (squared_distance q.point q.point) q deep))
      (λ i l. lt_itself (value i)) (omega arith))

  side_void : (k : ℕ) → T (void (side_value normal all 0 1 k))
  unfolding side_value
  side_void k = dot_void (cross (q.point -v q.point) normal) (q.point -v q.point) (vector_difference_void q.point)

  point3_equal : point3 normal n all 0 1 ≡ None
  unfolding point3 leader
  point3_equal =
      ap (λ (l : Leading). l.who)
      (leader_stands less (side_value normal all 0 1) (rest 0 1) zero_f 0 n refl (λ i l. void_not_below (side_value normal all 0 1 i) (side_void i)) (omega arith))

  point4_equal : point4 normal n all 0 1 ≡ None
  unfolding point4 leader
  point4_equal =
      ap (λ (l : Leading). l.who)
      (leader_stands greater (side_value normal all 0 1) (rest 0 1) zero_f 0 n refl (λ i l. void_not_above (side_value normal all 0 1 i) (side_void i)) (omega arith))

  kept_equal : kept_from normal n all (point1 n all) ≡ 0 ∷ 1 ∷ []
  unfolding kept_from kept_beside
  kept_equal =
      ap (kept_from normal n all) point1_equal
      ∙ ap (kept_beside normal n all 0) point2_equal
      ∙ ap (λ (o : Option ℕ). 0 ∷ listed o ++ 1 ∷ listed (point4 normal n all 0 1)) point3_equal
      ∙ ap (λ (o : Option ℕ). 0 ∷ 1 ∷ listed o) point4_equal

-- C2, for any two or more equal points, under any normal, NaNs and infinities included
pub equal_points_kept : (normal : Vec3) (p : PrunePoint) (n : ℕ) (point : ℕ → PrunePoint) → 1 < n → ((k : ℕ) → k < n → point k ≡ p) → kept normal n point ≡ 0 ∷ 1 ∷ []
unfolding kept
equal_points_kept normal p n point h same =
    kept_same normal n (λ k. projected normal (point k)) (λ k. projected normal p) (λ k l. ap (projected normal) (same k l))
    ∙ kept_equal normal (projected normal p) (projected_deep normal p) n h

-- ---- four at most
module _ (normal : Vec3) (count : ℕ) where
  listed_one : (o : Option ℕ) → length (listed o) ≤ 1
  listed_one None = omega arith
  listed_one (Some k) = omega arith

  beside_four : (p : ℕ → Projected) (i : ℕ) (o : Option ℕ) → length (kept_beside normal count p i o) ≤ 4
  unfolding kept_beside
  beside_four p i None = omega arith
  beside_four p i (Some j) =
      let below = listed (point3 normal count p i j) in
      let above = listed (point4 normal count p i j) in
      omega (arith, length-append below (j ∷ above), listed_one (point3 normal count p i j), listed_one (point4 normal count p i j))

  from_four : (p : ℕ → Projected) (o : Option ℕ) → length (kept_from normal count p o) ≤ 4
  unfolding kept_from
  from_four p None = omega arith
  from_four p (Some i) = beside_four p i (point2 count p i)

  pub kept_four : (point : ℕ → PrunePoint) → length (kept normal count point) ≤ 4
  unfolding kept
  kept_four point =
      let p : ℕ → Projected = λ k. projected normal (point k) in
      from_four p (point1 count p)
