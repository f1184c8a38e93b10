-- Pruning by the code's structs is the rule's: the kept numbers are points', and the points picked by them are the rule's. Assumes nothing.
use Rattle.std.specs.Prelude.{◌≡◌, Bool, false, set, take, Option, None, Some}
use Rattle.std.proofs.Math.Path.{refl, sym, ap, subst}
use Rattle.std.proofs.Common.{◌∙◌, eq-or-lt_of_le, arith, inl, inr, get_or-set_same, get_or-set_other, length-take-le}
use Prim.Native.Nat.{ℕ, zero, suc, ◌+◌, ◌≤◌, ◌<◌}
use Rattle.std.proofs.Math.Bool.{true}
use mathlib.Core.List.{List, [], ◌∷◌, ◌++◌, map}
use borrow.Author.Tests.{le-ltb, lt-ltb, ltb-true, ltb-false}
use Rattle.std.proofs.Math.Dec.{ltb}
use Rattle.std.proofs.Math.ListN.{length, get_or}
use Rattle.math.specs.declared.vec.Vec3.{Vec3}
use Rattle.rows.specs.Slots.{AllBelow}
use Rattle.rules.specs.Filtering.{no_point, prune_point, pruned}
use Rattle.rules.specs.Pruning as rules
use Rattle.rules.specs.Records.{Point}
use Rattle.rule_laws.specs.PruningLaws.{point1_below, point2_below, point3_below, point4_below, kept_same}
use Rattle.contact_types.specs.Pruned.{prune_point_of, point_by, kept_of}
use Rattle.contact_types.specs.PruneEndLaws.{kept_front}
use Rattle.contact_types.specs.Views.{point_of}
use Rattle.contact_types.specs.declared.contact_point.ContactPoint.{ContactPoint}
use Rattle.contact_types.specs.declared.pruning.KeptPoints.{KeptPoints}
use Rattle.contact_types.specs.declared.pruning.PrunePoint.{PrunePoint}
use Rattle.rules.specs.Limits.{proposed_points, stored_points}
use Rattle.narrow_phase.specs.Keeping.{Viewed, KeptNumbers, PlaceOf, Picked, PickedKept}
use Rattle.narrow_phase.specs.ListLaws.{view_at, length_view, in_range_lem, four_first, none_below, one_below}
use Rattle.narrow_phase.specs.Views.{first_points, PrunedTo}
use Rattle.narrow_phase.specs.declared.manifold.ManifoldPoints.{ManifoldPoints}

-- ---- the kept numbers
module _ (normal : Vec3) (count : ℕ) (p : ℕ → rules.Projected) where
  listed_below : (o : Option ℕ) (xs : List ℕ) → ((k : ℕ) → o ≡ Some k → k < count) → AllBelow count xs → AllBelow count (rules.listed o ++ xs)
  listed_below None xs h t = t
  listed_below (Some k) xs h t = one_below count k xs (h k refl) t

  last_below : (o : Option ℕ) → ((k : ℕ) → o ≡ Some k → k < count) → AllBelow count (rules.listed o)
  last_below None h = none_below count
  last_below (Some k) h = one_below count k [] (h k refl) (none_below count)

  beside_below : (i : ℕ) → i < count → (o : Option ℕ) → rules.point2 count p i ≡ o → AllBelow count (rules.kept_beside normal count p i o)
  unfolding rules.kept_beside
  beside_below i h None e = one_below count i [] h (none_below count)
  beside_below i h (Some j) e =
      let below = rules.point3 normal count p i j in
      let above = rules.point4 normal count p i j in
      one_below count i (rules.listed below ++ j ∷ rules.listed above) h
      (listed_below below (j ∷ rules.listed above) (point3_below count p normal i j)
      (one_below count j (rules.listed above) (point2_below count p i j e) (last_below above (point4_below count p normal i j))))

  from_below : (o : Option ℕ) → rules.point1 count p ≡ o → AllBelow count (rules.kept_from normal count p o)
  unfolding rules.kept_from
  from_below None e = none_below count
  from_below (Some i) e = beside_below i (point1_below count p i e) (rules.point2 count p i) refl

pub kept_below : (normal : Vec3) (count : ℕ) (point : ℕ → rules.PrunePoint) → AllBelow count (rules.kept normal count point)
unfolding rules.kept
kept_below normal count point = let p : ℕ → rules.Projected = λ k. rules.projected normal (point k) in from_below normal count p (rules.point1 count p) refl

-- those kept of an array's first points, lent as a slice
pub front_numbers : (normal : Vec3) (n : ℕ) (view : List PrunePoint) {k : KeptPoints} → n ≤ length view → KeptNumbers normal (length (take n view)) (take n view) k → KeptNumbers normal n view k
front_numbers normal n view {k} l b =
    let e : length (take n view) ≡ n = length-take-le n view l in
    let c = subst (λ (m : ℕ). KeptNumbers normal m (take n view) k) e b in
    record { few = c.few; many = λ h. b.many (subst (λ (m : ℕ). stored_points < m) (sym e) h) ∙ kept_front normal view n l; most = b.most }

-- ---- what pruning looks at: one more point, if it counts
pub view_both : (points : List ContactPoint) (view : List PrunePoint) (c : ℕ) (p : ContactPoint) {q : PrunePoint} {one : ℕ}
    → one ≤ 1 → c < length points → c < length view → Viewed points view c → prune_point_of q ≡ prune_point (point_of p) → Viewed (set points c p) (set view c q) (c + one)
view_both points view c p {q} {one} o l h all e = record { each = go }
  where
    go : (j : ℕ) (past : ContactPoint) → j < c + one → point_by (set view c q) j ≡ prune_point (point_of (get_or (set points c p) j past))
    go j past i =
        elim (eq-or-lt_of_le (let z : j ≤ c = omega arith in z)) [
          | inl z ↦
              let same : get_or (set points c p) j past ≡ p = rw z (get_or-set_same points c p past l) in
              ap prune_point_of (rw z (get_or-set_same view c q _ h)) ∙ e ∙ ap (λ (x : ContactPoint). prune_point (point_of x)) (sym same)
          | inr z ↦ ap prune_point_of (get_or-set_other view c j q _ (omega arith)) ∙ all.each j past z ∙ ap (λ (x : ContactPoint). prune_point (point_of x)) (sym (get_or-set_other points c j p past (omega arith)))
        ]

-- ---- a point read at its place
pub picked_at : (points : List ContactPoint) (i : ℕ) {r : ℕ} (d : ContactPoint) → length points ≡ proposed_points → PlaceOf i r → Picked points i (get_or points r d)
picked_at points i {r} d l p = record { there = λ past h. ap (λ (m : ℕ). get_or points m d) (p.same h) ∙ in_range_lem points i d past (omega (arith, l)) }

-- ---- the points picked
module _ (n : ℕ) (from : List ContactPoint) (few : n ≤ proposed_points) (room : n ≤ length from) where
  abbrev pick : ℕ → Point
  pick x = get_or (first_points n from) x no_point

  one : (i : ℕ) (q : ContactPoint) → i < n → Picked from i q → point_of q ≡ pick i
  unfolding first_points
  one i q h p = ap point_of (p.there q (omega arith)) ∙ sym (view_at point_of n from i no_point q h room)

  pub picked : (c i j k l : ℕ) {q r s t : ContactPoint} → c ≤ 4 → AllBelow n (take c (i ∷ j ∷ k ∷ l ∷ []))
      → Picked from i q → Picked from j r → Picked from k s → Picked from l t → first_points c (q ∷ r ∷ s ∷ t ∷ []) ≡ map pick (take c (i ∷ j ∷ k ∷ l ∷ []))
  unfolding first_points
  picked zero i j k l h b p1 p2 p3 p4 = refl
  picked (suc zero) i j k l h b p1 p2 p3 p4 = λ z. one i _ (b 0 (omega arith)) p1 z ∷ []
  picked (suc (suc zero)) i j k l h b p1 p2 p3 p4 = λ z. one i _ (b 0 (omega arith)) p1 z ∷ one j _ (b 1 (omega arith)) p2 z ∷ []
  picked (suc (suc (suc zero))) i j k l h b p1 p2 p3 p4 = λ z. one i _ (b 0 (omega arith)) p1 z ∷ one j _ (b 1 (omega arith)) p2 z ∷ one k _ (b 2 (omega arith)) p3 z ∷ []
  picked (suc (suc (suc (suc zero)))) i j k l h b p1 p2 p3 p4 =
      λ z. one i _ (b 0 (omega arith)) p1 z ∷ one j _ (b 1 (omega arith)) p2 z ∷ one k _ (b 2 (omega arith)) p3 z ∷ one l _ (b 3 (omega arith)) p4 z ∷ []
  picked (suc (suc (suc (suc (suc c))))) i j k l h b p1 p2 p3 p4 = absurd (omega arith)

-- ---- the rule
first_length : (n : ℕ) (from : List ContactPoint) → n ≤ length from → length (first_points n from) ≡ n
unfolding first_points
first_length n from l = length_view point_of n from l

-- four points or fewer
pub pruned_few : (normal : Vec3) (n : ℕ) (from : List ContactPoint) {r : ManifoldPoints} → n ≤ 4 → n ≤ length from → PrunedTo (first_points n from) r → PrunedTo (pruned normal (first_points n from)) r
unfolding pruned
pruned_few normal n from h l p =
    let e : ltb 4 (length (first_points n from)) ≡ false = ap (ltb 4) (first_length n from l) ∙ le-ltb 4 n h in
    record { points = p.points ∙ sym (rw e); few = p.few; four = p.four }

-- more than four
module _ (normal : Vec3) (n : ℕ) (from : List ContactPoint) (size : length from ≡ proposed_points) (many : 4 < n) (few : n ≤ proposed_points) where
  abbrev seen : ℕ → rules.PrunePoint
  seen k = prune_point (get_or (first_points n from) k no_point)

  seen_at : (view : List PrunePoint) → Viewed from view n → (past : ContactPoint) (k : ℕ) → k < n → point_by view k ≡ seen k
  unfolding first_points
  seen_at view v past k h = v.each k past h ∙ ap prune_point (sym (view_at point_of n from k no_point past h (omega arith)))

  seen_same : (view : List PrunePoint) → Viewed from view n → ContactPoint → rules.kept normal n (point_by view) ≡ rules.kept normal n seen
  unfolding rules.kept
  seen_same view v past =
      kept_same normal n (λ k. rules.projected normal (point_by view k)) (λ k. rules.projected normal (seen k)) (λ k h. ap (rules.projected normal) (seen_at view v past k h))

  pub pruned_many : (view : List PrunePoint) (k : KeptPoints) (r : ManifoldPoints) → Viewed from view n → kept_of k ≡ rules.kept normal n (point_by view) → k.count ≤ 4 → PickedKept from k r
      → PrunedTo (pruned normal (first_points n from)) r
  unfolding pruned
  pruned_many view k r v e l p =
      let l0 = first_length n from (omega arith) in
      let t : ltb 4 (length (first_points n from)) ≡ true = ap (ltb 4) l0 ∙ lt-ltb 4 n many in
      let same : kept_of k ≡ rules.kept normal n seen = e ∙ seen_same view v p.first in
      let below : AllBelow n (kept_of k) = subst (AllBelow n) (sym same) (kept_below normal n seen) in
      let got : first_points r.count r.points ≡ map (λ i. get_or (first_points n from) i no_point) (kept_of k) =
      (λ j. first_points (p.count j) (p.four j)) ∙ picked n from few (omega arith) k.count k.first k.second k.third k.fourth l below p.at1 p.at2 p.at3 p.at4 in
      record {
        points = got ∙ ap (map (λ i. get_or (first_points n from) i no_point)) (same ∙ ap (λ (m : ℕ). rules.kept normal m seen) (sym l0)) ∙ sym (rw t);
        few = omega (arith, p.count);
        four = ap length p.four;
      }

-- ---- both
-- the first points, by their numbers
first_picked : (n : ℕ) (from : List ContactPoint) (k : KeptPoints) (r : ManifoldPoints) → n ≤ 4 → length from ≡ proposed_points → k ≡ record { count = n; first = 0; second = 1; third = 2; fourth = 3 }
    → PickedKept from k r → PrunedTo (first_points n from) r
unfolding first_points
first_picked n from k r h l e p =
    let d = p.first in
    let one : p.first ≡ get_or from 0 d = (rw (ap (λ (x : KeptPoints). x.first) e) at p.at1).there d (omega arith) in
    let two : p.second ≡ get_or from 1 d = (rw (ap (λ (x : KeptPoints). x.second) e) at p.at2).there d (omega arith) in
    let three : p.third ≡ get_or from 2 d = (rw (ap (λ (x : KeptPoints). x.third) e) at p.at3).there d (omega arith) in
    let four : p.fourth ≡ get_or from 3 d = (rw (ap (λ (x : KeptPoints). x.fourth) e) at p.at4).there d (omega arith) in
    let m : r.count ≡ n = p.count ∙ ap (λ (x : KeptPoints). x.count) e in
    let got : r.points ≡ get_or from 0 d ∷ get_or from 1 d ∷ get_or from 2 d ∷ get_or from 3 d ∷ [] = p.four ∙ (λ z. one z ∷ two z ∷ three z ∷ four z ∷ []) in
    record {
      points = (λ z. map point_of (take (m z) (got z))) ∙ ap (map point_of) (four_first n from d h (omega (arith, l)));
      few = omega (arith, m);
      four = ap length p.four;
    }

module _ (normal : Vec3) (n : ℕ) (from : List ContactPoint) (view : List PrunePoint) (k : KeptPoints) (r : ManifoldPoints) (few : n ≤ proposed_points) (size : length from ≡ proposed_points) where
  kept_by : (t : Bool) → ltb 4 n ≡ t → Viewed from view n → KeptNumbers normal n view k → PickedKept from k r → PrunedTo (pruned normal (first_points n from)) r
  kept_by true e v b p = let h = ltb-true 4 n e in pruned_many normal n from size h few view k r v (b.many h) b.most p
  kept_by false e v b p = let h = ltb-false 4 n e in pruned_few normal n from h (omega (arith, size)) (first_picked n from k r h size (b.few h) p)

  pub kept_picked : (ps : List Point) → first_points n from ≡ ps → Viewed from view n → KeptNumbers normal n view k → PickedKept from k r → PrunedTo (pruned normal ps) r
  kept_picked ps e v b p = subst (λ (qs : List Point). PrunedTo (pruned normal qs) r) e (kept_by (ltb 4 n) refl v b p)
