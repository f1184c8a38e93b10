-- The searches' results put together: the points that stay are the rule's. Assumes nothing.
use Rattle.std.specs.Prelude.{ℕ, ◌≤◌, ◌<◌, ◌≡◌, T, Some, IsSome, List, ◌∷◌, ◌++◌, take, length, Option}
use Rattle.std.specs.Option.{is_some}
use Rattle.std.proofs.Common.{arith, subst, ◌∙◌, sym, ap}
use Rattle.std.proofs.lemmas.List.{get_or-take, length-take-le}
use Rattle.std.specs.Float.Ieee.Positive.{above}
use Rattle.math.specs.declared.vec.Vec3.{Vec3}
use Rattle.rules.specs.Pruning as rules
use Rattle.rule_laws.specs.PruningLaws.{Deep, projected_deep, point1_exists, point1_below, point2_exists, point2_below, kept_same}
use Rattle.contact_types.specs.Pruned.{prune_point_of, projected_of, point_by, projected_by, AllProjected, SidesFound}
use Rattle.contact_types.specs.declared.pruning.PrunePoint.{PrunePoint}
use Rattle.contact_types.specs.declared.pruning.Projected.{Projected}
use Rattle.contact_types.specs.declared.pruning.Sides.{Sides}

-- the first points of an array, in a slice
pub kept_front : (normal : Vec3) (points : List PrunePoint) (count : ℕ) → count ≤ length points → rules.kept normal (length (take count points)) (point_by (take count points)) ≡ rules.kept normal count (point_by points)
unfolding rules.kept
kept_front normal points count room =
    ap (λ (n : ℕ). rules.kept normal n (point_by (take count points))) (length-take-le count points room)
    ∙ kept_same normal count (λ k. rules.projected normal (point_by (take count points) k)) (λ k. rules.projected normal (point_by points k))
    (λ k h. ap (λ (p : PrunePoint). rules.projected normal (prune_point_of p)) (get_or-take count points k _ h))

-- the first n points of an array are projected
module _ (normal : Vec3) (points : List PrunePoint) (all : List Projected) (n : ℕ) (two : 1 < n) (room : n ≤ length all) (p : AllProjected normal points all n) where
  abbrev slice : List Projected
  slice = take n all

  long : length slice ≡ n
  long = length-take-le n all room

  same : (k : ℕ) → k < length slice → projected_by slice k ≡ rules.projected normal (point_by points k)
  same k h = let l : k < n = omega (arith, long) in ap projected_of (get_or-take n all k _ l) ∙ p.each k l

  deep : Deep (length slice) (projected_by slice)
  deep k h = subst (λ (x : rules.Projected). T (above x.depth)) (sym (same k h)) (projected_deep normal (point_by points k))

  -- points 1 and 2 are there
  pub first_there : {o : Option ℕ} → o ≡ rules.point1 (length slice) (projected_by slice) → IsSome o
  first_there e = ap is_some (e ∙ (point1_exists (length slice) (projected_by slice) (omega (arith, long)) deep).1)

  pub first_below : {o : Option ℕ} {i : ℕ} → o ≡ rules.point1 (length slice) (projected_by slice) → o ≡ Some i → i < length slice
  first_below {o} {i} e f = point1_below (length slice) (projected_by slice) i (sym e ∙ f)

  pub second_there : (i : ℕ) {o : Option ℕ} → o ≡ rules.point2 (length slice) (projected_by slice) i → IsSome o
  second_there i e = ap is_some (e ∙ (point2_exists (length slice) (projected_by slice) i (omega (arith, long)) deep).1)

  pub second_below : (i : ℕ) {o : Option ℕ} {j : ℕ} → o ≡ rules.point2 (length slice) (projected_by slice) i → o ≡ Some j → j < length slice
  second_below i {o} {j} e f = point2_below (length slice) (projected_by slice) i j (sym e ∙ f)

  pub kept_gathered : {o q : Option ℕ} {i j : ℕ} {s : Sides} {k : List ℕ} → o ≡ rules.point1 (length slice) (projected_by slice) → o ≡ Some i → q ≡ rules.point2 (length slice) (projected_by slice) i → q ≡ Some j
      → SidesFound normal (length slice) (projected_by slice) i j s → k ≡ i ∷ rules.listed s.below ++ j ∷ rules.listed s.above → k ≡ rules.kept normal n (point_by points)
  unfolding rules.kept rules.kept_from rules.kept_beside
  kept_gathered {o} {q} {i} {j} {s} first is_i second is_j f g =
      let P = projected_by slice in
      let m = length slice in
      g ∙ ap (λ (x : Option ℕ). i ∷ rules.listed x ++ j ∷ rules.listed s.above) f.below ∙ ap (λ (x : Option ℕ). i ∷ rules.listed (rules.point3 normal m P i j) ++ j ∷ rules.listed x) f.above
      ∙ sym (ap (rules.kept_from normal m P) (sym first ∙ is_i) ∙ ap (rules.kept_beside normal m P i) (sym second ∙ is_j))
      ∙ kept_same normal m P (λ k. rules.projected normal (point_by points k)) same ∙ ap (λ (x : ℕ). rules.kept normal x (point_by points)) long
