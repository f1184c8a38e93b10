-- What matching makes of points and manifolds that fit: every float is one of 32 bits, and the lists are within the limits. Rule 11. Assumes nothing.
use Rattle.std.proofs.Common.{sym, subst, not-suc-le-zero, le_of_suc-le-suc, arith}
use Rattle.std.specs.Prelude.{ℕ, zero, suc, ◌<◌, Float, length, get_or, Option, None, Some}
use mathlib.Core.List.{List, [], ◌∷◌, map}
use Rattle.std.proofs.lemmas.List.{length-map}
use Rattle.math.specs.Floats.{◌⊗◌}
use Rattle.rows.specs.Slots.{upto}
use Rattle.rules.specs.Matching.{FeatureRule, source, taking, matched_point, match_contacts, match_all}
use Rattle.rules.specs.Records.{Point, Manifold}
use Rattle.manifold_records.specs.ListLaws.{get_d_map_upto, length_map_upto}
use Rattle.contact_records.specs.Fit.{FitPoint, FitPoints, FitManifold}

-- ---- lists, by index. Past the end is whatever the caller says
abbrev pub Each : {A : Type 0} → (A → Type 0) → List A → Type 0
Each {A} P xs = (k : ℕ) (past : A) → k < length xs → P (get_or xs k past)

module _ {A : Type 0} (P : A → Type 0) where
  pub each_none : Each P []
  each_none k past h = absurd (not-suc-le-zero h)

  pub each_and : (x : A) (xs : List A) → P x → Each P xs → Each P (x ∷ xs)
  each_and x xs p h zero past l = p
  each_and x xs p h (suc k) past l = h k past (le_of_suc-le-suc l)

  pub each_first : (x : A) (xs : List A) → Each P (x ∷ xs) → P x
  each_first x xs h = h 0 x (omega arith)

  pub each_rest : (x : A) (xs : List A) → Each P (x ∷ xs) → Each P xs
  each_rest x xs h k past l = h (suc k) past (omega arith)

  -- what stands past the end is one of them too
  pub each_at : (xs : List A) (k : ℕ) (d : A) → Each P xs → P d → P (get_or xs k d)
  each_at [] k d h p = p
  each_at (x ∷ xs) zero d h p = each_first x xs h
  each_at (x ∷ xs) (suc k) d h p = each_at xs k d (each_rest x xs h) p

  pub each_upto : (f : ℕ → A) (n : ℕ) → ((k : ℕ) → k < n → P (f k)) → Each P (map f (upto n))
  each_upto f n h k past l =
      let b : k < n = rw (length_map_upto f n) at l in
      subst P (sym (get_d_map_upto f n k past b)) (h k b)

module _ {A B : Type 0} (P : A → Type 0) (Q : B → Type 0) where
  pub each_map : (f : A → B) → ((a : A) → P a → Q (f a)) → (xs : List A) → Each P xs → Each Q (map f xs)
  each_map f g [] h = each_none Q
  each_map f g (x ∷ xs) h = each_and Q (f x) (map f xs) (g x (each_first P x xs h)) (each_map f g xs (each_rest P x xs h))

-- ---- a change of each
pub points_mapped : (f : Point → Point) → ((p : Point) → FitPoint p → FitPoint (f p)) → (ps : List Point) → FitPoints ps → FitPoints (map f ps)
points_mapped f g ps h = record { few = rw (length-map ps f) h.few; each = each_map FitPoint FitPoint f g ps h.each }

-- ---- rule 11
-- an old point's impulses; past the old ones' end stands the new point itself
pub taking_fits : (olds : List Point) (new : Point) (o : Option ℕ) → Each FitPoint olds → FitPoint new → FitPoint (taking olds new o)
taking_fits olds new None h n = n
taking_fits olds new (Some k) h n =
    let f = each_at FitPoint olds k new h n in
    record {
      anchor1 = n.anchor1;
      anchor2 = n.anchor2;
      point = n.point;
      penetration = n.penetration;
      base_penetration = n.base_penetration;
      normal_impulse = n.normal_impulse;
      normal_speed = n.normal_speed;
      warm_start_normal = f.warm_start_normal;
      warm_start_tangent1 = f.warm_start_tangent1;
      warm_start_tangent2 = f.warm_start_tangent2;
    }

module _ (same : FeatureRule) where
  pub point_matched : (square : Float) (olds : List Point) (new : Point) → Each FitPoint olds → FitPoint new → FitPoint (matched_point same square olds new)
  unfolding matched_point
  point_matched square olds new h n = taking_fits olds new (source same square olds new) h n

  pub contacts_matched : (threshold : Float) (olds : List Point) (m : Manifold) → Each FitPoint olds → FitManifold m → FitManifold (match_contacts same threshold olds m)
  unfolding match_contacts
  contacts_matched threshold olds m h n =
      record {
        points = points_mapped (matched_point same (threshold ⊗ threshold) olds) (λ p. point_matched (threshold ⊗ threshold) olds p h) m.points n.points;
        normal = n.normal;
        friction = n.friction;
        restitution = n.restitution;
        tangent_velocity = n.tangent_velocity;
      }

  pub all_matched : (threshold : Float) (olds : List Manifold) (m : Manifold) → Each FitManifold olds → FitManifold m → FitManifold (match_all same threshold olds m)
  unfolding match_all
  all_matched threshold [] m h n = n
  all_matched threshold (o ∷ os) m h n =
      all_matched threshold os (match_contacts same threshold o.points m) (each_rest FitManifold o os h)
      (contacts_matched threshold o.points m (each_first FitManifold o os h).points.each n)
