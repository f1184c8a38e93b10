-- By number and by place: what the matching setting changes, and what it does not. Assumes nothing.
use Rattle.std.specs.Prelude.{ℕ, ◌<◌, ◌≡◌, refl, Bool, true, false, not, ◌&&◌, ◌||◌, length, get_or, Float, Option, None, Some}
use Rattle.std.proofs.Common.{sym, ◌∙◌}
use Rattle.std.proofs.Math.Path.{ap}
use mathlib.Core.List.{List, [], ◌∷◌, map}
use Rattle.math.specs.Floats.{◌⊗◌}
use Rattle.rules.specs.Numbers.{first}
use Rattle.rules.specs.Records.{Point, Manifold}
use Rattle.rules.specs.Matching.{unknown, by_number, by_place, feature_rule, anchors_match, matches, source, taking, matched_point, with_points, match_contacts, match_all}
use Rattle.rule_laws.specs.NumberLaws.{first_same, first_passes}
use Rattle.rule_laws.specs.MatchingLaws.{none_before, matched_none}

-- the setting 0 says by number, 1 by place
pub rule_number : feature_rule false ≡ by_number
rule_number = refl

pub rule_place : feature_rule true ≡ by_place
rule_place = refl

module _ (square : Float) (olds : List Point) (new : Point) where
  -- ---- a new point without a 0: by place is by number
  pub place_known : unknown new ≡ false → (old : Point) → matches by_place square new old ≡ matches by_number square new old
  unfolding by_place
  place_known e old = ap (λ (b : Bool). (not b && by_number new old) || anchors_match square new old) e

  pub place_known_source : unknown new ≡ false → source by_place square olds new ≡ source by_number square olds new
  unfolding source
  place_known_source e = first_same _ _ (length olds) (λ i l. place_known e (get_or olds i new))

  pub place_known_point : unknown new ≡ false → matched_point by_place square olds new ≡ matched_point by_number square olds new
  unfolding matched_point
  place_known_point e = ap (taking olds new) (place_known_source e)

  -- ---- a new point with a 0: by place it matches by anchors alone
  pub place_unknown : unknown new ≡ true → (old : Point) → matches by_place square new old ≡ anchors_match square new old
  unfolding by_place
  place_unknown e old = ap (λ (b : Bool). (not b && by_number new old) || anchors_match square new old) e

  pub place_unknown_source : unknown new ≡ true → source by_place square olds new ≡ first (λ k. anchors_match square new (get_or olds k new)) (length olds)
  unfolding source
  place_unknown_source e = first_same _ _ (length olds) (λ i l. place_unknown e (get_or olds i new))

  -- what it takes is an old point's with close anchors
  pub place_unknown_close : unknown new ≡ true → (k : ℕ) → source by_place square olds new ≡ Some k → anchors_match square new (get_or olds k new) ≡ true
  place_unknown_close e k h = first_passes (λ i. anchors_match square new (get_or olds i new)) (length olds) k (sym (place_unknown_source e) ∙ h)

  -- and where no old point has these, it takes nothing
  pub place_unknown_far : unknown new ≡ true → ((i : ℕ) → i < length olds → anchors_match square new (get_or olds i new) ≡ false) → matched_point by_place square olds new ≡ new
  place_unknown_far e far =
      matched_none by_place square olds new
      (none_before by_place square olds new (length olds) (λ i l. place_unknown e (get_or olds i new) ∙ far i l))

-- ---- whole manifolds: where no new point has a 0, the two rules match alike
abbrev pub AllKnown : List Point → Type 0
AllKnown [] = Unit {0}
AllKnown (p ∷ ps) = (unknown p ≡ false) × AllKnown ps

module _ (square : Float) (olds : List Point) where
  taken_features : (p : Point) (o : Option ℕ) → unknown (taking olds p o) ≡ unknown p
  taken_features p None = refl
  taken_features p (Some k) = refl

  matched_known : (ps : List Point) → AllKnown ps → AllKnown (map (matched_point by_number square olds) ps)
  unfolding matched_point
  matched_known [] h = tt
  matched_known (p ∷ ps) h = (taken_features p (source by_number square olds p) ∙ h.0, matched_known ps h.1)

  points_alike : (ps : List Point) → AllKnown ps → map (matched_point by_place square olds) ps ≡ map (matched_point by_number square olds) ps
  points_alike [] h = refl
  points_alike (p ∷ ps) h = λ i. place_known_point square olds p h.0 i ∷ points_alike ps h.1 i

pub place_known_all : (threshold : Float) (olds : List Manifold) (m : Manifold) → AllKnown m.points → match_all by_place threshold olds m ≡ match_all by_number threshold olds m
unfolding match_all match_contacts
place_known_all threshold [] m h = refl
place_known_all threshold (o ∷ os) m h =
    ap (λ (ps : List Point). match_all by_place threshold os (with_points m ps)) (points_alike (threshold ⊗ threshold) o.points m.points h)
    ∙ place_known_all threshold os (match_contacts by_number threshold o.points m) (matched_known (threshold ⊗ threshold) o.points m.points h)
