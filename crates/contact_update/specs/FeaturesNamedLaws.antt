-- Where what is proposed leaves no feature at 0, the matching setting changes nothing: not a pair's update, and not a plain step. Assumes nothing.
use Rattle.std.specs.Prelude.{◌≡◌, ℕ, zero, suc, ◌<◌, Bool, ◌&&◌, ltb, Float, length, get_or, Option, None, Some}
use Rattle.std.proofs.Math.Path.{refl, ap}
use Rattle.std.proofs.Common.{sym, ◌∙◌, not-suc-le-zero, le_of_suc-le-suc, arith, ne_eqb}
use Rattle.std.proofs.Math.Bool.{true, false, cond, not}
use mathlib.Core.List.{List, [], ◌∷◌, map}
use Rattle.std.proofs.Math.Dec.{leb}
use Rattle.math.specs.Constants.{zero_f, tenth}
use Rattle.math.specs.Floats.{◌⊕◌, ◌⊗◌}
use Rattle.math.specs.declared.vec.Vec3.{Vec3}
use Rattle.rows.specs.Slots.{AllBelow}
use Rattle.rules.specs.Filtering.{moved_point, no_point, prune_point, pruned, filtered, is_empty, without_empty}
use Rattle.rules.specs.Graph.{Graph}
use Rattle.rules.specs.Inputs.{Settings, Collider, Body, ProposedPoint, ProposedManifold, Inputs}
use Rattle.rules.specs.Limits.{stored_points}
use Rattle.rules.specs.Matching.{unknown, by_number, feature_rule, match_all}
use Rattle.rules.specs.Pruning.{kept}
use Rattle.rules.specs.Records.{Point, Manifold, Cache, Pair}
use Rattle.rules.specs.Recycling.{scaled_tolerance, scaled_recycle, tolerance_for, recycles}
use Rattle.rules.specs.Sides.{Side, side_of, overlap, interact}
use Rattle.rules.specs.Status.{visit_all, standing_bits, max_contact_distance_of, recycled_count, StepResult, plain_step}
use Rattle.rules.specs.Surface.{Surface, friction_of, restitution_of, clamped_velocity, swept_distance, effective_speculative_of, surface_of}
use Rattle.rules.specs.Update.{Updated, full, aabbs_disjoint, body_of, cache_of, enabled, hooked, matched, change_of, remaining, renewed_flags, status_bit, renewed, disjoint, overlapping, updated_between, updated}
use Rattle.rule_laws.specs.FeatureRuleLaws.{AllKnown, place_known_all}
use Rattle.narrow_phase.specs.KeepingLaws.{kept_below}
use Rattle.manifold_matching.specs.MatchedFitLaws.{Each, each_none, each_first, each_rest, each_map}
use Rattle.contact_update.specs.ManifoldFitLaws.{each_cond, staying_each, non_empty_each}

-- ---- no feature is 0
abbrev pub NamedPoint : ProposedPoint → Type 0
NamedPoint p = (p.feature1 ≡ 0 → ⊥) × (p.feature2 ≡ 0 → ⊥)

abbrev pub NamedManifold : ProposedManifold → Type 0
NamedManifold m = Each NamedPoint m.points

abbrev Known : Point → Type 0
Known p = unknown p ≡ false

abbrev KnownManifold : Manifold → Type 0
KnownManifold m = Each Known m.points

all_known : (ps : List Point) → Each Known ps → AllKnown ps
all_known [] h = tt
all_known (p ∷ ps) h = (each_first Known p ps h, all_known ps (each_rest Known p ps h))

-- ---- nor is one of the manifolds that remain: rules 9 and 10
moved_known : (a b : Side) (margins : Float) (normal : Vec3) (p : ProposedPoint) → NamedPoint p → Known (moved_point a b margins normal p)
unfolding moved_point
moved_known a b margins normal p n = rw (ne_eqb p.feature1 0 n.0, ne_eqb p.feature2 0 n.1)

below_each : (n : ℕ) (is : List ℕ) → AllBelow n is → Each (λ i. i < n) is
below_each n [] h k past l = absurd (not-suc-le-zero l)
below_each n (i ∷ is) h zero past l = h 0 l
below_each n (i ∷ is) h (suc k) past l = below_each n is (λ j m. h (suc j) (omega arith)) k past (le_of_suc-le-suc l)

pruned_known : (normal : Vec3) (ps : List Point) → Each Known ps → Each Known (pruned normal ps)
unfolding pruned
pruned_known normal ps h =
    let is = kept normal (length ps) (λ k. prune_point (get_or ps k no_point)) in
    each_cond Known (ltb stored_points (length ps)) (map (λ i. get_or ps i no_point) is) ps
    (each_map (λ i. i < length ps) Known (λ i. get_or ps i no_point) (λ i l. h i no_point l) is
    (below_each (length ps) is (kept_below normal (length ps) (λ k. prune_point (get_or ps k no_point))))) h

filtered_known : (step_time : Float) (a b : Side) (f : Surface) (m : ProposedManifold) → NamedManifold m → KnownManifold (filtered step_time a b f m)
unfolding filtered
filtered_known step_time a b f m h =
    pruned_known m.normal _
    (staying_each Known step_time f.effective_speculative _
    (each_map NamedPoint Known (moved_point a b f.margins m.normal) (moved_known a b f.margins m.normal) m.points h))

remaining_known : (step_time : Float) (a b : Side) (f : Surface) (modify answer : Bool) (proposal : List ProposedManifold) → Each NamedManifold proposal
    → Each KnownManifold (remaining step_time a b f modify answer proposal)
unfolding remaining hooked
remaining_known step_time a b f modify answer proposal h =
    each_cond KnownManifold (modify && not answer) [] (without_empty (map (filtered step_time a b f) proposal)) (each_none KnownManifold)
    (non_empty_each KnownManifold (map (filtered step_time a b f) proposal)
    (each_map NamedManifold KnownManifold (filtered step_time a b f) (filtered_known step_time a b f) proposal h))

-- ---- so they are matched alike: rule 11
rule_alike : (place : Bool) (threshold : Float) (olds : List Manifold) (m : Manifold) → KnownManifold m → match_all (feature_rule place) threshold olds m ≡ match_all by_number threshold olds m
rule_alike true threshold olds m h = place_known_all threshold olds m (all_known m.points h)
rule_alike false threshold olds m h = refl

all_alike : (place other : Bool) (threshold : Float) (olds ms : List Manifold) → Each KnownManifold ms
    → map (match_all (feature_rule place) threshold olds) ms ≡ map (match_all (feature_rule other) threshold olds) ms
all_alike place other threshold olds [] h = refl
all_alike place other threshold olds (m ∷ ms) h =
    let k = each_first KnownManifold m ms h in
    λ i. (rule_alike place threshold olds m k ∙ sym (rule_alike other threshold olds m k)) i ∷ all_alike place other threshold olds ms (each_rest KnownManifold m ms h) i

-- the settings, with that matching setting
abbrev pub with_matching : Bool → Settings → Settings
with_matching place s =
    record {
      step_time = s.step_time;
      length_unit = s.length_unit;
      contact_tolerance = s.contact_tolerance;
      recycle_distance = s.recycle_distance;
      recycle_cosine = s.recycle_cosine;
      match_contacts = s.match_contacts;
      default_friction = s.default_friction;
      default_restitution = s.default_restitution;
      by_place = place;
    }

module _ (place : Bool) (s : Settings) where
  matched_alike : (olds news : List Manifold) → Each KnownManifold news → matched (with_matching place s) olds news ≡ matched s olds news
  unfolding matched
  matched_alike olds news h =
      ap (λ (ms : List Manifold). cond (s.match_contacts && leb (length news) 4) ms news) (all_alike place s.by_place (tenth ⊗ s.length_unit) olds news h)

  -- ---- a pair's update
  renewed_alike : (answer : Bool) (proposal : List ProposedManifold) (c1 c2 : Collider) (a b : Side) (p : Pair) → Each NamedManifold proposal
      → renewed (with_matching place s) answer proposal c1 c2 a b p ≡ renewed s answer proposal c1 c2 a b p
  unfolding renewed surface_of friction_of restitution_of clamped_velocity swept_distance effective_speculative_of scaled_tolerance
  renewed_alike answer proposal c1 c2 a b p h =
      let f = surface_of s c1 c2 a b p.speculative in
      let on = enabled c1 c2 a b in
      let news = remaining s.step_time a b f p.flags.modify_contacts answer proposal in
      let touching = not (is_empty news) in
      let change = change_of p.manifolds news in
      ap (λ (ms : List Manifold).
      let q : Pair = record {
        names = p.names;
        edge = p.edge;
        flags = renewed_flags p.flags a.is_static b.is_static on touching;
        manifolds = ms;
        count_change = change;
        speculative = zero_f;
        cache = Some (cache_of a b);
      } in
      let u : Updated = record { pair = q; way = full; bit = status_bit p.flags on touching change; max_contact_distance = f.margins ⊕ f.effective_speculative } in
      u) (matched_alike p.manifolds news (remaining_known s.step_time a b f p.flags.modify_contacts answer proposal h))

  overlapping_alike : (answer : Bool) (proposal : List ProposedManifold) (c1 c2 : Collider) (a b : Side) (p : Pair) (again : Bool) (k : Option Cache) → Each NamedManifold proposal
      → overlapping (with_matching place s) answer proposal c1 c2 a b p again k ≡ overlapping s answer proposal c1 c2 a b p again k
  unfolding overlapping
  overlapping_alike answer proposal c1 c2 a b p true (Some k) h = refl
  overlapping_alike answer proposal c1 c2 a b p true None h = renewed_alike answer proposal c1 c2 a b p h
  overlapping_alike answer proposal c1 c2 a b p false k h = renewed_alike answer proposal c1 c2 a b p h

  recycles_alike : (touching : Bool) (a b : Side) (k : Option Cache) → recycles (with_matching place s) touching a b k ≡ recycles s touching a b k
  unfolding recycles tolerance_for scaled_tolerance scaled_recycle
  recycles_alike touching a b None = refl
  recycles_alike touching a b (Some k) = refl

  between_alike : (body : ℕ → Option Body) (answer : Bool) (proposal : List ProposedManifold) (p : Pair) (c1 c2 : Option Collider) → Each NamedManifold proposal
      → updated_between (with_matching place s) body answer proposal p c1 c2 ≡ updated_between s body answer proposal p c1 c2
  unfolding updated_between
  between_alike body answer proposal p None c2 h = refl
  between_alike body answer proposal p (Some c1) None h = refl
  between_alike body answer proposal p (Some c1) (Some c2) h =
      let a = side_of c1 (body_of body c1.body) in
      let b = side_of c2 (body_of body c2.body) in
      let apart : Updated = record { pair = disjoint p; way = aabbs_disjoint; bit = true; max_contact_distance = zero_f } in
      ap (λ (u : Updated). cond (overlap c1 c2 p.speculative && interact c1 c2) u apart)
      (ap (λ (again : Bool). overlapping (with_matching place s) answer proposal c1 c2 a b p again p.cache) (recycles_alike p.flags.touching a b p.cache)
      ∙ overlapping_alike answer proposal c1 c2 a b p (recycles s p.flags.touching a b p.cache) p.cache h)

-- ---- a step
abbrev pub matching_by : Bool → Inputs → Inputs
matching_by place i = record { settings = with_matching place i.settings; collider = i.collider; body = i.body; proposal = i.proposal; hook = i.hook }

-- what is proposed for a pair leaves no feature at 0
abbrev pub FeaturesNamed : Inputs → Pair → Type 0
FeaturesNamed i p = Each NamedManifold (i.proposal p.names.id)

pub features_named_update : (place : Bool) (i : Inputs) (p : Pair) → FeaturesNamed i p → updated (matching_by place i) p ≡ updated i p
unfolding updated
features_named_update place i p h =
    between_alike place i.settings i.body (i.hook p.names.id) (i.proposal p.names.id) p (i.collider p.names.collider1) (i.collider p.names.collider2) h

updates_alike : (place : Bool) (i : Inputs) (ps : List Pair) → Each (FeaturesNamed i) ps → map (updated (matching_by place i)) ps ≡ map (updated i) ps
updates_alike place i [] h = refl
updates_alike place i (p ∷ ps) h = λ j. features_named_update place i p (each_first (FeaturesNamed i) p ps h) j ∷ updates_alike place i ps (each_rest (FeaturesNamed i) p ps h) j

pub features_named_step : (place : Bool) (i : Inputs) (g : Graph) → Each (FeaturesNamed i) g.pairs → plain_step (matching_by place i) g ≡ plain_step i g
unfolding plain_step
features_named_step place i g h =
    ap (λ (us : List Updated).
    let g' : Graph = record { capacity = g.capacity; given = g.given; free = g.free; pairs = map (λ (u : Updated). u.pair) us } in
    let s = visit_all (record { graph = g'; events = []; changes = [] }) (standing_bits 0 g.capacity us) in
    let r : StepResult = record { graph = s.graph; events = s.events; changes = s.changes; max_contact_distance = max_contact_distance_of us; recycled = recycled_count us } in
    r) (updates_alike place i g.pairs h)
