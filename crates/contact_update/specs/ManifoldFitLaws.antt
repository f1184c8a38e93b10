-- The manifolds that an update makes, of a proposal or of the old ones: every float is one of 32 bits, and the lists are within the limits. Assumes nothing.
use Rattle.std.specs.Prelude.{◌≡◌, refl, ℕ, suc, ◌+◌, ◌*◌, ◌≤◌, Bool, true, false, cond, not, ◌&&◌, List, [], ◌∷◌, map, ltb, leb, Float, length, get_or}
use Rattle.std.proofs.Common.{arith, ltb-false}
use Rattle.std.proofs.lemmas.List.{length-map}
use Rattle.math.specs.Constants.{tenth}
use Rattle.math.specs.Fit.{FitFloat, FitVec3}
use Rattle.math.specs.FitLaws.{bits_fit, sum_fits, difference_fits, zero3_fits, dot_fits, vector_sum_fits}
use Rattle.math.specs.Floats.{◌⊗◌}
use Rattle.math.specs.declared.vec.Vec3.{Vec3}
use Rattle.rules.specs.Filtering.{moved_anchor, normal_speed_at, moved_point, stays, staying, no_point, prune_point, pruned, filtered, is_empty, without_empty}
use Rattle.rules.specs.Inputs.{Settings, ProposedPoint, ProposedManifold}
use Rattle.rules.specs.Limits.{pair_manifolds}
use Rattle.rules.specs.Matching.{feature_rule, match_all}
use Rattle.rules.specs.Pruning.{kept}
use Rattle.rule_laws.specs.PruningLaws.{kept_four}
use Rattle.rules.specs.Records.{Point, Manifold, Cache}
use Rattle.rules.specs.Recycling.{recycled_point, recycled_manifold}
use Rattle.rules.specs.Sides.{Side}
use Rattle.rules.specs.Surface.{Surface}
use Rattle.rules.specs.Update.{hooked, matched, remaining}
use Rattle.words.specs.Words.{word_at}
use Rattle.words.specs.WordLaws.{vec3_fits}
use Rattle.manifold_records.specs.ListLaws.{length_map_upto}
use Rattle.contact_records.specs.Fit.{FitPoint, FitPoints, FitManifold, FitManifolds}
use Rattle.layout.specs.Proposal.{proposal_count, proposal_manifolds, proposed_manifold_normal, proposed_manifold_points, proposed_manifold_size, proposed_point_size}
use Rattle.proposals.specs.Range.{Proposed}
use Rattle.proposals.specs.Recorded.{proposed_point_at, proposed_points_at, proposed_manifold_at, proposal_at}
use Rattle.manifold_matching.specs.MatchedFitLaws.{Each, each_none, each_and, each_first, each_rest, each_at, each_upto, each_map, points_mapped, all_matched}

-- ---- lists, by index. Past the end is whatever the caller says
pub each_cond : {A : Type 0} (P : A → Type 0) (t : Bool) (xs ys : List A) → Each P xs → Each P ys → Each P (cond t xs ys)
each_cond P true xs ys h g = h
each_cond P false xs ys h g = g

-- ---- a change of each
pub manifolds_mapped : (f : Manifold → Manifold) → ((m : Manifold) → FitManifold m → FitManifold (f m)) → (ms : List Manifold) → FitManifolds ms → FitManifolds (map f ms)
manifolds_mapped f g ms h = record { few = rw (length-map ms f) h.few; each = each_map FitManifold FitManifold f g ms h.each }

-- ---- what is proposed
-- a proposed point's place is stored as it is, and a manifold's normal
abbrev pub PointFits : ProposedPoint → Type 0
PointFits p = FitVec3 p.point

pub record FitProposed (m : ProposedManifold) : Type 0 where
  pub normal : FitVec3 m.normal
  pub points : Each PointFits m.points

proposed_read : (xs : List ℕ) (at : ℕ) → FitProposed (proposed_manifold_at xs at)
unfolding proposed_manifold_at proposed_points_at proposed_point_at
proposed_read xs at =
    let from : ℕ → ℕ = λ k. at + proposed_manifold_points + k * proposed_point_size in
    record {
      normal = vec3_fits xs (at + proposed_manifold_normal);
      points = each_upto PointFits (λ k. proposed_point_at xs (from k)) (word_at xs at) (λ k l. vec3_fits xs (from k + 6));
    }

pub record FitProposal (ms : List ProposedManifold) : Type 0 where
  pub few : length ms ≤ pair_manifolds
  pub each : Each FitProposed ms

pub proposal_read : (xs : List ℕ) → Proposed xs 0 → FitProposal (proposal_at xs 0)
unfolding proposal_at
proposal_read xs h =
    let from : ℕ → ℕ = λ k. proposal_manifolds + k * proposed_manifold_size in
    let f : ℕ → ProposedManifold = λ k. proposed_manifold_at xs (from k) in
    let n = word_at xs proposal_count in
    record { few = rw (length_map_upto f n) h.manifolds; each = each_upto FitProposed f n (λ k l. proposed_read xs (from k)) }

-- ---- rule 9
-- what a surface gives to a manifold
pub record FitSurface (f : Surface) : Type 0 where
  pub friction : FitFloat f.friction
  pub restitution : FitFloat f.restitution

moved_fits : (a b : Side) (margins : Float) (normal : Vec3) (p : ProposedPoint) → PointFits p → FitPoint (moved_point a b margins normal p)
unfolding moved_point moved_anchor normal_speed_at
moved_fits a b margins normal p h =
    record {
      anchor1 = vector_sum_fits p.anchor1 _;
      anchor2 = vector_sum_fits p.anchor2 _;
      point = h;
      penetration = sum_fits p.penetration margins;
      base_penetration = sum_fits p.penetration margins;
      normal_impulse = bits_fit 0;
      normal_speed = dot_fits _ normal;
      warm_start_normal = bits_fit 0;
      warm_start_tangent1 = bits_fit 0;
      warm_start_tangent2 = bits_fit 0;
    }

pub staying_each : (P : Point → Type 0) (step_time distance : Float) (ps : List Point) → Each P ps → Each P (staying step_time distance ps)
unfolding staying
staying_each P step_time distance [] h = each_none P
staying_each P step_time distance (p ∷ ps) h =
    let r = staying_each P step_time distance ps (each_rest P p ps h) in
    each_cond P (stays step_time distance p) (p ∷ staying step_time distance ps) (staying step_time distance ps)
    (each_and P p (staying step_time distance ps) (each_first P p ps h) r) r

none_fits : FitPoint no_point
none_fits =
    record {
      anchor1 = zero3_fits;
      anchor2 = zero3_fits;
      point = zero3_fits;
      penetration = bits_fit 0;
      base_penetration = bits_fit 0;
      normal_impulse = bits_fit 0;
      normal_speed = bits_fit 0;
      warm_start_normal = bits_fit 0;
      warm_start_tangent1 = bits_fit 0;
      warm_start_tangent2 = bits_fit 0;
    }

pruned_fits : (normal : Vec3) (ps : List Point) → Each FitPoint ps → FitPoints (pruned normal ps)
unfolding pruned
pruned_fits normal ps h = go (ltb 4 (length ps)) refl
  where
    is : List ℕ
    is = kept normal (length ps) (λ k. prune_point (get_or ps k no_point))

    go : (t : Bool) → ltb 4 (length ps) ≡ t → FitPoints (cond t (map (λ i. get_or ps i no_point) (kept normal (length ps) (λ k. prune_point (get_or ps k no_point)))) ps)
    go true e =
        record {
          few = rw (length-map is (λ i. get_or ps i no_point)) (kept_four normal (length ps) (λ k. prune_point (get_or ps k no_point)));
          each = each_map (λ i. Unit {0}) FitPoint (λ i. get_or ps i no_point) (λ i u. each_at FitPoint ps i no_point h none_fits) is (λ k d l. tt);
        }
    go false e = record { few = ltb-false 4 (length ps) e; each = h }

filtered_fits : (step_time : Float) (a b : Side) (f : Surface) (m : ProposedManifold) → FitSurface f → FitProposed m → FitManifold (filtered step_time a b f m)
unfolding filtered
filtered_fits step_time a b f m hf hm =
    record {
      points =
          pruned_fits m.normal _
          (staying_each FitPoint step_time f.effective_speculative _
          (each_map PointFits FitPoint (moved_point a b f.margins m.normal) (moved_fits a b f.margins m.normal) m.points hm.points));
      normal = hm.normal;
      friction = hf.friction;
      restitution = hf.restitution;
      tangent_velocity = zero3_fits;
    }

non_empty_few : (ms : List Manifold) → length (without_empty ms) ≤ length ms
unfolding without_empty
non_empty_few [] = omega arith
non_empty_few (m ∷ ms) = go (is_empty m.points) (non_empty_few ms)
  where
    go : (t : Bool) → length (without_empty ms) ≤ length ms → length (cond t (without_empty ms) (m ∷ without_empty ms)) ≤ suc (length ms)
    go true h = omega arith
    go false h = omega arith

pub non_empty_each : (P : Manifold → Type 0) (ms : List Manifold) → Each P ms → Each P (without_empty ms)
unfolding without_empty
non_empty_each P [] h = h
non_empty_each P (m ∷ ms) h =
    let r = non_empty_each P ms (each_rest P m ms h) in
    each_cond P (is_empty m.points) (without_empty ms) (m ∷ without_empty ms) r (each_and P m (without_empty ms) (each_first P m ms h) r)

-- ---- rule 10
hooked_fits : (modify answer : Bool) (ms : List Manifold) → FitManifolds ms → FitManifolds (hooked modify answer ms)
unfolding hooked
hooked_fits modify answer ms h = go (modify && not answer)
  where
    go : (t : Bool) → FitManifolds (cond t [] ms)
    go true = record { few = omega arith; each = each_none FitManifold }
    go false = h

pub remaining_fits : (step_time : Float) (a b : Side) (f : Surface) (modify answer : Bool) (proposal : List ProposedManifold) → FitSurface f → FitProposal proposal
    → FitManifolds (remaining step_time a b f modify answer proposal)
unfolding remaining
remaining_fits step_time a b f modify answer proposal hf hp =
    let ms : List Manifold = map (filtered step_time a b f) proposal in
    let n : length ms ≡ length proposal = length-map proposal (filtered step_time a b f) in
    hooked_fits modify answer (without_empty ms)
    (record {
      few = omega (arith, non_empty_few ms, hp.few);
      each = non_empty_each FitManifold ms (each_map FitProposed FitManifold (filtered step_time a b f) (λ m h. filtered_fits step_time a b f m hf h) proposal hp.each);
    })

-- ---- rule 11
pub matched_fits : (s : Settings) (olds news : List Manifold) → FitManifolds olds → FitManifolds news → FitManifolds (matched s olds news)
unfolding matched
matched_fits s olds news h n = go (s.match_contacts && leb (length news) 4)
  where
    go : (t : Bool) → FitManifolds (cond t (map (match_all (feature_rule s.by_place) (tenth ⊗ s.length_unit) olds) news) news)
    go true = manifolds_mapped (match_all (feature_rule s.by_place) (tenth ⊗ s.length_unit) olds) (λ m. all_matched (feature_rule s.by_place) (tenth ⊗ s.length_unit) olds m h.each) news n
    go false = n

-- ---- rule 5
recycled_point_fits : (a b : Side) (k : Cache) (normal : Vec3) (p : Point) → FitPoint p → FitPoint (recycled_point a b k normal p)
unfolding recycled_point
recycled_point_fits a b k normal p h =
    record {
      anchor1 = h.anchor1;
      anchor2 = h.anchor2;
      point = h.point;
      penetration = difference_fits p.base_penetration _;
      base_penetration = h.base_penetration;
      normal_impulse = h.normal_impulse;
      normal_speed = h.normal_speed;
      warm_start_normal = h.warm_start_normal;
      warm_start_tangent1 = h.warm_start_tangent1;
      warm_start_tangent2 = h.warm_start_tangent2;
    }

pub recycled_manifold_fits : (a b : Side) (k : Cache) (m : Manifold) → FitManifold m → FitManifold (recycled_manifold a b k m)
unfolding recycled_manifold
recycled_manifold_fits a b k m h =
    record {
      points = points_mapped (recycled_point a b k m.normal) (recycled_point_fits a b k m.normal) m.points h.points;
      normal = h.normal;
      friction = h.friction;
      restitution = h.restitution;
      tangent_velocity = h.tangent_velocity;
    }
