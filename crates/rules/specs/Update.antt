-- One pair's update, rules 1 to 12 of the specification, on plain values. Definitions only.
use Rattle.std.specs.Prelude.{ℕ, zero, suc, Bool, true, false, cond, not, ◌&&◌, ◌||◌, List, [], map, leb, ℤ, pos, negsuc, ◌-ℤ◌, Float, length, Option, None, Some}
use Rattle.math.specs.Constants.{zero_f, tenth}
use Rattle.math.specs.Floats.{◌⊕◌, ◌⊗◌}
use Rattle.math.specs.Pose.{relative}
use Rattle.rules.specs.Filtering.{filtered, is_empty, without_empty}
use Rattle.rules.specs.Inputs.{Settings, Collider, Body, ProposedManifold, Inputs}
use Rattle.rules.specs.Matching.{feature_rule, match_all}
use Rattle.rules.specs.Records.{Manifold, Cache, PairFlags, Pair}
use Rattle.rules.specs.Recycling.{recycles, recycled_manifold}
use Rattle.rules.specs.Sides.{overlap, interact, Side, side_of}
use Rattle.rules.specs.Surface.{Surface, surface_of}

-- which way an update went: ended by rule 1, by rule 2 (layers that don't interact count with it), by rule 5, or made in full
pub data Way : Type 0 where
  skipped : Way
  aabbs_disjoint : Way
  recycled : Way
  full : Way

abbrev pub is_recycled : Way → Bool
is_recycled skipped = false
is_recycled aabbs_disjoint = false
is_recycled recycled = true
is_recycled full = false

-- the pair, the way it went, its status bit, and the reported contact distance: +0 where rule 8 was not reached
pub record Updated : Type 0 where
  pub pair : Pair
  pub way : Way
  pub bit : Bool
  pub max_contact_distance : Float

-- the body that a collider names
abbrev pub body_of : (ℕ → Option Body) → Option ℕ → Option Body
body_of body None = None
body_of body (Some n) = body n

-- rule 2: only the speculative distance and the mark change
abbrev pub disjoint_flags : PairFlags → PairFlags
disjoint_flags f =
    record {
      touching = f.touching;
      disjoint_aabb = true;
      started_touching = f.started_touching;
      stopped_touching = f.stopped_touching;
      generate_constraints = f.generate_constraints;
      started_generating = f.started_generating;
      static1 = f.static1;
      static2 = f.static2;
      modify_contacts = f.modify_contacts;
    }

unfoldable pub disjoint : Pair → Pair
disjoint p =
    record {
      names = p.names;
      edge = p.edge;
      flags = disjoint_flags p.flags;
      manifolds = p.manifolds;
      count_change = p.count_change;
      speculative = zero_f;
      cache = p.cache;
    }

-- rule 5: penetrations, and what rules 2 and 3 set
abbrev pub static_flags : PairFlags → Bool → Bool → PairFlags
static_flags f s1 s2 =
    record {
      touching = f.touching;
      disjoint_aabb = f.disjoint_aabb;
      started_touching = f.started_touching;
      stopped_touching = f.stopped_touching;
      generate_constraints = f.generate_constraints;
      started_generating = f.started_generating;
      static1 = s1;
      static2 = s2;
      modify_contacts = f.modify_contacts;
    }

unfoldable pub recycled_pair : Side → Side → Cache → Pair → Pair
recycled_pair a b k p =
    record {
      names = p.names;
      edge = p.edge;
      flags = static_flags p.flags a.is_static b.is_static;
      manifolds = map (recycled_manifold a b k) p.manifolds;
      count_change = p.count_change;
      speculative = zero_f;
      cache = p.cache;
    }

-- rule 6: the cache is renewed, and a pair is disabled when a body is absent or a collider is a sensor
abbrev pub cache_of : Side → Side → Cache
cache_of a b =
    record {
      rotation1 = a.pose.rotation;
      rotation2 = b.pose.rotation;
      relative_translation = (relative a.pose b.pose).position;
      relative_rotation = (relative a.pose b.pose).rotation;
    }

unfoldable pub enabled : Collider → Collider → Side → Side → Bool
enabled c1 c2 a b = (a.present && b.present) && (not c1.sensor && not c2.sensor)

-- rule 10: a marked pair whose hook says no loses all manifolds
unfoldable pub hooked : Bool → Bool → List Manifold → List Manifold
hooked modify answer ms = cond (modify && not answer) [] ms

-- rule 11: with matching on and at most 4 manifolds, each new manifold against every old one in turn, threshold 0.1 × length unit, by the rule of the matching setting
unfoldable pub matched : Settings → List Manifold → List Manifold → List Manifold
matched s olds news = cond (s.match_contacts && leb (length news) 4) (map (match_all (feature_rule s.by_place) (tenth ⊗ s.length_unit) olds) news) news

-- rule 12: new count minus old
unfoldable pub change_of : List Manifold → List Manifold → ℤ
change_of olds news = pos (length news) -ℤ pos (length olds)

abbrev pub non_zero : ℤ → Bool
non_zero (pos zero) = false
non_zero (pos (suc n)) = true
non_zero (negsuc n) = true

-- rules 9 and 10: the manifolds that remain
unfoldable pub remaining : Float → Side → Side → Surface → Bool → Bool → List ProposedManifold → List Manifold
remaining step_time a b f modify answer proposal = hooked modify answer (without_empty (map (filtered step_time a b f) proposal))

-- Rules 3, 6, 10 and 12: TOUCHING, GENERATE_CONSTRAINTS, STATIC1 and STATIC2 are overwritten; the STARTED and STOPPED marks are set, never cleared; the rest stay.
unfoldable pub renewed_flags : PairFlags → Bool → Bool → Bool → Bool → PairFlags
renewed_flags f s1 s2 on touching =
    record {
      touching = touching;
      disjoint_aabb = f.disjoint_aabb;
      started_touching = f.started_touching || (touching && not f.touching);
      stopped_touching = f.stopped_touching || (not touching && f.touching);
      generate_constraints = on;
      started_generating = f.started_generating || (on && not f.generate_constraints);
      static1 = s1;
      static2 = s2;
      modify_contacts = f.modify_contacts;
    }

-- A start of generating, a start or stop of touching, or a count change other than 0.
unfoldable pub status_bit : PairFlags → Bool → Bool → ℤ → Bool
status_bit f on touching change =
    (on && not f.generate_constraints) || ((touching && not f.touching) || ((not touching && f.touching) || non_zero change))

-- a full update: rules 6 to 12
unfoldable pub renewed : Settings → Bool → List ProposedManifold → Collider → Collider → Side → Side → Pair → Updated
renewed s answer proposal c1 c2 a b p =
    let f = surface_of s c1 c2 a b p.speculative in
    let on = enabled c1 c2 a b in
    let news = remaining s.step_time a b f p.flags.modify_contacts answer proposal in
    let touching = not (is_empty news) in
    let change = change_of p.manifolds news in
    let q : Pair = record {
      names = p.names;
      edge = p.edge;
      flags = renewed_flags p.flags a.is_static b.is_static on touching;
      manifolds = matched s p.manifolds news;
      count_change = change;
      speculative = zero_f;
      cache = Some (cache_of a b);
    } in
    record { pair = q; way = full; bit = status_bit p.flags on touching change; max_contact_distance = f.margins ⊕ f.effective_speculative }

-- Rules 4 to 12, once the boxes overlap and the layers interact: whether the pair is recycled, and its cache.
-- A recycled pair has a cache; with no cache, recycling is abandoned (rule 4).
unfoldable pub overlapping : Settings → Bool → List ProposedManifold → Collider → Collider → Side → Side → Pair → Bool → Option Cache → Updated
overlapping s answer proposal c1 c2 a b p true (Some k) = record { pair = recycled_pair a b k p; way = recycled; bit = false; max_contact_distance = zero_f }
overlapping s answer proposal c1 c2 a b p true None = renewed s answer proposal c1 c2 a b p
overlapping s answer proposal c1 c2 a b p false k = renewed s answer proposal c1 c2 a b p

-- Rules 1 to 12, from the settings, the bodies, the hook's answer, the proposal, the pair and its two colliders.
-- Rule 1: either collider absent, and the pair is skipped, nothing in it changes.
unfoldable pub updated_between : Settings → (ℕ → Option Body) → Bool → List ProposedManifold → Pair → Option Collider → Option Collider → Updated
updated_between s body answer proposal p None c2 = record { pair = p; way = skipped; bit = false; max_contact_distance = zero_f }
updated_between s body answer proposal p (Some c1) None = record { pair = p; way = skipped; bit = false; max_contact_distance = zero_f }
updated_between s body answer proposal p (Some c1) (Some c2) =
    let a = side_of c1 (body_of body c1.body) in
    let b = side_of c2 (body_of body c2.body) in
    cond (overlap c1 c2 p.speculative && interact c1 c2)
    (overlapping s answer proposal c1 c2 a b p (recycles s p.flags.touching a b p.cache) p.cache)
    (record { pair = disjoint p; way = aabbs_disjoint; bit = true; max_contact_distance = zero_f })

-- what a step's inputs make of a pair
unfoldable pub updated : Inputs → Pair → Updated
updated i p =
    updated_between i.settings i.body (i.hook p.names.id) (i.proposal p.names.id) p (i.collider p.names.collider1) (i.collider p.names.collider2)
