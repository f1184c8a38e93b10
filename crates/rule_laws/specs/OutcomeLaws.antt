-- What one pair's update does to a pair's names, edge, marks, number of manifolds and status bit, and nothing of its floats. Assumes nothing.
use Rattle.std.specs.Prelude.{ℕ, ◌≡◌, Bool, cond, not, ◌&&◌, ◌||◌, List, [], ◌∷◌, map, eqb, leb, length, ℤ, pos, ◌-ℤ◌, Option, None, Some}
use Rattle.std.proofs.Math.Path.{refl}
use Rattle.std.proofs.Common.{sym, ap}
use Rattle.std.proofs.Math.Bool.{true, false}
use Rattle.std.proofs.Math.Dec.{eqb-suc-zero}
use Rattle.std.proofs.lemmas.List.{length-map}
use Rattle.math.specs.Constants.{zero_f, tenth}
use Rattle.math.specs.Floats.{◌⊗◌}
use Rattle.rules.specs.Filtering.{is_empty}
use Rattle.rules.specs.Inputs.{Settings, Collider, Body, ProposedManifold, Inputs}
use Rattle.rules.specs.Matching.{feature_rule, match_all}
use Rattle.rules.specs.Records.{Manifold, Cache, Pair}
use Rattle.rules.specs.Recycling.{recycles, recycled_manifold}
use Rattle.rules.specs.Sides.{overlap, interact, Side, side_of}
use Rattle.rules.specs.Surface.{surface_of}
use Rattle.rules.specs.Update as update
use Rattle.rules.specs.Update.{Updated, updated, updated_between, overlapping, renewed, recycled_pair, disjoint, body_of, enabled, matched, change_of, remaining, renewed_flags, status_bit, non_zero}

-- what the status pass and the replay look at
pub record Brief : Type 0 where
  pub touching : Bool
  pub edge : Bool
  pub apart : Bool
  pub started : Bool
  pub stopped : Bool
  pub generating : Bool
  pub begun : Bool
  pub count : ℕ
  pub change : ℤ

abbrev pub brief : Pair → Brief
brief p = record {
  touching = p.flags.touching;
  edge = p.edge.touching;
  apart = p.flags.disjoint_aabb;
  started = p.flags.started_touching;
  stopped = p.flags.stopped_touching;
  generating = p.flags.generate_constraints;
  begun = p.flags.started_generating;
  count = length p.manifolds;
  change = p.count_change;
}

-- found disjoint
abbrev pub parted : Brief → Brief
parted b = record {
  touching = b.touching;
  edge = b.edge;
  apart = true;
  started = b.started;
  stopped = b.stopped;
  generating = b.generating;
  begun = b.begun;
  count = b.count;
  change = b.change;
}

-- renewed: enabled or not, touching now or not, with n manifolds
abbrev pub anew : Brief → Bool → Bool → ℕ → Brief
anew b enabled now n = record {
  touching = now;
  edge = b.edge;
  apart = b.apart;
  started = b.started || (now && not b.touching);
  stopped = b.stopped || (not now && b.touching);
  generating = enabled;
  begun = b.begun || (enabled && not b.generating);
  count = n;
  change = pos n -ℤ pos b.count;
}

abbrev pub anew_bit : Brief → Bool → Bool → ℕ → Bool
anew_bit b enabled now n =
    (enabled && not b.generating) || ((now && not b.touching) || ((not now && b.touching) || non_zero (pos n -ℤ pos b.count)))

pub data Outcome (p : Pair) (u : Updated) : Type 0 where
  skipped : u.pair ≡ p → u.bit ≡ false → Outcome p u
  parts : u.pair.names ≡ p.names → u.pair.edge ≡ p.edge → brief u.pair ≡ parted (brief p) → u.bit ≡ true → Outcome p u
  recycled : u.pair.names ≡ p.names → u.pair.edge ≡ p.edge → brief u.pair ≡ brief p → u.bit ≡ false → Outcome p u
  renews : (enabled now : Bool) (n : ℕ) → now ≡ not (eqb n 0) → u.pair.names ≡ p.names → u.pair.edge ≡ p.edge →
      brief u.pair ≡ anew (brief p) enabled now n → u.bit ≡ anew_bit (brief p) enabled now n → Outcome p u

length_matched : (s : Settings) (olds news : List Manifold) → length (matched s olds news) ≡ length news
unfolding matched
length_matched s olds news = go (s.match_contacts && leb (length news) 4)
  where
    go : (t : Bool) → length (cond t (map (match_all (feature_rule s.by_place) (tenth ⊗ s.length_unit) olds) news) news) ≡ length news
    go true = length-map news (match_all (feature_rule s.by_place) (tenth ⊗ s.length_unit) olds)
    go false = refl

empty_length : (ms : List Manifold) → not (is_empty ms) ≡ not (eqb (length ms) 0)
empty_length [] = refl
empty_length (m ∷ ms) = ap not (sym (eqb-suc-zero (length ms)))

abbrev pub counting : Brief → ℕ → Brief
counting b n = record {
  touching = b.touching;
  edge = b.edge;
  apart = b.apart;
  started = b.started;
  stopped = b.stopped;
  generating = b.generating;
  begun = b.begun;
  count = n;
  change = b.change;
}

module _ (s : Settings) (answer : Bool) (proposal : List ProposedManifold) where
  outcome_renewed : (c1 c2 : Collider) (a b : Side) (p : Pair) → Outcome p (renewed s answer proposal c1 c2 a b p)
  unfolding renewed renewed_flags status_bit change_of
  outcome_renewed c1 c2 a b p =
      let news = remaining s.step_time a b (surface_of s c1 c2 a b p.speculative) p.flags.modify_contacts answer proposal in
      let on = enabled c1 c2 a b in
      renews on (not (is_empty news)) (length news) (empty_length news) refl refl
      (ap (counting (anew (brief p) on (not (is_empty news)) (length news))) (length_matched s p.manifolds news)) refl

  outcome_overlapping : (c1 c2 : Collider) (a b : Side) (p : Pair) (r : Bool) (k : Option Cache) → Outcome p (overlapping s answer proposal c1 c2 a b p r k)
  unfolding overlapping recycled_pair
  outcome_overlapping c1 c2 a b p true (Some k) = recycled refl refl (ap (counting (brief p)) (length-map p.manifolds (recycled_manifold a b k))) refl
  outcome_overlapping c1 c2 a b p true None = outcome_renewed c1 c2 a b p
  outcome_overlapping c1 c2 a b p false k = outcome_renewed c1 c2 a b p

  outcome_between : (body : ℕ → Option Body) (p : Pair) (c1 c2 : Option Collider) → Outcome p (updated_between s body answer proposal p c1 c2)
  unfolding updated_between disjoint
  outcome_between body p None c2 = skipped refl refl
  outcome_between body p (Some c1) None = skipped refl refl
  outcome_between body p (Some c1) (Some c2) =
      go (overlap c1 c2 p.speculative && interact c1 c2) (recycles s p.flags.touching a b p.cache)
    where
      a : Side
      a = side_of c1 (body_of body c1.body)

      b : Side
      b = side_of c2 (body_of body c2.body)

      go : (t r : Bool) → Outcome p (cond t (overlapping s answer proposal c1 c2 a b p r p.cache) (record { pair = disjoint p; way = update.aabbs_disjoint; bit = true; max_contact_distance = zero_f }))
      go true r = outcome_overlapping c1 c2 a b p r p.cache
      go false r = parts refl refl refl refl

-- every update has one of the four outcomes
pub outcome : (i : Inputs) (p : Pair) → Outcome p (updated i p)
unfolding updated
outcome i p =
    outcome_between i.settings (i.hook p.names.id) (i.proposal p.names.id) i.body p (i.collider p.names.collider1) (i.collider p.names.collider2)

pub names_kept : (i : Inputs) (p : Pair) → (updated i p).pair.names ≡ p.names
names_kept i p = go (updated i p) (outcome i p)
  where
    go : (u : Updated) → Outcome p u → u.pair.names ≡ p.names
    go u (skipped e b) = ap (λ (q : Pair). q.names) e
    go u (parts n e f b) = n
    go u (recycled n e f b) = n
    go u (renews enabled now m t n e f b) = n
