-- What one pair's update stores: every float and the count change are values that 32 bits hold, and the lists are within the limits. Assumes nothing.
use Rattle.std.specs.Prelude.{◌≡◌, ℕ, ◌+◌, ◌*◌, Bool, cond, ◌&&◌, List, eqb, Float, length, Option, None, Some}
use Rattle.std.proofs.Common.{subst, SFits}
use Rattle.std.proofs.Math.Bool.{true, false}
use Rattle.std.specs.Int.{w32}
use Rattle.math.specs.Constants.{half}
use Rattle.math.specs.Fit.{FitFloat, FitQuat}
use Rattle.math.specs.FitLaws.{bits_fit, product_fits, cond_fit, maximum_fits, minimum_fits, root_fits, identity_fits, relative_position_fits, relative_rotation_fits}
use Rattle.math.specs.Floats.{◌⊕◌, ◌⊗◌}
use Rattle.rules.specs.Inputs.{Coefficient, Settings, Collider, Body, ProposedManifold}
use Rattle.rules.specs.Records.{Manifold, Cache, Pair}
use Rattle.rules.specs.Recycling.{recycles, recycled_manifold}
use Rattle.rules.specs.Sides.{overlap, interact, Side, side_of}
use Rattle.rules.specs.Surface.{or_else, first_given, ruled, combine, friction_of, restitution_of, surface_of}
use Rattle.rules.specs.Update.{Updated, body_of, disjoint, recycled_pair, cache_of, change_of, renewed, overlapping, updated_between}
use Rattle.words.specs.Words.{word_at, mark_at, if_marked}
use Rattle.words.specs.WordLaws.{read_fits, quat_fits}
use Rattle.layout.specs.Body.{body_friction, body_position, body_size}
use Rattle.layout.specs.Collider.{collider_friction, collider_restitution, collider_size}
use Rattle.layout.specs.Contact.{contact_manifolds}
use Rattle.layout.specs.Settings.{settings_friction, settings_restitution}
use Rattle.collider.specs.Recorded.{coefficient_at, coefficient_if_at, settings_of, present_collider, collider_at, present_body, body_at}
use Rattle.manifold_records.specs.Counts.{Counted}
use Rattle.contact_records.specs.Fit.{FitManifolds, FitCache, FitCached, FitPair}
use Rattle.contact_records.proofs.FitLaws.{pair_fits}
use Rattle.contact_records.specs.Recorded.{pair_at}
use Rattle.proposals.specs.Range.{Proposed}
use Rattle.proposals.specs.Recorded.{proposal_at, hook_at}
use Rattle.contact_update.specs.After.{record_updated}
use Rattle.contact_parameters.specs.ChangeLaws.{change_fit}
use Rattle.contact_update.specs.ManifoldFitLaws.{FitSurface, FitProposal, proposal_read, remaining_fits, matched_fits, manifolds_mapped, recycled_manifold_fits}

-- ---- settings, colliders and bodies
pub record FitSettings (s : Settings) : Type 0 where
  pub friction : FitFloat s.default_friction.value
  pub restitution : FitFloat s.default_restitution.value

-- of the rest only this is stored: coefficients, where they are given, and the bodies' rotations
abbrev FitGiven : Option Coefficient → Type 0
FitGiven None = Unit {0}
FitGiven (Some c) = FitFloat c.value

record FitCollider (c : Collider) : Type 0 where
  friction : FitGiven c.friction
  restitution : FitGiven c.restitution

record FitBody (b : Body) : Type 0 where
  friction : FitGiven b.friction
  rotation : FitQuat b.pose.rotation

abbrev ColliderFits : Option Collider → Type 0
ColliderFits None = Unit {0}
ColliderFits (Some c) = FitCollider c

abbrev BodyFits : Option Body → Type 0
BodyFits None = Unit {0}
BodyFits (Some b) = FitBody b

record FitSide (a : Side) : Type 0 where
  friction : FitGiven a.friction
  rotation : FitQuat a.pose.rotation

side_fits : (c : Collider) (o : Option Body) → BodyFits o → FitSide (side_of c o)
unfolding side_of
side_fits c None h = record { friction = tt; rotation = identity_fits }
side_fits c (Some b) h = record { friction = h.friction; rotation = h.rotation }

body_of_fits : (body : ℕ → Option Body) → ((n : ℕ) → BodyFits (body n)) → (o : Option ℕ) → BodyFits (body_of body o)
body_of_fits body h None = tt
body_of_fits body h (Some n) = h n

-- as words record them
pub settings_fit_read : (xs : List ℕ) → FitSettings (settings_of xs)
unfolding settings_of
settings_fit_read xs = record { friction = read_fits xs settings_friction; restitution = read_fits xs settings_restitution }

module _ (xs : List ℕ) where
  given_read : (at : ℕ) → FitGiven (coefficient_if_at xs at)
  unfolding if_marked
  given_read at = go (mark_at xs at)
    where
      go : (t : Bool) → FitGiven (cond t (Some (coefficient_at xs (at + 1))) None)
      go true = read_fits xs (at + 1)
      go false = tt

  collider_read : (n : ℕ) → ColliderFits (collider_at xs n)
  unfolding collider_at present_collider
  collider_read n = go (mark_at xs (n * collider_size))
    where
      go : (t : Bool) → ColliderFits (cond t (Some (present_collider xs (n * collider_size))) None)
      go true = let at = n * collider_size in record { friction = given_read (at + collider_friction); restitution = given_read (at + collider_restitution) }
      go false = tt

  body_read : (n : ℕ) → BodyFits (body_at xs n)
  unfolding body_at present_body
  body_read n = go (mark_at xs (n * body_size))
    where
      go : (t : Bool) → BodyFits (cond t (Some (present_body xs (n * body_size))) None)
      go true = let at = n * body_size in record { friction = given_read (at + body_friction); rotation = quat_fits xs (at + body_position + 3) }
      go false = tt

-- ---- rule 7
first_given_fits : (o p : Option Coefficient) → FitGiven o → FitGiven p → FitGiven (first_given o p)
first_given_fits None p h k = k
first_given_fits (Some a) p h k = h

else_fits : (o : Option Coefficient) (d : Coefficient) → FitGiven o → FitFloat d.value → FitFloat (or_else o d).value
else_fits None d h k = k
else_fits (Some a) d h k = h

ruled_fits : (n : ℕ) (a b : Float) → FitFloat a → FitFloat b → FitFloat (ruled n a b)
unfolding ruled
ruled_fits n a b h k =
    cond_fit (eqb n 1) _ _ (product_fits (a ⊕ b) half)
    (cond_fit (eqb n 2) _ _ (root_fits (a ⊗ b) (product_fits a b))
    (cond_fit (eqb n 3) _ _ (minimum_fits a b h k)
    (cond_fit (eqb n 4) _ _ (product_fits a b) (maximum_fits a b h k))))

combine_fits : (a b : Coefficient) → FitFloat a.value → FitFloat b.value → FitFloat (combine a b)
unfolding combine
combine_fits a b h k = ruled_fits _ a.value b.value h k

friction_fits : (s : Settings) (c : Collider) (a : Side) → FitSettings s → FitCollider c → FitSide a → FitFloat (friction_of s c a).value
unfolding friction_of
friction_fits s c a hs hc ha =
    else_fits (first_given c.friction a.friction) s.default_friction (first_given_fits c.friction a.friction hc.friction ha.friction) hs.friction

restitution_fits : (s : Settings) (c : Collider) → FitSettings s → FitCollider c → FitFloat (restitution_of s c).value
unfolding restitution_of
restitution_fits s c hs hc = else_fits c.restitution s.default_restitution hc.restitution hs.restitution

surface_fits : (s : Settings) (c1 c2 : Collider) (a b : Side) (given : Float) → FitSettings s → FitCollider c1 → FitCollider c2 → FitSide a → FitSide b
    → FitSurface (surface_of s c1 c2 a b given)
unfolding surface_of
surface_fits s c1 c2 a b given hs h1 h2 ha hb =
    record {
      friction = combine_fits (friction_of s c1 a) (friction_of s c2 b) (friction_fits s c1 a hs h1 ha) (friction_fits s c2 b hs h2 hb);
      restitution = combine_fits (restitution_of s c1) (restitution_of s c2) (restitution_fits s c1 hs h1) (restitution_fits s c2 hs h2);
    }

-- ---- rule 6
cache_of_fits : (a b : Side) → FitSide a → FitSide b → FitCached (Some (cache_of a b))
cache_of_fits a b ha hb = record { each = λ c e. subst FitCache (let q : cache_of a b ≡ c = cc in q) here }
  where
    here : FitCache (cache_of a b)
    here =
        record {
          rotation1 = ha.rotation;
          rotation2 = hb.rotation;
          relative_translation = relative_position_fits a.pose b.pose;
          relative_rotation = relative_rotation_fits a.pose b.pose;
        }

-- ---- rule 12: both counts are at most 6
change_fits : (olds news : List Manifold) → FitManifolds olds → FitManifolds news → SFits w32 (change_of olds news)
unfolding change_of
change_fits olds news h n = change_fit (length news) (length olds) n.few h.few

-- ---- each way
recycled_fits : (a b : Side) (k : Cache) (p : Pair) → FitPair p → FitPair (recycled_pair a b k p)
unfolding recycled_pair
recycled_fits a b k p h =
    record {
      manifolds = manifolds_mapped (recycled_manifold a b k) (recycled_manifold_fits a b k) p.manifolds h.manifolds;
      count_change = h.count_change;
      speculative = bits_fit 0;
      cache = h.cache;
    }

disjoint_fits : (p : Pair) → FitPair p → FitPair (disjoint p)
unfolding disjoint
disjoint_fits p h = record { manifolds = h.manifolds; count_change = h.count_change; speculative = bits_fit 0; cache = h.cache }

either_way : (t : Bool) (u v : Updated) → FitPair u.pair → FitPair v.pair → FitPair (cond t u v).pair
either_way true u v h k = h
either_way false u v h k = k

module _ (s : Settings) (answer : Bool) (proposal : List ProposedManifold) (hs : FitSettings s) (hp : FitProposal proposal) where
  module _ (c1 c2 : Collider) (a b : Side) (p : Pair) (h1 : FitCollider c1) (h2 : FitCollider c2) (ha : FitSide a) (hb : FitSide b) (h : FitPair p) where
    renewed_fits : FitPair (renewed s answer proposal c1 c2 a b p).pair
    unfolding renewed
    renewed_fits =
        let f = surface_of s c1 c2 a b p.speculative in
        let n = remaining_fits s.step_time a b f p.flags.modify_contacts answer proposal (surface_fits s c1 c2 a b p.speculative hs h1 h2 ha hb) hp in
        record {
          manifolds = matched_fits s p.manifolds _ h.manifolds n;
          count_change = change_fits p.manifolds _ h.manifolds n;
          speculative = bits_fit 0;
          cache = cache_of_fits a b ha hb;
        }

    overlapping_fits : (t : Bool) (o : Option Cache) → FitPair (overlapping s answer proposal c1 c2 a b p t o).pair
    unfolding overlapping
    overlapping_fits true (Some k) = recycled_fits a b k p h
    overlapping_fits true None = renewed_fits
    overlapping_fits false o = renewed_fits

  between_fits : (body : ℕ → Option Body) (p : Pair) (o1 o2 : Option Collider) → ((n : ℕ) → BodyFits (body n)) → FitPair p → ColliderFits o1 → ColliderFits o2
      → FitPair (updated_between s body answer proposal p o1 o2).pair
  unfolding updated_between
  between_fits body p None o2 hb h h1 h2 = h
  between_fits body p (Some c1) None hb h h1 h2 = h
  between_fits body p (Some c1) (Some c2) hb h h1 h2 =
      let a = side_of c1 (body_of body c1.body) in
      let b = side_of c2 (body_of body c2.body) in
      let fa : FitSide a = side_fits c1 (body_of body c1.body) (body_of_fits body hb c1.body) in
      let fb : FitSide b = side_fits c2 (body_of body c2.body) (body_of_fits body hb c2.body) in
      either_way (overlap c1 c2 p.speculative && interact c1 c2) _ _
      (overlapping_fits c1 c2 a b p h1 h2 fa fb h (recycles s p.flags.touching a b p.cache) p.cache) (disjoint_fits p h)

-- ---- a record's update
pub update_fits : (s : Settings) (colliders bodies proposal : List ℕ) (id : ℕ) (w : List ℕ) → FitSettings s → Proposed proposal 0 → Counted w contact_manifolds
    → FitPair (record_updated s colliders bodies proposal id w).pair
unfolding record_updated
update_fits s colliders bodies proposal id w hs hp hc =
    between_fits s (hook_at proposal 0) (proposal_at proposal 0) hs (proposal_read proposal hp) (body_at bodies) (pair_at w 0 id)
    (collider_at colliders (word_at w 0)) (collider_at colliders (word_at w 1))
    (body_read bodies) (pair_fits w 0 id hc) (collider_read colliders (word_at w 0)) (collider_read colliders (word_at w 1))
