-- Laws of one pair's update, and of one contact's in the graph. Assumes nothing.
use Rattle.std.specs.Prelude.{◌≡◌, ℕ, Bool, ◌&&◌, List, Option, None, Some}
use Rattle.std.proofs.Math.Path.{refl, sym, ap}
use Rattle.std.proofs.Common.{◌∙◌}
use Rattle.std.proofs.Math.Bool.{true, false, cond}
use Rattle.math.specs.Constants.{zero_f}
use Rattle.rows.specs.Rows.{part}
use Rattle.rules.specs.Inputs.{Coefficient, Settings, Collider, Body, ProposedManifold}
use Rattle.rules.specs.Records.{Cache, Pair}
use Rattle.rules.specs.Recycling.{recycles}
use Rattle.rules.specs.Sides.{Side, overlap, interact, side_of}
use Rattle.rules.specs.Surface.{friction_of, restitution_of}
use Rattle.rules.specs.Update.{aabbs_disjoint, full, is_recycled, Updated, body_of, disjoint, renewed, overlapping, updated_between}
use Rattle.contact_records.specs.Fit.{FitPair}
use Rattle.layout.specs.Contact.{contact_size}
use Rattle.contact_range.specs.Checked.{Checked}
use Rattle.contact_range.specs.RangeLaws.{standing_fits}
use Rattle.contact_range.specs.Recorded.{contact_at, graph_of}
use Rattle.contact_update.specs.After.{proposal_of, record_updated, graph_after, inputs_of}
use Rattle.contact_update.specs.Contact.{ContactReady, update_of}
use Rattle.contact_update.specs.GraphLaws.{record_of, record_fitting, record_updated_lem, update_in_range, update_graph}
use Rattle.contact_update.specs.Plain.{plain_update}
use Rattle.contact_update.specs.RecordReadLaws.{counted_of}
use Rattle.contact_update.specs.UpdateFitLaws.{FitSettings, update_fits}

-- ---- rule 7: friction falls back to the body, restitution does not
pub friction_falls_back : (s : Settings) (c : Collider) (a : Side) (f : Coefficient) → c.friction ≡ None → a.friction ≡ Some f → friction_of s c a ≡ f
unfolding friction_of
friction_falls_back s c a f e g = rw (e, g)

pub restitution_does_not : (s : Settings) (c : Collider) → c.restitution ≡ None → restitution_of s c ≡ s.default_restitution
unfolding restitution_of
restitution_does_not s c e = rw e

-- ---- the way
-- the reported distance is +0 unless rule 8 was reached
abbrev pub EndedEarly : Updated → Type 0
EndedEarly u = (u.way ≡ full → ⊥) → u.max_contact_distance ≡ zero_f

module _ (s : Settings) (answer : Bool) (proposal : List ProposedManifold) where
  overlapping_distance : (c1 c2 : Collider) (a b : Side) (p : Pair) (t : Bool) (k : Option Cache) → EndedEarly (overlapping s answer proposal c1 c2 a b p t k)
  unfolding overlapping renewed
  overlapping_distance c1 c2 a b p true None n = absurd (n refl)
  overlapping_distance c1 c2 a b p true (Some k) n = refl
  overlapping_distance c1 c2 a b p false k n = absurd (n refl)

  pub distance_zero : (body : ℕ → Option Body) (p : Pair) (o q : Option Collider) → EndedEarly (updated_between s body answer proposal p o q)
  unfolding updated_between
  distance_zero body p None q n = refl
  distance_zero body p (Some c1) None n = refl
  distance_zero body p (Some c1) (Some c2) n = go (overlap c1 c2 p.speculative && interact c1 c2) n
    where
      go : (t : Bool) → EndedEarly (cond t
          (overlapping s answer proposal c1 c2 (side_of c1 (body_of body c1.body)) (side_of c2 (body_of body c2.body)) p
          (recycles s p.flags.touching (side_of c1 (body_of body c1.body)) (side_of c2 (body_of body c2.body)) p.cache) p.cache)
          (record { pair = disjoint p; way = aabbs_disjoint; bit = true; max_contact_distance = zero_f }))
      go true n = overlapping_distance c1 c2 _ _ p _ p.cache n
      go false n = refl

-- ---- the count of recycled pairs
abbrev pub counted : Updated → ℕ
counted u = cond (is_recycled u.way) 1 0

module _ (s : Settings) (answer : Bool) (proposal : List ProposedManifold) (c1 c2 : Collider) (p : Pair) where
  overlapping_counted : (a b : Side) (touching : Bool) (k : Option Cache)
      → counted (overlapping s answer proposal c1 c2 a b p (recycles s touching a b k) k) ≡ cond (recycles s touching a b k) 1 0
  unfolding overlapping renewed recycles
  overlapping_counted a b touching None = refl
  overlapping_counted a b touching (Some k) = go (recycles s touching a b (Some k))
    where
      go : (t : Bool) → counted (overlapping s answer proposal c1 c2 a b p t (Some k)) ≡ cond t 1 0
      go true = refl
      go false = refl

  module _ (body : ℕ → Option Body) where
    -- a pair that goes on to rule 4 counts once where that recycles it
    pub counts_once : overlap c1 c2 p.speculative && interact c1 c2 ≡ true
        → counted (updated_between s body answer proposal p (Some c1) (Some c2))
        ≡ cond (recycles s p.flags.touching (side_of c1 (body_of body c1.body)) (side_of c2 (body_of body c2.body)) p.cache) 1 0
    unfolding updated_between
    counts_once e = rw e (overlapping_counted (side_of c1 (body_of body c1.body)) (side_of c2 (body_of body c2.body)) p.flags.touching p.cache)

    -- and no other counts
    pub counts_none : overlap c1 c2 p.speculative && interact c1 c2 ≡ false → counted (updated_between s body answer proposal p (Some c1) (Some c2)) ≡ 0
    unfolding updated_between
    counts_none e = rw e

-- ---- a contact in the graph
module _ (s : Settings) (colliders bodies proposals : List ℕ) (id : ℕ) where
  -- an update never reads another contact's record
  pub reads_own_record : (g h : List ℕ) → ContactReady colliders bodies proposals g id → ContactReady colliders bodies proposals h id
      → part g (contact_at g id) contact_size ≡ part h (contact_at h id) contact_size → update_of s colliders bodies proposals id g ≡ update_of s colliders bodies proposals id h
  unfolding update_of
  reads_own_record g h a b e =
      let t = standing_fits a.checked.range id a.standing in
      let u = standing_fits b.checked.range id b.standing in
      sym (record_updated_lem s colliders bodies proposals g id (record { manifolds = t.manifolds; points = t.points }) a.proposed)
      ∙ ap (record_updated s colliders bodies (proposal_of proposals id) id) e
      ∙ record_updated_lem s colliders bodies proposals h id (record { manifolds = u.manifolds; points = u.points }) b.proposed

  module _ (g : List ℕ) (ready : ContactReady colliders bodies proposals g id) (fit : FitSettings s) where
    fits : FitPair (record_updated s colliders bodies (proposal_of proposals id) id (record_of s colliders bodies proposals g id)).pair
    fits = update_fits s colliders bodies (proposal_of proposals id) id (record_of s colliders bodies proposals g id) fit ready.proposed
        (counted_of (record_fitting s colliders bodies proposals id ready.checked ready.standing))

    -- the graph stays in range
    pub update_keeps : Checked (graph_after s colliders bodies proposals g id)
    update_keeps = update_in_range s colliders bodies proposals id ready.checked ready.standing fits

    -- and records what the rules make of that contact, and the rest as it was
    pub update_means : graph_of (graph_after s colliders bodies proposals g id) ≡ plain_update (inputs_of s colliders bodies proposals) id (graph_of g)
    update_means = update_graph s colliders bodies proposals id ready.checked ready.standing ready.proposed fits
