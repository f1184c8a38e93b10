-- A contact's record and proposal, lent on: what its update leaves of the graph. Assumes nothing.
use Rattle.std.specs.Prelude.{◌≡◌, ℕ, ◌+◌, ◌*◌, ◌≤◌, ◌<◌, length, drop}
use Rattle.std.proofs.Common.{sym, ◌∙◌, arith}
use Rattle.std.proofs.Math.Path.{ap, subst}
use mathlib.Core.List.{List, ◌++◌}
use Rattle.std.proofs.Math.ListN.{take}
use Rattle.rows.specs.Laws.{length_part}
use Rattle.rows.specs.Rows.{part}
use Rattle.rows.specs.SlotLaws.{update_at_lent}
use Rattle.rules.specs.Inputs.{Settings}
use Rattle.rules.specs.Update.{is_recycled, Updated}
use Rattle.rules.specs.Limits.{most_contacts}
use Rattle.layout.specs.Contact.{contact_size}
use Rattle.layout.specs.Graph.{graph_contacts}
use Rattle.layout.specs.Proposal.{proposal_size}
use Rattle.contact_range.specs.RangeLaws.{Fitting, standing_below, standing_fits}
use Rattle.contact_range.specs.Recorded.{capacity_of, contact_at}
use Rattle.contact_range.specs.Conditions.{RecordAt}
use Rattle.proposals.specs.Range.{Proposed}
use Rattle.contact_update.specs.After.{proposal_of, record_after, graph_after}
use Rattle.contact_update.specs.Contact.{ContactReady, update_of, OwnUpdated}
use Rattle.contact_update.specs.GraphLaws.{change, change_keeps, record_fitting, record_updated_lem}
use Rattle.contact_update.specs.Updates.{Ready, RecordUpdates}
use Rattle.contact_update.specs.declared.record.Outcome.{Outcome}

pub lent_part : (xs : List ℕ) (a n m : ℕ) → n ≡ m → take n (drop a xs) ≡ part xs a m
unfolding part
lent_part xs a n m e = ap (λ (k : ℕ). take k (drop a xs)) e

-- where the two parts lie: within their rows, and below numbers that 64 bits hold
pub record OwnRoom (proposals g : List ℕ) (id at : ℕ) : Type 0 where
  pub below : id < most_contacts
  pub small : at < 1_000_000
  pub record_room : at + contact_size ≤ length g
  pub proposal_room : id * proposal_size + proposal_size ≤ length proposals

pub own_room : {colliders bodies proposals g : List ℕ} {id at : ℕ} → ContactReady colliders bodies proposals g id → RecordAt g id at → OwnRoom proposals g id at
own_room {id = id} ready r =
    let right = ready.checked.right in
    let b = standing_below ready.checked.range id ready.standing in
    let w = ready.proposal_words in
    record {
      below = omega (arith, right.most);
      small = omega (arith, right.most, right.size, r.room);
      record_room = r.room;
      proposal_room = omega arith;
    }

module _ (s : Settings) {colliders bodies proposals g : List ℕ} {id : ℕ} (ready : ContactReady colliders bodies proposals g id) where
  below : id < capacity_of g
  below = standing_below ready.checked.range id ready.standing

  pub proposal_room : id * proposal_size + proposal_size ≤ length proposals
  proposal_room = let w = ready.proposal_words in let b = below in omega arith

  abbrev own : List ℕ
  own = part g (contact_at g id) contact_size

  room : contact_at g id + contact_size ≤ length g
  room = let r = ready.checked.right in let b = below in omega (arith, r.size)

  -- the two parts are as an update asks
  pub parts_ready : (pr w : List ℕ) → pr ≡ proposal_of proposals id → w ≡ own → Ready colliders bodies pr w
  parts_ready pr w e f =
      record {
        collider_words = ready.collider_words;
        body_words = ready.body_words;
        proposal_words = ap length e ∙ length_part proposals (id * proposal_size) proposal_size proposal_room;
        record_words = ap length f ∙ length_part g (contact_at g id) contact_size room;
        colliders_fit_lem = ready.colliders_fit_lem;
        proposed = subst (λ (x : List ℕ). Proposed x 0) (sym e) ready.proposed;
        record_fits = subst (λ (x : List ℕ). Fitting x 0) (sym f) (record_fitting s colliders bodies proposals id ready.checked ready.standing);
      }

  -- and come back updated
  pub own_updated : (pr w ys : List ℕ) (r : Outcome) {at n : ℕ} → pr ≡ proposal_of proposals id → w ≡ take n (drop at g) → RecordUpdates s colliders bodies pr w ys r
      → at ≡ contact_at g id → n ≡ contact_size → OwnUpdated s colliders bodies proposals id g (take at g ++ (ys ++ drop n (drop at g))) r
  unfolding graph_after record_after update_of
  own_updated pr w ys r {at} {n} e f u p q =
      let part-own : take n (drop at g) ≡ own = lent_part g at n contact_size q ∙ ap (λ (a : ℕ). part g a contact_size) p in
      let v = subst (λ (x : List ℕ). RecordUpdates s colliders bodies x own ys r) e (subst (λ (x : List ℕ). RecordUpdates s colliders bodies pr x ys r) (f ∙ part-own) u) in
      let made = v.under id in
      let t = standing_fits ready.checked.range id ready.standing in
      let whole = record_updated_lem s colliders bodies proposals g id (record { manifolds = t.manifolds; points = t.points }) ready.proposed in
      let back : ys ≡ change s colliders bodies proposals id (take n (drop at g)) = made.words ∙ ap (change s colliders bodies proposals id) (sym part-own) in
      record {
        graph = update_at_lent (graph_contacts (capacity_of g)) contact_size (change s colliders bodies proposals) (change_keeps s colliders bodies proposals) g id at n p q room back;
        bit = made.bit ∙ ap (λ (x : Updated). x.bit) whole;
        recycled = made.recycled ∙ ap (λ (x : Updated). is_recycled x.way) whole;
        distance = made.distance ∙ ap (λ (x : Updated). x.max_contact_distance) whole;
      }
