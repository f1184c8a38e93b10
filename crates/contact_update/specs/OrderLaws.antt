-- The updates of several contacts, one after another: in any order they leave the same words. Assumes nothing.
use Rattle.std.specs.Prelude.{ℕ, suc, ◌+◌, ◌*◌, ◌≤◌, ◌<◌, ◌≡◌, ◌≢◌}
use Rattle.std.proofs.Common.{zero-lt-suc, arith, sym, ◌∙◌}
use Rattle.std.proofs.Math.Path.{refl, ap, subst}
use mathlib.Core.List.{List, [], ◌∷◌}
use Rattle.std.proofs.Math.ListN.{length}
use Rattle.rows.specs.Rows.{part}
use Rattle.rows.specs.Slots.{AllBelow, Distinct, SameMembers, updates}
use Rattle.rows.specs.SlotLaws.{part_update_at_other, updates_order}
use Rattle.rules.specs.Inputs.{Settings}
use Rattle.layout.specs.Contact.{contact_size}
use Rattle.layout.specs.Graph.{contact_place, graph_contacts}
use Rattle.layout.specs.Proposal.{proposal_size}
use Rattle.contact_graph.specs.AddedGraphLaws.{right_kept}
use Rattle.contact_range.specs.RangeLaws.{standing_below}
use Rattle.contact_range.specs.Recorded.{capacity_of, contact_at}
use Rattle.contact_range.specs.Conditions.{RightLength}
use Rattle.contact_update.specs.After.{graph_after}
use Rattle.contact_update.specs.Contact.{ContactReady, update_of}
use Rattle.contact_update.specs.GraphLaws.{change, change_keeps, graph_length_lem, after_capacity, stands_kept}
use Rattle.contact_update.specs.UpdateFitLaws.{FitSettings}
use Rattle.contact_update.specs.UpdateLaws.{reads_own_record, update_keeps}

module _ (s : Settings) (colliders bodies proposals : List ℕ) where
  -- the contacts of a list, one after another
  unfoldable pub graph_after_all : List ℕ → List ℕ → List ℕ
  graph_after_all g [] = g
  graph_after_all g (id ∷ ids) = graph_after_all (graph_after s colliders bodies proposals g id) ids

  after_all : (g : List ℕ) (ids : List ℕ) → RightLength g → AllBelow (capacity_of g) ids
      → graph_after_all g ids ≡ updates (graph_contacts (capacity_of g)) contact_size (change s colliders bodies proposals) g ids
  unfolding graph_after_all updates graph_after
  after_all g [] r b = refl
  after_all g (id ∷ ids) r b =
      let h = graph_after s colliders bodies proposals g id in
      let l : id < capacity_of g = b 0 (zero-lt-suc (length ids)) in
      let c : capacity_of h ≡ capacity_of g = after_capacity s colliders bodies proposals id r l in
      let rest : AllBelow (capacity_of h) ids = subst (λ (n : ℕ). AllBelow n ids) (sym c) (λ k m. b (suc k) (omega arith)) in
      after_all h ids (right_kept r (graph_length_lem s colliders bodies proposals g id) c) rest
      ∙ ap (λ (n : ℕ). updates (graph_contacts n) contact_size (change s colliders bodies proposals) h ids) c

  -- two lists of the same contacts, each once
  pub any_order : (g : List ℕ) (a b : List ℕ) → RightLength g → AllBelow (capacity_of g) a → AllBelow (capacity_of g) b → Distinct a → Distinct b → SameMembers a b
      → graph_after_all g a ≡ graph_after_all g b
  any_order g a b r p q u v m =
      let room : graph_contacts (capacity_of g) + capacity_of g * contact_size ≤ length g = omega (arith, r.size) in
      after_all g a r p
      ∙ updates_order (graph_contacts (capacity_of g)) contact_size (change s colliders bodies proposals) (change_keeps s colliders bodies proposals) (capacity_of g) g a b room p q u v m
      ∙ sym (after_all g b r q)

  -- an update changes nothing of what the rules make of another contact
  module _ (g : List ℕ) (i j : ℕ) (apart : j ≢ i) (first : ContactReady colliders bodies proposals g i) (second : ContactReady colliders bodies proposals g j) (fit : FitSettings s) where
    same_capacity : capacity_of (graph_after s colliders bodies proposals g i) ≡ capacity_of g
    same_capacity = after_capacity s colliders bodies proposals i first.checked.right (standing_below first.checked.range i first.standing)

    pub still_ready : ContactReady colliders bodies proposals (graph_after s colliders bodies proposals g i) j
    still_ready =
        record {
          collider_words = second.collider_words;
          body_words = second.body_words;
          proposal_words = second.proposal_words ∙ ap (λ (n : ℕ). n * proposal_size) (sym same_capacity);
          colliders_fit_lem = second.colliders_fit_lem;
          proposed = second.proposed;
          checked = update_keeps s colliders bodies proposals i g first fit;
          standing = stands_kept s colliders bodies proposals i first.checked first.standing j ∙ second.standing;
        }

    same_record : part (graph_after s colliders bodies proposals g i) (contact_at (graph_after s colliders bodies proposals g i) j) contact_size ≡ part g (contact_at g j) contact_size
    unfolding graph_after
    same_record =
        ap (λ (n : ℕ). part (graph_after s colliders bodies proposals g i) (contact_place n j) contact_size) same_capacity
        ∙ part_update_at_other (graph_contacts (capacity_of g)) contact_size (change s colliders bodies proposals) (change_keeps s colliders bodies proposals) g i j room apart
      where
        room : contact_at g i + contact_size ≤ length g
        room = let r = first.checked.right in let b = standing_below first.checked.range i first.standing in omega (arith, r.size)

    pub others_unaffected : update_of s colliders bodies proposals j (graph_after s colliders bodies proposals g i) ≡ update_of s colliders bodies proposals j g
    others_unaffected = reads_own_record s colliders bodies proposals j (graph_after s colliders bodies proposals g i) g still_ready second same_record
