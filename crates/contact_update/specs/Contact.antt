-- The update of one contact in the lent graph: what it asks, and its promise. Definitions only.
use Rattle.std.specs.Prelude.{ℕ, ◌*◌, ◌≡◌, Bool, true, cond, List, [], ◌∷◌, length}
use Rattle.rows.specs.Rows.{put}
use Rattle.rules.specs.Inputs.{Settings}
use Rattle.rules.specs.Update.{is_recycled, Updated, updated}
use Rattle.words.specs.Words.{float_word}
use Rattle.data_structures.specs.BitVec.{marked}
use Rattle.layout.specs.Body.{bodies_length}
use Rattle.layout.specs.Collider.{colliders_length}
use Rattle.layout.specs.Proposal.{proposal_size}
use Rattle.collider.specs.Range.{colliders_fit}
use Rattle.contact_records.specs.Recorded.{pair_at}
use Rattle.contact_range.specs.Checked.{Checked}
use Rattle.contact_range.specs.Range.{stands}
use Rattle.contact_range.specs.Recorded.{capacity_of, contact_at}
use Rattle.proposals.specs.Range.{Proposed}
use Rattle.contact_update.specs.After.{proposal_of, graph_after, inputs_of}
use Rattle.contact_update.specs.declared.record.Outcome.{Outcome}

-- refusals 1, 2 and 6 have nothing to say, and the contact stands
pub record ContactReady (colliders bodies proposals g : List ℕ) (id : ℕ) : Type 0 where
  pub collider_words : length colliders ≡ colliders_length
  pub body_words : length bodies ≡ bodies_length
  pub proposal_words : length proposals ≡ capacity_of g * proposal_size
  pub colliders_fit_lem : colliders_fit colliders ≡ true
  pub proposed : Proposed (proposal_of proposals id) 0
  pub checked : Checked g
  pub standing : stands g id ≡ true

-- what the rules make of the contact that the graph records under that id
unfoldable pub update_of : Settings → List ℕ → List ℕ → List ℕ → ℕ → List ℕ → Updated
update_of s colliders bodies proposals id g = updated (inputs_of s colliders bodies proposals) (pair_at g (contact_at g id) id)

-- The promise of `update_own`.
pub record OwnUpdated (s : Settings) (colliders bodies proposals : List ℕ) (id : ℕ) (g h : List ℕ) (r : Outcome) : Type 0 where
  pub graph : h ≡ graph_after s colliders bodies proposals g id
  pub bit : r.bit ≡ (update_of s colliders bodies proposals id g).bit
  pub recycled : r.recycled ≡ is_recycled (update_of s colliders bodies proposals id g).way
  pub distance : r.max_contact_distance ≡ (update_of s colliders bodies proposals id g).max_contact_distance

-- The promise of `update_contact`: the graph, one bit, one distance, and whether the contact was recycled.
pub record ContactUpdated (s : Settings) (colliders bodies proposals : List ℕ) (id : ℕ) (g h bits bits' distances distances' : List ℕ) (r : Bool) : Type 0 where
  pub graph : h ≡ graph_after s colliders bodies proposals g id
  pub bit : bits' ≡ cond (update_of s colliders bodies proposals id g).bit (marked bits id) bits
  pub distance : distances' ≡ put distances id (float_word (update_of s colliders bodies proposals id g).max_contact_distance ∷ [])
  pub recycled : r ≡ is_recycled (update_of s colliders bodies proposals id g).way
