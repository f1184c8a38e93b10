-- The proposals of the active contacts, one after another. Assumes nothing.
use Rattle.std.specs.Prelude.{ℕ, ◌+◌, ◌*◌, ◌≤◌, ◌<◌, ◌≡◌, take}
use Rattle.std.proofs.Common.{add-one, sym, ◌∙◌, take-suc, take_all}
use Rattle.std.proofs.Math.Path.{refl, ap}
use mathlib.Core.List.{List, [], ◌∷◌, ◌++◌}
use Rattle.rows.specs.Rows.{put}
use Rattle.layout.specs.Proposal.{proposal_size}
use Rattle.manifold_records.specs.Written.{zeros}
use Rattle.contact_range.specs.Recorded.{capacity_of, listed_at, listed_count}
use Rattle.update_pass.specs.Shared.{active_of}
use Rattle.trace_rules.specs.Play.{proposal_words, proposal_of, with_proposals, proposals_of}
use Rattle.trace_rules.specs.Records.{Proposal}
use Rattle.trace_steps.specs.ActiveLaws.{active_length, active_at}

module _ (f : ℕ → ℕ → Proposal) (g : List ℕ) where
  proposals_append : (row : List ℕ) (ids : List ℕ) (id : ℕ) → with_proposals f g row (ids ++ id ∷ []) ≡ put (with_proposals f g row ids) (id * proposal_size) (proposal_words (proposal_of f g id))
  unfolding with_proposals
  proposals_append row [] id = refl
  proposals_append row (i ∷ ids) id = proposals_append (put row (i * proposal_size) (proposal_words (proposal_of f g i))) ids id

  -- a turn of the loop
  pub proposals_next : (row : List ℕ) (p : ℕ) {ys zs : List ℕ} → p < listed_count g → ys ≡ with_proposals f g row (take p (active_of g)) → zs ≡ put ys (listed_at g p * proposal_size) (proposal_words (proposal_of f g (listed_at g p)))
      → zs ≡ with_proposals f g row (take (p + 1) (active_of g))
  proposals_next row p h y z =
      z ∙ ap (λ (xs : List ℕ). put xs (listed_at g p * proposal_size) (proposal_words (proposal_of f g (listed_at g p)))) y
      ∙ sym (proposals_append row (take p (active_of g)) (listed_at g p))
      ∙ ap (λ (id : ℕ). with_proposals f g row (take p (active_of g) ++ id ∷ [])) (sym (active_at g p h))
      ∙ ap (with_proposals f g row) (sym (take-suc (active_of g) p 0 (rw (active_length g) h)) ∙ ap (λ (n : ℕ). take n (active_of g)) (sym (add-one p)))

  -- at its start and at its end
  abbrev pub Filled : ℕ → List ℕ → Type 0
  Filled p row = row ≡ with_proposals f g (zeros (capacity_of g * proposal_size)) (take p (active_of g))

  pub proposals_begun : {n : ℕ} {row : List ℕ} → n ≡ capacity_of g * proposal_size → row ≡ zeros n → Filled 0 row
  unfolding with_proposals
  proposals_begun e z = z ∙ ap zeros e

  pub proposals_done : (p : ℕ) {row : List ℕ} → listed_count g ≤ p → Filled p row → row ≡ proposals_of f g
  unfolding proposals_of
  proposals_done p h e = e ∙ ap (with_proposals f g (zeros (capacity_of g * proposal_size))) (take_all p (active_of g) (rw (active_length g) h))
