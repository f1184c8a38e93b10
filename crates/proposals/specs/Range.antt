-- Refusal 6 of a contact's proposal, and refusal 2 of its hook's answer. Definitions only.
-- Nothing is asked of what is not proposed: manifolds and points past their counts.
use Rattle.std.specs.Prelude.{ℕ, ◌+◌, ◌*◌, ◌≤◌, ◌<◌, Bool, ◌&&◌, List, leb}
use Rattle.rules.specs.Limits.{proposed_points, pair_manifolds}
use Rattle.rules.specs.Numbers.{every}
use Rattle.words.specs.Words.{word_at, is_mark}
use Rattle.layout.specs.Proposal.{proposal_count, proposal_manifolds, proposed_manifold_size}

-- at most `pair_manifolds` manifolds, and at most `proposed_points` points in each that is counted
unfoldable pub proposal_fits : List ℕ → ℕ → Bool
proposal_fits xs at =
    leb (word_at xs (at + proposal_count)) pair_manifolds
    && every (λ k. leb (word_at xs (at + proposal_manifolds + k * proposed_manifold_size)) proposed_points) (word_at xs (at + proposal_count))

-- the hook's answer is a mark
unfoldable pub hook_fits : List ℕ → ℕ → Bool
hook_fits xs at = is_mark (word_at xs at)

-- what `proposal_fits` says, count by count
pub record Proposed (xs : List ℕ) (at : ℕ) : Type 0 where
  pub manifolds : word_at xs (at + proposal_count) ≤ pair_manifolds
  pub points : (k : ℕ) → k < word_at xs (at + proposal_count) → word_at xs (at + proposal_manifolds + k * proposed_manifold_size) ≤ proposed_points
