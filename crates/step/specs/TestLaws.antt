-- The tests of a step in their turn. Assumes nothing.
use Rattle.std.specs.Prelude.{ℕ, ◌+◌, ◌*◌, ◌≤◌, ◌<◌, ◌≡◌, Bool, true, false, ◌&&◌, List, length}
use Rattle.std.proofs.Common.{arith}
use Rattle.contact_range.specs.Checked.{Checked}
use Rattle.contact_range.specs.RangeLaws.{counts, listed_below}
use Rattle.contact_range.specs.Recorded.{capacity_of, listed_count, listed_at}
use Rattle.layout.specs.Proposal.{proposal_size}

-- the first test fails, or holds and the rest decides
pub first_fails : {a : Bool} (b : Bool) → a ≡ false → false ≡ a && b
first_fails b e = rw e

pub rest_decides : {a b r : Bool} → a ≡ true → r ≡ b → r ≡ a && b
rest_decides e f = rw e f

-- a pair of the list, and its proposal
module _ {g : List ℕ} (c : Checked g) (p : ℕ) (l : p < listed_count g) where
  pub record PairPlaces (size : ℕ) : Type 0 where
    pub listed : 4 + p < length g
    pub few : listed_at g p < 256
    pub room : listed_at g p * proposal_size + proposal_size ≤ size

  pub pair_places : {size : ℕ} → size ≡ capacity_of g * proposal_size → PairPlaces size
  pair_places e =
      let b = listed_below c.range p l in
      let n = (counts c.range).listed in
      let right = c.right in
      record { listed = omega (arith, right.size); few = omega (arith, right.most); room = omega arith }
