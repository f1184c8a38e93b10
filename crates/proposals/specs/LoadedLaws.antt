-- A proposed point that is loaded, seen as the plain one, and the counts that the test passed. Assumes nothing.
use Rattle.std.specs.Prelude.{◌≡◌, refl, ℕ, ◌+◌, ◌*◌, Bool, true, false, ◌&&◌, List, leb}
use Rattle.std.proofs.Common.{sym, true≢false, leb-true}
use Rattle.rules.specs.Limits.{proposed_points, pair_manifolds}
use Rattle.rules.specs.Numbers.{every}
use Rattle.rule_laws.specs.NumberLaws.{every_at}
use Rattle.words.specs.Words.{word_at}
use Rattle.layout.specs.Proposal.{proposal_count, proposal_manifolds, proposed_manifold_size}
use Rattle.proposals.specs.Range.{proposal_fits, Proposed}
use Rattle.proposals.specs.Recorded.{proposed_point_at}
use Rattle.proposals.specs.Views.{recorded_proposed_point, proposed_of}

pub proposed_point_seen : (xs : List ℕ) (at : ℕ) → proposed_of (recorded_proposed_point xs at) ≡ proposed_point_at xs at
unfolding recorded_proposed_point proposed_point_at
proposed_point_seen xs at = refl

both : (a b : Bool) → a && b ≡ true → (a ≡ true) × (b ≡ true)
both true b e = (refl, e)
both false b e = absurd (true≢false (sym e))

pub proposed : {xs : List ℕ} {at : ℕ} → proposal_fits xs at ≡ true → Proposed xs at
unfolding proposal_fits
proposed {xs} {at} e =
    let n = word_at xs (at + proposal_count) in
    let test : ℕ → Bool = λ k. leb (word_at xs (at + proposal_manifolds + k * proposed_manifold_size)) proposed_points in
    let z = both (leb n pair_manifolds) (every test n) e in
    record { manifolds = leb-true n pair_manifolds z.0; points = λ k l. leb-true _ proposed_points (every_at test n k z.1 l) }
