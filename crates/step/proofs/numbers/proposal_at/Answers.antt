-- `step::numbers::proposal_at` meets its contract. Assumes nothing.
use mathlib.Core.Path.{refl, ap}
use Prim.Native.Nat.{ℕ, ◌*◌}
use native.Mathlib.Omega.{arith}
use Rattle.layout.specs.Proposal.{proposal_size}
use Rattle.step.specs.TestLaws.{pair_places}
use Rattle.step.proofs.numbers.proposal_at.Goals as goal

pub overflow_add-p : goal.overflow_add-p
overflow_add-p c = let s = c in let q = pair_places s.requires.0 s.args.p s.requires.1 refl in omega (arith, q.listed, s.requires.0.right.size, s.requires.0.right.most)

pub id_at-id-requires : goal.id_at-id-requires
id_at-id-requires c = let s = c in let q = pair_places s.requires.0 s.args.p s.requires.1 refl in omega (arith, q.listed)

pub overflow_mul-result : goal.overflow_mul-result
overflow_mul-result c = let s = c in let q = pair_places s.requires.0 s.args.p s.requires.1 refl in omega (arith, q.few, c.id_at-id.ensures)

pub returns : goal.returns
returns c = ap (λ (n : ℕ). n * proposal_size) c.id_at-id.ensures
