-- What the loop of `trace_steps::active::fill_proposals` keeps.
use mathlib.Core.Path.{◌≡◌}
use Prim.Native.Nat.{◌*◌, ◌≤◌}
use lib.ListN.{length}
use Rattle.layout.specs.Proposal.{proposal_size}
use Rattle.contact_range.specs.Recorded.{capacity_of}
use Rattle.trace_rules.specs.Records.{step_record}
use Rattle.trace_steps.specs.ProposalsLaws.{Filled}
use Rattle.trace_steps.specs.Stretch.{lines_of}
use Rattle.trace_steps.proofs.active.fill_proposals.Given as goal

abbrev pub invariant-loop-p : goal.invariant-loop-p
invariant-loop-p l =
    (l.p ≤ l.listed) × (length l.proposals ≡ capacity_of l.graph * proposal_size) × Filled (step_record (lines_of l.stretch)).proposal l.graph l.p l.proposals
