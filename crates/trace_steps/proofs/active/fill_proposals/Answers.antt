-- `trace_steps::active::fill_proposals` meets its contract: the contacts passed have their proposals. Assumes nothing.
use mathlib.Core.Path.{◌≡◌, subst, ◌∙◌}
use mathlib.Core.List.{List}
use Prim.Native.Nat.{ℕ, ◌<◌}
use native.Mathlib.Omega.{arith}
use borrow.Author.Rules.{rules}
use Rattle.contact_range.specs.Recorded.{listed_count}
use Rattle.trace_rules.specs.Records.{step_record}
use Rattle.trace_steps.specs.ProposalsLaws.{proposals_begun, proposals_next, proposals_done}
use Rattle.trace_steps.specs.Stretch.{lines_of}
use Rattle.trace_steps.proofs.active.fill_proposals.Goals as goal

pub loop-p-init : goal.loop-p-init
loop-p-init c = (search rules, c.clear.auto.words ∙ c.requires.1, proposals_begun _ _ c.requires.1 c.clear.ensures)

-- the loop is at a place of the list
within : (graph : List ℕ) {listed p : ℕ} → listed ≡ listed_count graph → p < listed → p < listed_count graph
within graph {p = p} e below = subst (λ (n : ℕ). p < n) e below

pub loop-p-preserved : goal.loop-p-preserved
loop-p-preserved c =
    let s = c.args in (
      search rules,
      c.fill_listed.auto.proposals ∙ c.loop-p.invariant.1,
      proposals_next (step_record (lines_of s.stretch)).proposal s.graph.now _ c.loop-p.p (within s.graph.now c.load-listed.ensures c.loop-p-test.true) c.loop-p.invariant.2 c.fill_listed.ensures,
    )

pub returns : goal.returns
returns c =
    let s = c.args in
    proposals_done (step_record (lines_of s.stretch)).proposal s.graph.now c.loop-p.p (omega (arith, c.load-listed.ensures, c.loop-p-test.false)) c.loop-p.invariant.2
