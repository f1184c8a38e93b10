-- Both provisos of the replay are needed: the claim about the replay holds under the two together (`both_suffice` in AloneLaws.antt),
-- and is false under either alone. Assumes nothing.
use Rattle.std.specs.Prelude.{◌≡◌, refl, List, map, ℤ, pos, Ok, Option, None, Some}
use Rattle.std.proofs.Common.{sym, subst, ◌∙◌}
use Rattle.rules.specs.Graph.{empty_graph}
use Rattle.rules.specs.Runs.{plain_graph, held_in}
use Rattle.manifold_records.specs.Written.{zeros}
use Rattle.contact_graph.specs.Calls.{laid_out}
use Rattle.contact_runs.specs.Claim.{plain_of, replay_told}
use Rattle.contact_runs.specs.Runs.{Entry, Outcomes, Promised, Run}
use Rattle.contact_runs.specs.OrderedRunLaws.{run_ordered}
use Rattle.proviso_examples.specs.Alone.{Proviso, NamesBoth, KeepsGenerating, Alone, ReplayUnder}
use Rattle.proviso_examples.specs.Calls.{unnamed, sensing}
use Rattle.proviso_examples.specs.CallLaws.{laid}
use Rattle.proviso_examples.specs.SensingLaws.{sensing_run, sensing_keeps, sensing_replayed, sensing_held}
use Rattle.proviso_examples.specs.UnnamedLaws.{unnamed_run, unnamed_keeps, unnamed_replayed, unnamed_held}

apart : (n : ℤ) → Some n ≡ None → ⊥
apart n e = subst Holding e tt
  where
    Holding : Option ℤ → Type 0
    Holding None = ⊥
    Holding (Some m) = Unit {0}

-- a run of a list that keeps to the proviso, whose replay holds what the graph does not
differs : (P : Proviso) (es : List Entry) (r : (os : Outcomes es) × Run Promised (laid_out 1) es os) → Alone P (map plain_of es) (empty_graph 1)
    → replay_told r.0 (λ _. None) 0 ≡ Some (pos 1) → held_in (plain_graph (map plain_of es) (empty_graph 1)).pairs 0 ≡ None → ReplayUnder P → ⊥
differs P es r k e h c = apart (pos 1) (sym e ∙ c (zeros 529) 1 (laid_out 1) (Ok tt) es r.0 laid refl (run_ordered (laid_out 1) es r.0 r.1) k 0 ∙ h)

pub names_needed : ReplayUnder KeepsGenerating → ⊥
names_needed = differs KeepsGenerating unnamed unnamed_run unnamed_keeps (unnamed_replayed unnamed_run.0 unnamed_run.1) unnamed_held

pub generating_needed : ReplayUnder NamesBoth → ⊥
generating_needed = differs NamesBoth sensing sensing_run sensing_keeps (sensing_replayed sensing_run.0 sensing_run.1) sensing_held
