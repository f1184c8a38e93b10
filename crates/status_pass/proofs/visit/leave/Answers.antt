-- `status_pass::visit::leave` meets its contract. Assumes nothing.
use Rattle.std.proofs.Common.{◌≡◌, ◌≢◌, ◌∙◌, refl, ℕ, List}
use Rattle.status_pass.specs.Pass.{visited_graph, settled_graph}
use Rattle.status_pass.specs.Verdicts.{plain_verdict}
use Rattle.status_pass.specs.declared.verdict.Verdict.{Verdict}
use Rattle.status_pass.specs.declared.verdict.Verdict.TheVariants.{Vanishes, Starts, Stops, Generates, Recounts, Persists}
use Rattle.status_pass.proofs.visit.leave.Goals as goal

pub returns-in-Vanishes : goal.returns-in-Vanishes
unfolding visited_graph
returns-in-Vanishes c = rw c.in-Vanishes.is c.remove_standing.ensures

settled : (v : Verdict) (id : ℕ) (g : List ℕ) → v ≢ Vanishes → settled_graph (plain_verdict v) id g ≡ visited_graph (plain_verdict v) id g
unfolding visited_graph
settled Vanishes id g n = absurd (n refl)
settled Starts id g n = refl
settled Stops id g n = refl
settled Generates id g n = refl
settled Recounts id g n = refl
settled Persists id g n = refl

pub returns-in_default : goal.returns-in_default
returns-in_default c = c.settle_own.ensures ∙ settled c.args.v c.args.id.0 c.args.graph.now c.in_default.not-Vanishes
