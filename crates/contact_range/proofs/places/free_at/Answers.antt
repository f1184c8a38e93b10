-- `contact_range::places::free_at` meets its contract. Assumes nothing.
use mathlib.Core.Path.{ap, ◌∙◌}
use Prim.Native.Nat.{ℕ, ◌+◌}
use Rattle.words.specs.Words.{word_at}
use Rattle.contact_range.proofs.places.free_at.Goals as goal
use Rattle.layout.specs.Graph.{graph_list}

pub returns : goal.returns
returns c =
    let a = c.args in
    c.id_at.ensures ∙ ap (λ (n : ℕ). word_at a.graph.now (graph_list + n + a.k)) c.load-capacity.ensures
