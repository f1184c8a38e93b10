-- Where a line stands in a whole trace. Definitions only; the theorems are in WholeTraceLaws.
use Rattle.std.specs.Prelude.{ℕ, Bool, true, false, cond, List, [], ◌∷◌}
use Rattle.trace_rules.specs.Fields.{Line, go_letter}
use Rattle.trace_rules.specs.Reading.{is}
use Rattle.trace_rules.specs.Records.{entries}
use Rattle.trace_rules.specs.Play.{play_entries}

-- none of the lines is a go
unfoldable pub no_go : List Line → Bool
no_go [] = true
no_go (l ∷ ls) = cond (is go_letter l) false (no_go ls)

-- the graph that those lines leave, from one before them
abbrev pub graph_after : List Line → List ℕ → List ℕ
graph_after ls g = (play_entries (entries ls) g).graph
