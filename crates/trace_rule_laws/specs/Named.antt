-- Settings that a trace names to its steps, said or not. Definitions only; the theorems are in NamedLaws.
use Rattle.std.specs.Prelude.{ℕ, ◌≡◌, List, [], ◌∷◌}
use Rattle.words.specs.Words.{word_at}
use Rattle.trace_rules.specs.Fields.{float, mark, rule, Item, plain, floats}
use Rattle.trace_rules.specs.Records.{Entry, addition, stepping}

-- the fields of T that are always said
abbrev pub fixed_shape : List Item
fixed_shape = floats 5 (plain mark ∷ plain float ∷ plain rule ∷ plain float ∷ plain rule ∷ [])

-- every step is given a setting whose presence mark, word k, is 1
abbrev pub Named : ℕ → List Entry → Type 0
Named k [] = Unit {0}
Named k (addition words ∷ es) = Named k es
Named k (stepping r ∷ es) = (word_at r.settings k ≡ 1) × Named k es
