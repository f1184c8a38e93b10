-- The lines of a text by their places. Definitions only.
use Rattle.std.specs.Prelude.{ℕ, zero, suc, ◌-◌, cond, List, [], ◌∷◌, ltb, length, drop, Option, None, Some}
use Rattle.text.specs.Text.{Taken}
use Rattle.trace_rules.specs.Fields.{Line, read_line}

-- where what is left of a text begins
abbrev pub place_of : List ℕ → List ℕ → ℕ
place_of xs rest = length xs - length rest

abbrev pub lines_from : Option (Taken Line) → (Taken Line → List Line) → List Line
lines_from None f = []
lines_from (Some t) f = f t

-- at most so many lines from place at on, while they begin below stop and can be read
unfoldable pub lines_within : ℕ → List ℕ → ℕ → ℕ → List Line
lines_within zero xs at stop = []
lines_within (suc most) xs at stop = cond (ltb at stop) (lines_from (read_line (drop at xs)) (λ t. t.value ∷ lines_within most xs (place_of xs t.rest) stop)) []

-- each takes a byte at least, so that the text's length is enough
unfoldable pub lines_between : List ℕ → ℕ → ℕ → List Line
lines_between xs at stop = lines_within (length xs) xs at stop
