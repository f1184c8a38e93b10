-- The lines that `prunelist` writes: K and a kept number, or R and a refusal's. The specification, 'Prune listing'. Definitions only.
use Rattle.std.specs.Prelude.{ℕ, ◌+◌, ◌/◌, ◌%◌, cond, List, [], ◌∷◌, ◌++◌, ltb}

-- the digits of a number below 1,000, with no zero in front
unfoldable pub decimal : ℕ → List ℕ
decimal n =
    cond (ltb n 10) ((48 + n) ∷ [])
    (cond (ltb n 100) ((48 + n / 10) ∷ (48 + n % 10) ∷ [])
    ((48 + n / 100) ∷ (48 + n / 10 % 10) ∷ (48 + n % 10) ∷ []))

-- a letter, a tab, the number, a line feed
abbrev pub number_line : ℕ → ℕ → List ℕ
number_line letter n = letter ∷ 9 ∷ decimal n ++ 10 ∷ []

abbrev pub kept_line : ℕ → List ℕ
kept_line n = number_line 75 n

abbrev pub refused_line : ℕ → List ℕ
refused_line n = number_line 82 n
