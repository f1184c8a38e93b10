-- Lines that name their pair in the other order. Definitions only; the theorem is `pair_order` in PairOrderLaws.
use Rattle.std.specs.Prelude.{ℕ, ◌≡◌, Bool, true, ◌||◌, List, [], ◌∷◌}
use Rattle.trace_rules.specs.Fields.{Line, hook_letter, manifold_letter}
use Rattle.trace_rules.specs.Reading.{is}

-- an H or an M: its first two words are the colliders of its pair
abbrev pub names_pair : Line → Bool
names_pair l = is hook_letter l || is manifold_letter l

abbrev pub exchanged_words : List ℕ → List ℕ
exchanged_words [] = []
exchanged_words (a ∷ []) = a ∷ []
exchanged_words (a ∷ b ∷ ws) = b ∷ a ∷ ws

-- the line with the two colliders exchanged
abbrev pub exchanged : Line → Line
exchanged l = record { letter = l.letter; words = exchanged_words l.words; fits = l.fits }

-- two lists of lines that are the same, line by line, but for the order of the colliders in any of their H and M lines
pub data EitherOrder : List Line → List Line → Type 0 where
  end : EitherOrder [] []
  kept : {ls ms : List Line} → (l : Line) → EitherOrder ls ms → EitherOrder (l ∷ ls) (l ∷ ms)
  turned : {ls ms : List Line} → (l : Line) → names_pair l ≡ true → EitherOrder ls ms → EitherOrder (l ∷ ls) (exchanged l ∷ ms)
