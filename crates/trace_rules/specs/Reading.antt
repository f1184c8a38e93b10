-- A trace's lines in turn, up to one that is unreadable: docs/TRACES.md, 'Unreadable lines'. Definitions only.
use Rattle.std.specs.Prelude.{ℕ, zero, suc, Bool, true, false, cond, ◌||◌, List, [], ◌∷◌, eqb, length, Option, None, Some}
use Rattle.trace_rules.specs.Fields.{Line, read_line, settings_letter, manifold_letter, point_letter, go_letter}

abbrev pub is : ℕ → Line → Bool
is letter l = eqb l.letter letter

-- what the next line may be: a point where the line above is a manifold or a point, a go where settings stand since the last go
pub record Context : Type 0 where
  pub after_point : Bool
  pub settings : Bool

abbrev pub beginning : Context
beginning = record { after_point = false; settings = false }

-- none where a line that fits a record is unreadable in its place
unfoldable pub follow : Context → Line → Option Context
follow c l =
    cond (is point_letter l) (cond c.after_point (Some c) None)
    (cond (is go_letter l) (cond c.settings (Some beginning) None)
    (Some (record { after_point = is manifold_letter l; settings = c.settings || is settings_letter l })))

-- the lines up to the end of the text, or up to an unreadable one
pub record Reading : Type 0 where
  pub lines : List Line
  pub unreadable : Bool

abbrev pub ends : Bool → Reading
ends unreadable = record { lines = []; unreadable = unreadable }

abbrev pub or_unreadable : {A : Type 0} → Option A → (A → Reading) → Reading
or_unreadable None f = ends true
or_unreadable (Some a) f = f a

abbrev pub begins : Line → Reading → Reading
begins l r = record { lines = l ∷ r.lines; unreadable = r.unreadable }

unfoldable pub at_end : {A : Type 0} → List ℕ → A → A → A
at_end [] a b = a
at_end (x ∷ xs) a b = b

-- at most so many lines: each takes a byte at least, so that a text's length is enough
unfoldable pub read_lines : ℕ → Context → List ℕ → Reading
read_lines zero c xs = ends (at_end xs false true)
read_lines (suc most) c xs = at_end xs (ends false) (or_unreadable (read_line xs) (λ t. or_unreadable (follow c t.value) (λ d. begins t.value (read_lines most d t.rest))))

unfoldable pub reading : List ℕ → Reading
reading xs = read_lines (length xs) beginning xs
