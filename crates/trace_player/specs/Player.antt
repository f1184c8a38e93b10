-- The player: what the line at its place asks for, and the player after it. Definitions only.
use Rattle.std.specs.Prelude.{ℕ, ◌≡◌, Bool, true, false, cond, List, [], drop, None, Some, Option}
use Rattle.rows.specs.Rows.{put}
use Rattle.trace_rules.specs.Fields.{Line, read_line, go_letter}
use Rattle.trace_rules.specs.Reading.{is, Context, follow}
use Rattle.trace_rules.specs.Records.{fits_after}
use Rattle.trace_rules.specs.Places.{place_of}
use Rattle.trace_lines.specs.Items.{letter_of}
use Rattle.trace_player.specs.declared.player.Player.{Player}
use Rattle.trace_player.specs.declared.player.AskedLine.{AskedLine}
use Rattle.trace_player.specs.declared.player.Next.{Next}

-- nothing has been read since the last go
abbrev pub player_at : ℕ → Player
player_at place = record { place = place; stretch = place; after_point = false; settings = false; fits = true }

abbrev pub context_of : Player → Context
context_of p = record { after_point = p.after_point; settings = p.settings }

-- after a go a new stretch of lines begins
unfoldable pub player_after : Player → Line → ℕ → Context → Player
player_after p l next c =
    cond (is go_letter l) (player_at next)
    (record { place = next; stretch = p.stretch; after_point = c.after_point; settings = c.settings; fits = fits_after p.fits l })

-- ---- the line at the player's place, and the player after it
pub data Asked : Type 0 where
  unreadable_line : Asked
  readable_line : Line → Player → Asked

abbrev pub or_unreadable_line : {A : Type 0} → Option A → (A → Asked) → Asked
or_unreadable_line None f = unreadable_line
or_unreadable_line (Some a) f = f a

unfoldable pub asked : List ℕ → Player → Asked
asked xs p =
    or_unreadable_line (read_line (drop p.place xs)) (λ t.
    or_unreadable_line (follow (context_of p) t.value) (λ c. readable_line t.value (player_after p t.value (place_of xs t.rest) c)))

-- ---- what the code answers: `follow` looks at the letter alone
abbrev pub lettered : ℕ → Line
lettered letter = record { letter = letter; words = []; fits = true }

abbrev pub context_if : Option Next → Option Context
context_if (Some n) = Some (record { after_point = n.after_point; settings = n.settings })
context_if None = None

pub record FollowedBy (after_point settings : Bool) (letter : ℕ) (r : Option Next) : Type 0 where
  pub context : follow (record { after_point = after_point; settings = settings }) (lettered letter) ≡ context_if r

-- a line: its words stand in the row
pub record LineAsked (xs : List ℕ) (p : Player) (before after : List ℕ) (l : AskedLine) : Type 0 where
  pub fields : List ℕ
  pub fits : Bool
  pub line : asked xs p ≡ readable_line (record { letter = letter_of l.kind; words = fields; fits = fits }) l.player
  pub stored : after ≡ put before 0 fields
  pub read : (rest : List ℕ) × (read_line (drop p.place xs) ≡ Some (record { value = record { letter = letter_of l.kind; words = fields; fits = fits }; rest = rest }))

abbrev pub AskedAt : List ℕ → Player → List ℕ → List ℕ → Option AskedLine → Type 0
AskedAt xs p before after (Some l) = LineAsked xs p before after l
AskedAt xs p before after None = asked xs p ≡ unreadable_line
