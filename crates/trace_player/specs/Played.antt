-- One call of `play_line`: the answer, and every lent word and byte. Definitions only.
use Rattle.std.specs.Prelude.{ℕ, ◌*◌, ◌≤◌, ◌≡◌, Bool, cond, not, ◌&&◌, List, [], ◌∷◌, eqb, leb, length, Err, Ok, Result, Some, None, Option}
use Rattle.rows.specs.Rows.{put}
use Rattle.contact_types.specs.Refusals.{number_of}
use Rattle.contact_range.specs.Range.{in_range}
use Rattle.contact_range.specs.Recorded.{capacity_of}
use Rattle.contact_graph.specs.Calls.{request_of}
use Rattle.step.specs.Step.{Given, Rows, long, lengths_fit, step_refusal, pass_of, rows_of}
use Rattle.text.specs.Text.{Written}
use Rattle.trace_rules.specs.Fields.{Line, addition_letter, go_letter}
use Rattle.trace_rules.specs.Reading.{is}
use Rattle.trace_rules.specs.Records.{step_record}
use Rattle.trace_rules.specs.Places.{lines_between}
use Rattle.trace_rules.specs.Printed.{step_text, refused_text, unreadable}
use Rattle.trace_rules.specs.Play.{play_addition, given_by}
use Rattle.trace_printing.specs.Lines.{printed_size}
use Rattle.trace_player.specs.declared.player.Player.{Player}
use Rattle.words.specs.Words.{word_at}
use Rattle.layout.specs.Request.{request_body1, request_body1_number, request_body2, request_body2_number, request_collider1, request_collider2, request_contact_events, request_modify_contacts, request_speculative_distance}
use Rattle.layout.specs.Change.{change_size}
use Rattle.layout.specs.Event.{event_size}
use Rattle.step.specs.Read.{events_of, changes_of}
use Rattle.trace_player.specs.declared.play.PlayedLine.{PlayedLine}
use Rattle.trace_player.specs.Player.{player_at, Asked, unreadable_line, readable_line, asked}
use Rattle.step.specs.declared.answer.StepReport.{StepReport}
use Rattle.contact_types.specs.declared.refusal.Refusal.{Refusal}

-- what a call is lent, beside the trace: the graph, a step's rows, and a row for what is printed
pub record Lent : Type 0 where
  pub graph : List ℕ
  pub given : Given
  pub rows : Rows
  pub out : List ℕ

abbrev pub lent : List ℕ → Given → Rows → List ℕ → Lent
lent graph given rows out = record { graph = graph; given = given; rows = rows; out = out }

-- room for an event and a change of every contact
abbrev pub printed_length : ℕ → ℕ
printed_length capacity = capacity * printed_size

-- 1: a length is not the one for the graph
unfoldable pub lent_fits : Lent → Bool
lent_fits l = lengths_fit l.given l.graph l.rows && long l.out (printed_length (capacity_of l.graph))

-- ---- the answer: a refusal's number, that the trace has ended, or the next player and how many bytes are written
pub data LineAnswer : Type 0 where
  refused : ℕ → LineAnswer
  ended : LineAnswer
  played : (player : Player) (written : ℕ) → LineAnswer

abbrev pub plain_answer : Result (Option PlayedLine) Refusal → LineAnswer
plain_answer (Ok (Some l)) = played l.player l.written
plain_answer (Ok None) = ended
plain_answer (Err r) = refused (number_of r)

pub record AfterLine : Type 0 where
  pub answer : LineAnswer
  pub lent : Lent

-- ---- what a line prints, and the graph and the rows after it
pub record Effect : Type 0 where
  pub text : List ℕ
  pub graph : List ℕ
  pub given : Given
  pub rows : Rows

abbrev pub printing : Player → Effect → List ℕ → AfterLine
printing next e out = record { answer = played next (length e.text); lent = record { graph = e.graph; given = e.given; rows = e.rows; out = put out 0 e.text } }

-- a step that was given x
unfoldable pub step_effect : Given → List ℕ → Rows → Effect
step_effect x g l =
    cond (eqb (step_refusal x g l) 0)
    (record { text = step_text (pass_of x g).events (pass_of x g).changes; graph = (pass_of x g).graph; given = x; rows = rows_of x g l })
    (record { text = refused_text (step_refusal x g l); graph = g; given = x; rows = l })

-- a go: a step with the lines since the last one, where their numbers are in range, and the graph
unfoldable pub go_effect : List ℕ → Player → List ℕ → Given → Rows → Effect
go_effect xs p g x l =
    cond (p.fits && in_range g) (step_effect (given_by (step_record (lines_between xs p.stretch p.place)) g) g l)
    (record { text = refused_text 2; graph = g; given = x; rows = l })

-- an addition: the call `add`
unfoldable pub addition_effect : List ℕ → List ℕ → Given → Rows → Effect
addition_effect words g x l = record { text = (play_addition (request_of words) g).text; graph = (play_addition (request_of words) g).graph; given = x; rows = l }

-- any other line waits for its go
unfoldable pub line_effect : List ℕ → Player → Line → Lent → Effect
line_effect xs p line l =
    cond (is go_letter line) (go_effect xs p l.graph l.given l.rows)
    (cond (is addition_letter line) (addition_effect line.words l.graph l.given l.rows)
    (record { text = []; graph = l.graph; given = l.given; rows = l.rows }))

-- an unreadable line ends the trace
abbrev pub unreadable_effect : Lent → Effect
unreadable_effect l = record { text = refused_text unreadable; graph = l.graph; given = l.given; rows = l.rows }

abbrev pub asked_after : List ℕ → Player → Lent → Asked → AfterLine
asked_after xs p l unreadable_line = printing (player_at (length xs)) (unreadable_effect l) l.out
asked_after xs p l (readable_line line next) = printing next (line_effect xs p line l) l.out

unfoldable pub after_line : List ℕ → Player → Lent → AfterLine
after_line xs p l =
    cond (not (lent_fits l)) (record { answer = refused 1; lent = l })
    (cond (leb (length xs) p.place) (record { answer = ended; lent = l }) (asked_after xs p l (asked xs p)))

-- an effect that was made: the graph, the rows, and the bytes from the start of their row
pub record Made (e : Effect) (out : List ℕ) (l : Lent) (written : ℕ) : Type 0 where
  pub graph : l.graph ≡ e.graph
  pub given : l.given ≡ e.given
  pub rows : l.rows ≡ e.rows
  pub text : Written out 0 e.text l.out written

-- an addition's words, in the row that a line is read to
abbrev pub request_words : List ℕ → List ℕ
request_words row =
    word_at row request_collider1 ∷ word_at row request_collider2 ∷ word_at row request_body1 ∷ word_at row request_body1_number ∷ word_at row request_body2 ∷ word_at row request_body2_number
    ∷ word_at row request_contact_events ∷ word_at row request_modify_contacts ∷ word_at row request_speculative_distance ∷ []

-- the same of an addition
pub record AdditionMade (words g out g' out' : List ℕ) (written : ℕ) : Type 0 where
  pub graph : g' ≡ (play_addition (request_of words) g).graph
  pub text : Written out 0 (play_addition (request_of words) g).text out' written

-- what a step's answer prints, from the rows after it; the rows hold what is counted
abbrev pub answer_text : Result StepReport Refusal → List ℕ → List ℕ → List ℕ
answer_text (Ok r) events changes = step_text (events_of (Ok r) events) (changes_of (Ok r) changes)
answer_text (Err r) events changes = refused_text (number_of r)

abbrev pub Room : Result StepReport Refusal → List ℕ → List ℕ → Type 0
Room (Ok r) events changes = (r.events * event_size ≤ length events) × (r.changes * change_size ≤ length changes)
Room (Err r) events changes = Unit {0}

-- the line at the player's place is played
pub record AskedPlayed (xs : List ℕ) (p : Player) (l l' : Lent) (r : PlayedLine) : Type 0 where
  pub answer : played r.player r.written ≡ (asked_after xs p l (asked xs p)).answer
  pub lent : l' ≡ (asked_after xs p l (asked xs p)).lent

-- The promise of `play_line`.
pub record LinePlayed (xs : List ℕ) (p : Player) (l l' : Lent) (r : Result (Option PlayedLine) Refusal) : Type 0 where
  pub answer : plain_answer r ≡ (after_line xs p l).answer
  pub lent : l' ≡ (after_line xs p l).lent
