-- Additions and step records, from a trace's lines: docs/TRACES.md, 'What lines mean'. Definitions only.
use Rattle.std.specs.Prelude.{ℕ, ◌*◌, Bool, true, cond, ◌&&◌, ◌||◌, List, [], ◌∷◌, ◌++◌, get_or, drop, Option, None, Some}
use Rattle.rows.specs.Rows.{put}
use Rattle.layout.specs.Body.{body_size, bodies_length}
use Rattle.layout.specs.Collider.{collider_size, colliders_length}
use Rattle.layout.specs.Settings.{settings_length}
use Rattle.manifold_records.specs.Written.{zeros}
use Rattle.contact_range.specs.Range.{same_colliders}
use Rattle.trace_rules.specs.Fields.{Line, addition_letter, settings_letter, collider_letter, body_letter, hook_letter, manifold_letter, point_letter, go_letter}
use Rattle.trace_rules.specs.Reading.{is}

abbrev pub word_of : Line → ℕ → ℕ
word_of l k = get_or l.words k 0

-- one line after another
unfoldable pub fold : {S : Type 0} → (S → Line → S) → S → List Line → S
fold f s [] = s
fold f s (l ∷ ls) = fold f (f s l) ls

-- ---- rows: the last line of one number counts
unfoldable pub settings_after : List ℕ → Line → List ℕ
settings_after row l = cond (is settings_letter l) (put row 0 l.words) row

-- a line's first word is the record's number, the others its words behind the presence mark
unfoldable pub record_after : ℕ → ℕ → List ℕ → Line → List ℕ
record_after letter size row l = cond (is letter l) (put row (word_of l 0 * size) (1 ∷ drop 1 l.words)) row

-- ---- a pair's proposal: the hook's last answer, every manifold with the points below it
pub record Manifold : Type 0 where
  pub normal : List ℕ
  pub points : List (List ℕ)

pub record Proposal : Type 0 where
  pub hook : ℕ
  pub manifolds : List Manifold

-- the manifolds that no point can join any more, and the one that points may
pub record Proposing : Type 0 where
  pub hook : ℕ
  pub closed : List Manifold
  pub last : Option Manifold

abbrev pub at_most_one : Option Manifold → List Manifold
at_most_one None = []
at_most_one (Some m) = m ∷ []

abbrev pub proposed : Proposing → Proposal
proposed s = record { hook = s.hook; manifolds = s.closed ++ at_most_one s.last }

-- the hook says yes, unless a line says otherwise
abbrev pub unproposed : Proposing
unproposed = record { hook = 1; closed = []; last = None }

-- the line names the pair, in either order
abbrev pub of_pair : ℕ → ℕ → Line → Bool
of_pair a b l = same_colliders a b (word_of l 0) (word_of l 1)

abbrev pub new_manifold : Line → Manifold
new_manifold l = record { normal = drop 2 l.words; points = [] }

abbrev pub with_point : Option Manifold → Line → Option Manifold
with_point None l = None
with_point (Some m) l = Some (record { normal = m.normal; points = m.points ++ l.words ∷ [] })

unfoldable pub proposing_after : ℕ → ℕ → Proposing → Line → Proposing
proposing_after a b s l =
    cond (is hook_letter l) (cond (of_pair a b l) (record { hook = word_of l 2; closed = s.closed; last = s.last }) s)
    (cond (is manifold_letter l) (record { hook = s.hook; closed = s.closed ++ at_most_one s.last; last = cond (of_pair a b l) (Some (new_manifold l)) None })
    (cond (is point_letter l) (record { hook = s.hook; closed = s.closed; last = with_point s.last l }) s))

-- ---- what a step is given by the lines since the last go
pub record StepRecord : Type 0 where
  pub settings : List ℕ
  pub colliders : List ℕ
  pub bodies : List ℕ
  pub proposal : ℕ → ℕ → Proposal
  pub fits : Bool

-- an addition answers for its own numbers
unfoldable pub fits_after : Bool → Line → Bool
fits_after fits l = fits && (is addition_letter l || l.fits)

unfoldable pub step_record : List Line → StepRecord
step_record ls =
    record {
      settings = fold settings_after (zeros settings_length) ls;
      colliders = fold (record_after collider_letter collider_size) (zeros colliders_length) ls;
      bodies = fold (record_after body_letter body_size) (zeros bodies_length) ls;
      proposal = λ a b. proposed (fold (proposing_after a b) unproposed ls);
      fits = fold fits_after true ls;
    }

-- ---- a trace as a list of additions and steps; lines after the last go make no step
pub data Entry : Type 0 where
  addition : (words : List ℕ) → Entry
  stepping : StepRecord → Entry

-- with the lines since the last go
unfoldable pub entries_from : List Line → List Line → List Entry
entries_from since [] = []
entries_from since (l ∷ ls) =
    cond (is go_letter l) (stepping (step_record since) ∷ entries_from [] ls)
    (cond (is addition_letter l) (addition l.words ∷ entries_from (since ++ l ∷ []) ls) (entries_from (since ++ l ∷ []) ls))

unfoldable pub entries : List Line → List Entry
entries ls = entries_from [] ls
