-- A trace played call by call, and what that amounts to. Definitions only.
use Rattle.std.specs.Prelude.{ℕ, suc, ◌+◌, ◌≡◌, cond, List, [], ◌++◌, length, take, Ok, Some, None}
use Rattle.trace_rules.specs.Reading.{Reading, reading}
use Rattle.trace_rules.specs.Records.{entries}
use Rattle.trace_rules.specs.Play.{play_entries, played}
use Rattle.trace_player.specs.Played.{Lent, LinePlayed}
use Rattle.trace_player.specs.declared.player.Player.{Player}

-- Calls of `play_line`, each with the player that the last one answered, up to one that answers that the trace has ended: how many lines are played, the bytes that
-- the calls write, one after another, and what was lent at the end.
pub data Plays (xs : List ℕ) : Player → Lent → ℕ → List ℕ → Lent → Type 0 where
  play_ends : {p : Player} {l l' : Lent} → LinePlayed xs p l l' (Ok None) → Plays xs p l 0 [] l'
  play_next : {p q : Player} {n k : ℕ} {l l' l'' : Lent} {text : List ℕ} → LinePlayed xs p l l' (Ok (Some (record { player = q; written = n }))) → Plays xs q l' k text l''
      → Plays xs p l (suc k) (take n l'.out ++ text) l''

-- how many lines a trace has: those that are read, and an unreadable one
abbrev pub lines_in : Reading → ℕ
lines_in r = length r.lines + cond r.unreadable 1 0

-- the graph after a whole trace
abbrev pub played_graph : List ℕ → List ℕ → List ℕ
played_graph xs g = (play_entries (entries (reading xs).lines) g).graph

-- a trace that was played from its beginning to its end
pub record TracePlayed (xs : List ℕ) (l : Lent) (k : ℕ) (bytes : List ℕ) (l' : Lent) : Type 0 where
  pub calls : k ≡ lines_in (reading xs)
  pub text : bytes ≡ played xs l.graph
  pub graph : l'.graph ≡ played_graph xs l.graph
