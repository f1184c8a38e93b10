-- What the lines that are left of a trace amount to, one line more at a time. Assumes nothing.
use Rattle.std.specs.Prelude.{ℕ, suc, ◌≡◌, Bool, cond}
use Rattle.std.proofs.Common.{arith, sym, ap, ◌∙◌}
use Rattle.std.proofs.Math.Path.{refl}
use Rattle.std.proofs.Math.Bool.{true, false}
use mathlib.Core.List.{List, [], ◌∷◌, ◌++◌, append_assoc, append-nil}
use Rattle.contact_graph.specs.Calls.{request_of}
use Rattle.step.specs.Step.{Given, Rows}
use Rattle.trace_rules.specs.Fields.{Line, addition_letter, go_letter}
use Rattle.trace_rules.specs.Reading.{is, Reading, ends, begins}
use Rattle.trace_rules.specs.Records.{step_record, Entry, addition, stepping, entries_from}
use Rattle.trace_rules.specs.Printed.{refused_text, unreadable}
use Rattle.trace_rules.specs.Play.{play_addition, play_go, play_entry, play_entries}
use Rattle.trace_player.specs.Played.{Lent, Effect, go_effect, addition_effect, line_effect}
use Rattle.trace_player.specs.declared.player.Player.{Player}
use Rattle.trace_runs.specs.Plays.{lines_in}
use Rattle.trace_runs.specs.GoLaws.{SameGo}

-- entries that are played on a graph, and bytes after what they print
record EntriesPlayed (es : List Entry) (tail : List ℕ) (g bytes h : List ℕ) : Type 0 where
  text : bytes ≡ (play_entries es g).text ++ tail
  graph : h ≡ (play_entries es g).graph

entry_next : (e : Entry) (es : List Entry) {tail g h bytes : List ℕ} (f : List ℕ) (ws : List ℕ) → ws ≡ (play_entry e g).text → f ≡ (play_entry e g).graph → EntriesPlayed es tail f bytes h
    → EntriesPlayed (e ∷ es) tail g (ws ++ bytes) h
unfolding play_entries
entry_next e es {tail} {g} {h} {bytes} f ws a b p =
    record {
      text = (λ i. a i ++ p.text i) ∙ ap (λ (k : List ℕ). (play_entry e g).text ++ ((play_entries es k).text ++ tail)) b
          ∙ sym (append_assoc (play_entry e g).text (play_entries es (play_entry e g).graph).text tail);
      graph = p.graph ∙ ap (λ (k : List ℕ). (play_entries es k).graph) b;
    }

-- the lines since the last go, after one more
abbrev pub since_after : List Line → Line → List Line
since_after since line = cond (is go_letter line) [] (since ++ line ∷ [])

module _ (since : List Line) (line : Line) (ls : List Line) (g : List ℕ) (x : Given) (l : Rows) (went : Effect) (same : SameGo went (play_go (step_record since) g)) (tail : List ℕ) where
  abbrev effect : Bool → Bool → Effect
  effect a b = cond a went (cond b (addition_effect line.words g x l) (record { text = []; graph = g; given = x; rows = l }))

  by_letter : (a b : Bool) {bytes h : List ℕ} → EntriesPlayed (entries_from (cond a [] (since ++ line ∷ [])) ls) tail (effect a b).graph bytes h
      → EntriesPlayed
      (cond a (stepping (step_record since) ∷ entries_from [] ls) (cond b (addition line.words ∷ entries_from (since ++ line ∷ []) ls) (entries_from (since ++ line ∷ []) ls))) tail g
      ((effect a b).text ++ bytes) h
  unfolding addition_effect play_entry
  by_letter true b {bytes} {h} p = entry_next (stepping (step_record since)) (entries_from [] ls) went.graph went.text same.text same.graph p
  by_letter false true {bytes} {h} p =
      entry_next (addition line.words) (entries_from (since ++ line ∷ []) ls) (play_addition (request_of line.words) g).graph (play_addition (request_of line.words) g).text refl refl p
  by_letter false false {bytes} {h} p = p

-- ---- a reading, with the lines since the last go
pub record ReadingPlayed (r : Reading) (since : List Line) (g : List ℕ) (k : ℕ) (bytes h : List ℕ) : Type 0 where
  pub calls : k ≡ lines_in r
  pub text : bytes ≡ (play_entries (entries_from since r.lines) g).text ++ cond r.unreadable (refused_text unreadable) []
  pub graph : h ≡ (play_entries (entries_from since r.lines) g).graph

pub nothing_played : (since : List Line) (g : List ℕ) → ReadingPlayed (ends false) since g 0 [] g
unfolding entries_from play_entries
nothing_played since g = record { calls = refl; text = refl; graph = refl }

-- an unreadable line, and nothing after it
pub unreadable_played : (since : List Line) (g : List ℕ) {k : ℕ} {bytes h : List ℕ} → ReadingPlayed (ends false) [] g k bytes h
    → ReadingPlayed (ends true) since g (suc k) (refused_text unreadable ++ bytes) h
unfolding entries_from play_entries
unreadable_played since g p =
    record { calls = ap suc p.calls; text = ap (λ (ws : List ℕ). refused_text unreadable ++ ws) p.text ∙ append-nil (refused_text unreadable); graph = p.graph }

-- a line, and what is after it
pub line_played : (xs : List ℕ) (p : Player) (since : List Line) (line : Line) (l : Lent) (r : Reading) {k : ℕ} {bytes h : List ℕ}
    → SameGo (go_effect xs p l.graph l.given l.rows) (play_go (step_record since) l.graph) → ReadingPlayed r (since_after since line) (line_effect xs p line l).graph k bytes h
    → ReadingPlayed (begins line r) since l.graph (suc k) ((line_effect xs p line l).text ++ bytes) h
unfolding line_effect entries_from
line_played xs p since line l r same q =
    let e = by_letter since line r.lines l.graph l.given l.rows (go_effect xs p l.graph l.given l.rows) same (cond r.unreadable (refused_text unreadable) [])
    (is go_letter line) (is addition_letter line) (record { text = q.text; graph = q.graph }) in
    record { calls = omega (arith, q.calls); text = e.text; graph = e.graph }
