-- What a trace prints is what the same calls give directly, and these calls are a run, so that the claim about runs holds of them. Assumes nothing.
use Rattle.std.specs.Prelude.{ℕ, ◌≡◌, refl, Bool, cond, List, [], ◌∷◌, ◌++◌, eqb, Err, Ok, Result}
use Rattle.std.proofs.Common.{sym, subst, ◌∙◌}
use Rattle.std.proofs.Math.Path.{ap}
use Rattle.std.proofs.Math.Bool.{true, false}
use Rattle.words.specs.WordLaws.{read_fits}
use Rattle.contact_types.specs.Refusals.{number_of}
use Rattle.layout.specs.Request.{request_speculative_distance}
use Rattle.contact_range.specs.Recorded.{capacity_of}
use Rattle.contact_graph.specs.Calls.{request_of, add_refusal, added_words}
use Rattle.contact_graph.specs.DeterminedLaws.{add_answered}
use Rattle.contact_graph.specs.Promises.{Added}
use Rattle.step.specs.DeterminedLaws.{step_answered}
use Rattle.step.specs.Step.{Given, Rows, Stepped, step_refusal, pass_of, rows_of}
use Rattle.contact_runs.specs.Runs as runs
use Rattle.contact_runs.specs.Runs.{Told, Outcomes, end, ◌then◌, Promised, Run}
use Rattle.trace_rules.specs.Play.{Played, given_by, blank_rows, go_refusal, play_entry, play_entries, played}
use Rattle.trace_rules.specs.Printed.{step_text, refused_text, unreadable}
use Rattle.trace_rules.specs.Reading.{reading}
use Rattle.trace_rules.specs.Records.{StepRecord, Entry, addition, stepping, entries}
use Rattle.trace_player.specs.Played.{Effect, answer_text, step_effect}
use Rattle.trace_player.specs.PlayLaws.{addition_accepted, addition_refused, step_told}
use Rattle.trace_runs.specs.Calls.{addition_text, AsCalls, as_end, as_addition, as_step, as_unfit, last_graph}
use Rattle.step.specs.declared.answer.StepReport.{StepReport}
use Rattle.contact_types.specs.declared.refusal.Refusal.{Refusal}
use Rattle.contact_types.specs.declared.contact_id.ContactId.{ContactId}

-- ---- one entry: what its call's answer prints, and the graph after it
abbrev PlaysAs : Entry → List ℕ → List ℕ → List ℕ → Type 0
PlaysAs e g text h = (text ≡ (play_entry e g).text) × (h ≡ (play_entry e g).graph)

addition_plays : (words g h : List ℕ) (r : Result ContactId Refusal) → Added g (request_of words) h r → PlaysAs (addition words) g (addition_text r) h
unfolding play_entry
addition_plays words g h (Ok id) k = let t = addition_accepted g (request_of words) h (Ok id) k tt in (sym t.1, t.0)
addition_plays words g h (Err r) k = let t = addition_refused g (request_of words) h (Err r) (number_of r) k refl in (sym t.1, t.0)

module _ (s : StepRecord) (g : List ℕ) where
  abbrev x : Given
  x = given_by s g

  abbrev l : Rows
  l = blank_rows (capacity_of g)

  abbrev played_at : ℕ → Played
  played_at n = cond (eqb n 0) (record { text = step_text (pass_of x g).events (pass_of x g).changes; graph = (pass_of x g).graph }) (record { text = refused_text n; graph = g })

  abbrev step_by : Bool → Effect
  step_by t =
      cond t (record { text = step_text (pass_of x g).events (pass_of x g).changes; graph = (pass_of x g).graph; given = x; rows = rows_of x g l })
      (record { text = refused_text (step_refusal x g l); graph = g; given = x; rows = l })

  abbrev played_by : Bool → Played
  played_by t = cond t (record { text = step_text (pass_of x g).events (pass_of x g).changes; graph = (pass_of x g).graph }) (record { text = refused_text (step_refusal x g l); graph = g })

  go_number : (b : Bool) → s.fits ≡ b → go_refusal s g ≡ cond b (step_refusal x g l) 2
  unfolding go_refusal
  go_number b e = rw e

  effect_played : ((step_effect x g l).text ≡ (played_at (step_refusal x g l)).text) × ((step_effect x g l).graph ≡ (played_at (step_refusal x g l)).graph)
  unfolding step_effect
  effect_played = by (eqb (step_refusal x g l) 0)
    where
      by : (t : Bool) → ((step_by t).text ≡ (played_by t).text) × ((step_by t).graph ≡ (played_by t).graph)
      by true = (refl, refl)
      by false = (refl, refl)

  step_plays : (h : List ℕ) (l' : Rows) (r : Result StepReport Refusal) → s.fits ≡ true → Stepped x g l h l' r → PlaysAs (stepping s) g (answer_text r l'.events l'.changes) h
  unfolding play_entry
  step_plays h l' r e k =
      let t = step_told x g l h l' r k in
      let n = ap played_at (sym (go_number true e)) in
      (t.0 ∙ effect_played.0 ∙ ap (λ (p : Played). p.text) n, t.1 ∙ effect_played.1 ∙ ap (λ (p : Played). p.graph) n)

  unfit_plays : s.fits ≡ false → PlaysAs (stepping s) g (refused_text 2) g
  unfolding play_entry
  unfit_plays e = let n = ap played_at (sym (go_number false e)) in (ap (λ (p : Played). p.text) n, ap (λ (p : Played). p.graph) n)

-- ---- the calls of a list print what playing it prints, and leave its graph
plays_on : (e : Entry) (es : List Entry) (g h first rest last : List ℕ) → PlaysAs e g first h → (rest ≡ (play_entries es h).text) × (last ≡ (play_entries es h).graph)
    → (first ++ rest ≡ (play_entries (e ∷ es) g).text) × (last ≡ (play_entries (e ∷ es) g).graph)
unfolding play_entries
plays_on e es g h first rest last p q =
    let text : rest ≡ (play_entries es (play_entry e g).graph).text = q.0 ∙ ap (λ (w : List ℕ). (play_entries es w).text) p.1 in
    (λ i. p.0 i ++ text i, q.1 ∙ ap (λ (w : List ℕ). (play_entries es w).graph) p.1)

-- the promise that a call keeps
abbrev Kept : List ℕ → (e : runs.Entry) → Told e → List ℕ → Type 0
Kept g (runs.addition a) (runs.added r) h = Added g a h r
Kept g (runs.stepping x l) (runs.stepped r l') h = Stepped x g l h l' r
Kept g (runs.impulses ws) runs.silent h = Unit {0}

kept_by : {g h : List ℕ} {e : runs.Entry} {t : Told e} → Promised g e t h → Kept g e t h
kept_by (runs.Promised.adds f k) = k
kept_by (runs.Promised.steps k) = k
kept_by runs.Promised.writes = tt

pub calls_play : {g text : List ℕ} {es : List Entry} {cs : List runs.Entry} {os : Outcomes cs} → AsCalls g es cs os text → Run Promised g cs os
    → (text ≡ (play_entries es g).text) × (last_graph g os ≡ (play_entries es g).graph)
unfolding Run play_entries last_graph
calls_play as_end k = (refl, refl)
calls_play (as_addition {g} {h} {words} {text} {es} {cs} {os} {r} m) k =
    plays_on (addition words) es g h (addition_text r) text (last_graph h os) (addition_plays words g h r (kept_by k.0)) (calls_play m k.1)
calls_play (as_step {g} {h} {text} {s} {es} {cs} {os} {r} {l} e m) k =
    plays_on (stepping s) es g h (answer_text r l.events l.changes) text (last_graph h os) (step_plays s g h l r e (kept_by k.0)) (calls_play m k.1)
calls_play (as_unfit {g} {text} {s} {es} {cs} {os} e m) k = plays_on (stepping s) es g g (refused_text 2) text (last_graph g os) (unfit_plays s g e) (calls_play m k)

-- ---- every list has its calls
abbrev CallsOf : List ℕ → List Entry → Type 0
CallsOf g es = (cs : List runs.Entry) × (os : Outcomes cs) × (text : List ℕ) × Run Promised g cs os × AsCalls g es cs os text

addition_called : (g h words : List ℕ) (es : List Entry) (r : Result ContactId Refusal) → Added g (request_of words) h r → CallsOf h es → CallsOf g (addition words ∷ es)
unfolding Run
addition_called g h words es r k (cs, os, text, run, m) = (
  runs.addition (request_of words) ∷ cs,
  record { told = runs.added r; graph = h } then os,
  addition_text r ++ text,
  (runs.Promised.adds (read_fits words request_speculative_distance) k, run),
  as_addition m,
)

step_called : (g h : List ℕ) (s : StepRecord) (es : List Entry) (r : Result StepReport Refusal) (l : Rows) → s.fits ≡ true → Stepped (given_by s g) g (blank_rows (capacity_of g)) h l r → CallsOf h es
    → CallsOf g (stepping s ∷ es)
unfolding Run
step_called g h s es r l e k (cs, os, text, run, m) = (
  runs.stepping (given_by s g) (blank_rows (capacity_of g)) ∷ cs,
  record { told = runs.stepped r l; graph = h } then os,
  answer_text r l.events l.changes ++ text,
  (runs.Promised.steps k, run),
  as_step e m,
)

unfit_called : (g : List ℕ) (s : StepRecord) (es : List Entry) → s.fits ≡ false → CallsOf g es → CallsOf g (stepping s ∷ es)
unfit_called g s es e (cs, os, text, run, m) = (cs, os, refused_text 2 ++ text, run, as_unfit e m)

-- the graph after a step's call
abbrev stepped_graph : StepRecord → List ℕ → List ℕ
stepped_graph s g = cond (eqb (step_refusal (given_by s g) g (blank_rows (capacity_of g))) 0) (pass_of (given_by s g) g).graph g

go_called : (g : List ℕ) (s : StepRecord) (es : List Entry) (b : Bool) → s.fits ≡ b → CallsOf (stepped_graph s g) es → CallsOf g es → CallsOf g (stepping s ∷ es)
go_called g s es true e after same =
    let x = given_by s g in
    let l = blank_rows (capacity_of g) in
    let a = step_answered x g l in
    step_called g (stepped_graph s g) s es a.0 (cond (eqb (step_refusal x g l) 0) (rows_of x g l) l) e a.1 after
go_called g s es false e after same = unfit_called g s es e same

calls_of : (g : List ℕ) (es : List Entry) → CallsOf g es
unfolding Run
calls_of g [] = ([], end, [], tt, as_end)
calls_of g (addition words ∷ es) =
    let a = request_of words in
    let h = cond (eqb (add_refusal g a) 0) (added_words g a) g in
    let k = add_answered g a in
    addition_called g h words es k.0 k.1 (calls_of h es)
calls_of g (stepping s ∷ es) = go_called g s es s.fits refl (calls_of (stepped_graph s g) es) (calls_of g es)

-- the calls of a list of entries are a run, and print what playing the list prints
pub play_calls : (g : List ℕ) (es : List Entry) → (cs : List runs.Entry) × (os : Outcomes cs) × Run Promised g cs os × AsCalls g es cs os (play_entries es g).text
play_calls g es =
    let c = calls_of g es in
    (c.0, c.1, c.3, subst (AsCalls g es c.0 c.1) (calls_play c.4 c.3).0 c.4)

-- so with a whole trace, up to what an unreadable line prints
pub trace_calls : (xs g : List ℕ)
    → (cs : List runs.Entry) × (os : Outcomes cs) × (text : List ℕ) × Run Promised g cs os × AsCalls g (entries (reading xs).lines) cs os text
    × (played xs g ≡ text ++ cond (reading xs).unreadable (refused_text unreadable) [])
unfolding played
trace_calls xs g = let c = play_calls g (entries (reading xs).lines) in (c.0, c.1, (play_entries (entries (reading xs).lines) g).text, c.2, c.3, refl)
