-- The claim about whole lists of additions and steps, `Demand3`. Definitions only; the theorem is `demand3` in DemandLaws.antt.
--
-- Each clause of the claim, and the field that says it:
--   take any list of additions and steps, refused ones included, with any worker shares       `runs`: it has a run, on any words; `only`: it has no other
--   from a newly laid out graph                                                               `LaidOut` in `plain` and `replay`
--   each call gets the graph as the last one left it, but for impulses that a solver writes   `Run`; an entry `impulses` is a list of a solver's writes, which are just such changes:
--                                                                                             `impulses_alone`, `impulses_any`
--   in whatever order the shares list pairs and these are updated                             `plain`, `bytes` and `replay` are about `Run Ordered`: each accepted step has an
--                                                                                             order of its own. `in_any_order`: every order has its outcome; `ordered`: the code's
--                                                                                             runs are among these; `unordered`: each of these keeps the promises, so that by
--                                                                                             `only` no order shows anywhere
--   the answers, events and constraint changes in their order, contact distances,             `plain`
--     recycled counts and the graph after each call are those of the plain run
--   lists alike in all but allowed shares and what the bit words held, begun on the same      `bytes`
--     graph bytes and with the same impulses written, leave the same graph
--   its constraint changes, replayed, hold exactly the contacts that touch and generate       `replay`, from the words of the rows that the calls were lent
--     constraints in the plain run, each with its manifold count
--   provided that a generating pair names both its bodies, and ..                             `Provisos` (rules: Runs.antt); both are needed (crate proviso_examples)
-- and of calls through the C functions: `c_runs`, `called`.
--
-- What it rests on, in the order in which to read it: the plain run (rules: the map in Lib.antt, down to Runs.antt); what words record (contact_range: `graph_of`,
-- step: `inputs`); the promises of the calls (contact_graph: Promises.antt, step: Step.antt, which rests on update_pass: Shared.antt and status_pass: Pass.antt); and here Refusals.antt, Solver.antt, Ordered.antt, Runs.antt, Read.antt, Called.antt.
use Rattle.std.specs.Prelude.{ℕ, ◌≡◌, ◌⊎◌, ◌≢◌, true, List, [], ◌∷◌, map, length, Result, ⊤, None}
use Rattle.rows.specs.Rows.{put, each}
use Rattle.rows.specs.Slots.{upto, Distinct, SameMembers}
use Rattle.rules.specs.Graph.{empty_graph}
use Rattle.rules.specs.Runs as rules
use Rattle.rules.specs.Runs.{plain_run, plain_graph, held_in, Provisos}
use Rattle.rules.specs.Status as status
use Rattle.words.specs.Words.{float_word}
use Rattle.contact_graph.specs.Calls.{addition_of}
use Rattle.contact_range.specs.Checked.{Checked}
use Rattle.contact_graph.specs.Impulses.{ImpulsesWritten}
use Rattle.contact_graph.specs.Promises as graph
use Rattle.contact_graph.specs.Promises.{LaidOut, done_answer, add_answer}
use Rattle.contact_range.specs.Recorded.{capacity_of, graph_of}
use Rattle.contact_graph.specs.declared.call.Request.{Request}
use Rattle.layout.specs.Shares.{shares_length}
use Rattle.shares.specs.Shares.{shares_fit}
use Rattle.status_pass.specs.EventsAndChanges.{event_words, change_words}
use Rattle.step.specs.Step as step
use Rattle.step.specs.Step.{Given, Rows, step_refusal, plain_answer}
use Rattle.update_pass.specs.Shared.{active_of}
use Rattle.contact_runs.specs.Called.{CEntry, COutcomes, CRun, AsRun}
use Rattle.contact_runs.specs.Ordered.{InOrder}
use Rattle.step.specs.Read.{events_of, changes_of}
use Rattle.contact_runs.specs.Refusals.{plain_add_refusal, plain_step_refusal}
use Rattle.contact_runs.specs.Runs.{Entry, addition, stepping, impulses, Told, added, stepped, silent, Outcome, Outcomes, end, ◌then◌, Promised, Ordered, Run, AllFit}
use Rattle.contact_runs.specs.Solver.{Write, write_words, plain_of_write}
use Rattle.step.specs.declared.answer.StepReport.{StepReport}
use Rattle.contact_types.specs.declared.refusal.Refusal.{Refusal}
use Rattle.contact_types.specs.declared.contact_id.ContactId.{ContactId}

-- ---- the same list for the plain run
abbrev pub plain_of : Entry → rules.Entry
plain_of (addition a) = rules.addition (plain_add_refusal a) (addition_of a)
plain_of (stepping x l) = rules.stepping (plain_step_refusal x l) (step.inputs x)
plain_of (impulses ws) = rules.impulses (map plain_of_write ws)

-- an accepted step: its report; the events and changes in their order, read back from their rows, the rest of which is as it was; a distance for each id
pub record ReportIs (l l' : Rows) (r : Result StepReport Refusal) (s : status.StepResult) : Type 0 where
  pub answer : plain_answer r ≡ step.stepped (length s.events) (length s.changes) s.recycled
  pub events : events_of r l'.events ≡ s.events
  pub changes : changes_of r l'.changes ≡ s.changes
  pub event_row : l'.events ≡ put l.events 0 (each event_words s.events)
  pub change_row : l'.changes ≡ put l.changes 0 (each change_words s.changes)
  pub distances : l'.distances ≡ map (λ id. float_word (s.max_contact_distance id)) (upto s.graph.capacity)

-- what a call tells is the plain run's answer; a refusal leaves its rows as they were
pub data AnswerIs : (e : Entry) → Told e → rules.Answer → Type 0 where
  addition_refused : {a : Request} {r : Result ContactId Refusal} {n : ℕ} → add_answer r ≡ graph.refused_id n → AnswerIs (addition a) (added r) (rules.refused n)
  addition_made : {a : Request} {r : Result ContactId Refusal} {id : ℕ} → add_answer r ≡ graph.added id → AnswerIs (addition a) (added r) (rules.added id)
  step_refused : {x : Given} {l l' : Rows} {r : Result StepReport Refusal} {n : ℕ} → plain_answer r ≡ step.refused n → l' ≡ l → AnswerIs (stepping x l) (stepped r l') (rules.refused n)
  step_made : {x : Given} {l l' : Rows} {r : Result StepReport Refusal} {s : status.StepResult} → ReportIs l l' r s → AnswerIs (stepping x l) (stepped r l') (rules.stepped s)
  nothing : {ws : List Write} → AnswerIs (impulses ws) silent rules.silent

-- after each entry: the answer, what the graph's words record, and that they are of the right length and in range (so that list and contacts name each other)
pub data AsPlain : (es : List Entry) → Outcomes es → List rules.After → Type 0 where
  plain_end : AsPlain [] end []
  plain_then : {e : Entry} {es : List Entry} {o : Outcome e} {os : Outcomes es} {a : rules.After} {as' : List rules.After}
      → AnswerIs e o.told a.answer → graph_of o.graph ≡ a.graph → Checked o.graph → AsPlain es os as' → AsPlain (e ∷ es) (o then os) (a ∷ as')

-- ---- two lists, alike in all but allowed shares and what the bit words held
-- refusal 1 and refusal 7 have nothing to say of the shares
abbrev pub Allowed : List ℕ → List ℕ → Type 0
Allowed g xs = (length xs ≡ shares_length (capacity_of g)) × (shares_fit xs g ≡ true)

-- of the rows that are written, the lengths are the same
pub record AlikeSteps (g : List ℕ) (x : Given) (l : Rows) (y : Given) (m : Rows) : Type 0 where
  pub settings : y.settings ≡ x.settings
  pub colliders : y.colliders ≡ x.colliders
  pub bodies : y.bodies ≡ x.bodies
  pub proposals : y.proposals ≡ x.proposals
  pub shares : (y.shares ≡ x.shares) ⊎ (Allowed g x.shares × Allowed g y.shares)
  pub bits : length m.bits ≡ length l.bits
  pub events : length m.events ≡ length l.events
  pub changes : length m.changes ≡ length l.changes
  pub distances : length m.distances ≡ length l.distances

pub data Alike (g : List ℕ) : Entry → Entry → Type 0 where
  alike_same : {e : Entry} → Alike g e e
  alike_steps : {x y : Given} {l m : Rows} → AlikeSteps g x l y m → Alike g (stepping x l) (stepping y m)

-- along the first list's run
pub data AllAlike : List ℕ → (es : List Entry) → Outcomes es → List Entry → Type 0 where
  alike_end : {g : List ℕ} → AllAlike g [] end []
  alike_then : {g : List ℕ} {e f : Entry} {es fs : List Entry} {o : Outcome e} {os : Outcomes es}
      → Alike g e f → AllAlike o.graph es os fs → AllAlike g (e ∷ es) (o then os) (f ∷ fs)

-- the same answer; the same events and changes read back, and the same distances where the step is accepted; and a row that was lent the same comes back the same, the bit words apart
pub record SameSteps (l l' m m' : Rows) (r q : Result StepReport Refusal) : Type 0 where
  pub answer : q ≡ r
  pub events : events_of q m'.events ≡ events_of r l'.events
  pub changes : changes_of q m'.changes ≡ changes_of r l'.changes
  pub distances : ((n : ℕ) → plain_answer r ≢ step.refused n) → m'.distances ≡ l'.distances
  pub event_row : m.events ≡ l.events → m'.events ≡ l'.events
  pub change_row : m.changes ≡ l.changes → m'.changes ≡ l'.changes
  pub distance_row : m.distances ≡ l.distances → m'.distances ≡ l'.distances

pub data SameTold : (e f : Entry) → Told e → Told f → Type 0 where
  same_told : {e : Entry} {t : Told e} → SameTold e e t t
  same_steps : {x y : Given} {l l' m m' : Rows} {r q : Result StepReport Refusal} → SameSteps l l' m m' r q → SameTold (stepping x l) (stepping y m) (stepped r l') (stepped q m')

-- after every call the same words of the graph, and the same told
pub data AllSame : (es fs : List Entry) → Outcomes es → Outcomes fs → Type 0 where
  same_end : AllSame [] [] end end
  same_then : {e f : Entry} {es fs : List Entry} {o : Outcome e} {p : Outcome f} {os : Outcomes es} {ps : Outcomes fs}
      → p.graph ≡ o.graph → SameTold e f o.told p.told → AllSame es fs os ps → AllSame (e ∷ es) (f ∷ fs) (o then os) (p then ps)

-- ---- the changes that the calls have written
abbrev pub told_changes : {e : Entry} → Told e → List status.Change
told_changes (added r) = []
told_changes (stepped r l) = changes_of r l.changes
told_changes silent = []

-- replayed in written order; the number of manifolds that a started contact then has is read in the graph that the call left
unfoldable pub replay_told : {es : List Entry} → Outcomes es → rules.Held → rules.Held
replay_told end h = h
replay_told (o then os) h = replay_told os (rules.replay (graph_of o.graph).pairs (told_changes o.told) h)

-- ---- the claim
pub record Demand3 : Type 0 where
  -- every list of calls has a run on any words, and its outcomes are the only ones
  pub runs : (g : List ℕ) (es : List Entry) → AllFit es → (os : Outcomes es) × Run Promised g es os
  pub only : (g : List ℕ) (es : List Entry) (os ps : Outcomes es) → Run Promised g es os → Run Promised g es ps → ps ≡ os
  -- a solver's writes change impulses of stored points of standing contacts alone, and every such change of the graph's words is a list of writes
  pub impulses_alone : (g : List ℕ) → Checked g → (ws : List Write) → ImpulsesWritten g (write_words g ws)
  pub impulses_any : (g h : List ℕ) → Checked g → ImpulsesWritten g h → (ws : List Write) × (write_words g ws ≡ h)
  -- the code's runs are among those in which each accepted step has an order of its own; every order has its outcome; and these runs keep the promises: no order shows in any outcome
  pub ordered : (g : List ℕ) (es : List Entry) (os : Outcomes es) → Run Promised g es os → Run Ordered g es os
  pub in_any_order : (x : Given) (g : List ℕ) (l : Rows) (ids : List ℕ) → step_refusal x g l ≡ 0 → Distinct ids → SameMembers ids (active_of g)
      → (h : List ℕ) × (l' : Rows) × (r : Result StepReport Refusal) × InOrder x g l ids h l' r
  pub unordered : (g : List ℕ) (es : List Entry) (os : Outcomes es) → Run Ordered g es os → Run Promised g es os
  -- from a newly laid out graph, after every call the answer and the graph are the plain run's
  pub plain : (before : List ℕ) (capacity : ℕ) (g : List ℕ) (r : Result ⊤ Refusal) (es : List Entry) (os : Outcomes es)
      → LaidOut before capacity g r → done_answer r ≡ graph.done → Run Ordered g es os → AsPlain es os (plain_run (map plain_of es) (empty_graph capacity))
  -- begun on the same words, alike in all but allowed shares and what the bit words held: the same words after every call, and the same told
  pub bytes : (g : List ℕ) (es fs : List Entry) (os : Outcomes es) (ps : Outcomes fs) → Run Ordered g es os → Run Ordered g fs ps → AllAlike g es os fs → AllSame es fs os ps
  -- under the two provisos, the changes that the calls of the whole list have written, replayed from nothing held, hold the contacts that touch and generate, each with its manifold count
  pub replay : (before : List ℕ) (capacity : ℕ) (g : List ℕ) (r : Result ⊤ Refusal) (es : List Entry) (os : Outcomes es)
      → LaidOut before capacity g r → done_answer r ≡ graph.done → Run Ordered g es os → Provisos (map plain_of es) (empty_graph capacity)
      → (id : ℕ) → replay_told os (λ _. None) id ≡ held_in (plain_graph (map plain_of es) (empty_graph capacity)).pairs id
  -- every list of calls of the C functions has a run, and it is a run of the public calls; a call whose own rows have wrong lengths changes nothing and drops out
  pub c_runs : (g : List ℕ) (cs : List CEntry) → (rs : COutcomes cs) × CRun g cs rs
  pub called : (g : List ℕ) (cs : List CEntry) (rs : COutcomes cs) → CRun g cs rs
      → (es : List Entry) × (os : Outcomes es) × Run Promised g es os × AsRun g cs rs es os
