-- In the plain run of a list of calls an addition that is not refused finds room, so the replay of its changes holds what the graph holds.
-- The changes that the calls themselves have written, read back and replayed, do the same. Assumes nothing.
use Prim.Native.Nat.{ℕ, zero, suc}
use Rattle.std.specs.Prelude.{◌≡◌, refl, Bool, true, eqb, length, Result, None}
use Rattle.std.proofs.Common.{sym, subst, ◌∙◌, eqb-true}
use Rattle.std.proofs.Math.Path.{ap}
use Rattle.std.proofs.Math.Bool.{cond}
use mathlib.Core.List.{List, [], ◌∷◌, map}
use Rattle.std.proofs.lemmas.Bool.{eqb-false}
use Rattle.std.proofs.Math.Dec.{eqb-suc-zero}
use Rattle.rule_laws.specs.AnswerLaws.{answers_replay_holds}
use Rattle.rules.specs.Graph.{Graph, empty_graph, plain_add, new_id}
use Rattle.rules.specs.Records.{Pair}
use Rattle.rule_laws.specs.ReplayLaws.{Sound, empty_sound, sound_room, call_sound}
use Rattle.rules.specs.Runs.{Answer, added, stepped, After, unless_refused, plain_call, plain_run, plain_graph, Held, replay, held_in, Provisos}
use Rattle.rule_laws.specs.Replayed.{replay_answer, replay_answers, RoomAt, Room}
use Rattle.rules.specs.Status.{Change, plain_step}
use Rattle.contact_graph.specs.AddedGraphLaws.{passed}
use Rattle.contact_graph.specs.Calls.{addition_of, request_fits}
use Rattle.contact_range.specs.Checked.{Checked}
use Rattle.contact_range.specs.Range.{same_colliders}
use Rattle.contact_range.specs.RangeLaws.{holds}
use Rattle.contact_range.specs.Recorded.{graph_of}
use Rattle.contact_graph.specs.declared.call.Request.{Request}
use Rattle.step.specs.Step as step
use Rattle.step.specs.Step.{Given, Rows, step_refusal, inputs, pass_of, rows_of, answer_of, plain_answer}
use Rattle.step.proofs.StepLaws.{step_means}
use Rattle.contact_runs.specs.Runs as runs
use Rattle.contact_runs.specs.Claim.{plain_of, told_changes, replay_told}
use Rattle.contact_runs.specs.Runs.{Entry, addition, stepping, impulses, Told, Outcomes, end, ◌then◌, Promised, Run}
use Rattle.contact_runs.specs.RefusalLaws.{step_refusal_lem}
use Rattle.contact_runs.specs.Refusals.{some_pair, plain_add_refusal}
use Rattle.contact_runs.specs.RunLaws.{call_plain}
use Rattle.step.proofs.ReadLaws.{refused_changes, changes_read}
use Rattle.step.specs.declared.answer.StepReport.{StepReport}
use Rattle.contact_types.specs.declared.refusal.Refusal.{Refusal}

-- the number 5 of an addition
add_spare : (a : Request) (g : Graph) → plain_add_refusal a g ≡ 0 → length g.pairs ≡ g.capacity → ⊥
unfolding plain_add_refusal
add_spare a g e =
    eqb-false (length g.pairs) g.capacity
    (passed true true (request_fits a) (eqb a.collider1 a.collider2)
    (some_pair (λ (p : Pair). same_colliders a.collider1 a.collider2 p.names.collider1 p.names.collider2) g.pairs) (eqb (length g.pairs) g.capacity) e).5

pub room_at : (e : Entry) (g : Graph) → Sound g → RoomAt (plain_of e) g
unfolding RoomAt
room_at (addition a) g s = λ t. sound_room g s (add_spare a g (eqb-true (plain_add_refusal a g) 0 (holds (eqb (plain_add_refusal a g) 0) t)))
room_at (stepping x l) g s = tt
room_at (impulses h) g s = tt

pub room_along : (es : List Entry) (g : Graph) → Sound g → Room (map plain_of es) g
unfolding Room
room_along [] g s = tt
room_along (e ∷ es) g s = let q = room_at e g s in (q, room_along es (plain_call (plain_of e) g).graph (call_sound (plain_of e) g s q))

pub replay_plain : (es : List Entry) (capacity : ℕ) → Provisos (map plain_of es) (empty_graph capacity)
    → (id : ℕ) → replay_answers (plain_run (map plain_of es) (empty_graph capacity)) (λ _. None) id ≡ held_in (plain_graph (map plain_of es) (empty_graph capacity)).pairs id
replay_plain es capacity p id = answers_replay_holds capacity (map plain_of es) p (room_along es (empty_graph capacity) (empty_sound capacity)) id

-- ---- the changes that the calls have written
-- replayed after a call, they do what the plain answer does
abbrev Replays : (e : Entry) → Told e → List ℕ → After → Type 0
Replays e t h a = (k : Held) → replay (graph_of h).pairs (told_changes t) k ≡ replay_answer a.answer k

module _ (g : List ℕ) (x : Given) (l : Rows) where
  abbrev plain_stepped : After
  plain_stepped = record { graph = (plain_step (inputs x) (graph_of g)).graph; answer = stepped (plain_step (inputs x) (graph_of g)) }

  step_replays : (h : List ℕ) (l' : Rows) (r : Result StepReport Refusal) (n : ℕ) → step_refusal x g l ≡ n
      → plain_answer r ≡ cond (eqb n 0) (answer_of x g) (step.refused n) → h ≡ cond (eqb n 0) (pass_of x g).graph g → l' ≡ cond (eqb n 0) (rows_of x g l) l
      → Replays (stepping x l) (runs.stepped r l') h (unless_refused n (graph_of g) plain_stepped)
  unfolding replay replay_answer
  step_replays h l' r zero z p q s k =
      let m = step_means x g l z in
      let told = changes_read x g l z l' r p s ∙ m.changes in
      let left = ap graph_of q ∙ m.graph in
      λ i. replay (left i).pairs (told i) k
  step_replays h l' r (suc n) z p q s k =
      let e = p ∙ ap (λ (b : Bool). cond b (answer_of x g) (step.refused (suc n))) (eqb-suc-zero n) in
      ap (λ (cs : List Change). replay (graph_of h).pairs cs k) (refused_changes r l'.changes (suc n) e)

add_silent : (n : ℕ) (g : Graph) (a : After) (id : ℕ) (k : Held) → a.answer ≡ added id → k ≡ replay_answer (unless_refused n g a).answer k
unfolding replay_answer
add_silent zero g a id k e = ap (λ (b : Answer). replay_answer b k) (sym e)
add_silent (suc n) g a id k e = refl

call_replays : (g : List ℕ) → Checked g → {e : Entry} {t : Told e} {h : List ℕ} → Promised g e t h → Replays e t h (plain_call (plain_of e) (graph_of g))
unfolding plain_call replay replay_answer
call_replays g c (runs.Promised.adds {a} f m) k =
    add_silent (plain_add_refusal a (graph_of g)) (graph_of g) (record { graph = plain_add (addition_of a) (graph_of g); answer = added (new_id (graph_of g)) }) (new_id (graph_of g)) k refl
call_replays g c (runs.Promised.steps {x} {l} {l'} {r} {h} m) k =
    subst (λ (n : ℕ). Replays (stepping x l) (runs.stepped r l') h (unless_refused n (graph_of g) (plain_stepped g x l))) (step_refusal_lem c x l)
    (step_replays g x l h l' r (step_refusal x g l) refl m.answer m.graph m.rows) k
call_replays g c runs.Promised.writes k = refl

pub run_replays : (g : List ℕ) → Checked g → (es : List Entry) (os : Outcomes es) → Run Promised g es os → (k : Held)
    → replay_told os k ≡ replay_answers (plain_run (map plain_of es) (graph_of g)) k
unfolding Run replay_told plain_run replay_answers
run_replays g c [] end r k = refl
run_replays g c (e ∷ es) (o then os) r k =
    let m = call_plain g c r.0 in
    ap (replay_told os) (call_replays g c r.0 k) ∙ run_replays o.graph m.0 es os r.1 (replay_answer (plain_call (plain_of e) (graph_of g)).answer k)
    ∙ ap (λ (p : Graph). replay_answers (plain_run (map plain_of es) p) (replay_answer (plain_call (plain_of e) (graph_of g)).answer k)) m.2
