-- What an addition and a step print, from what the calls promise. Assumes nothing.
use Rattle.std.specs.Prelude.{ℕ, ◌≡◌, Bool, ◌&&◌, List, [], Err, Ok, Result}
use Rattle.std.proofs.Common.{arith, sym, ap₂, subst, ◌∙◌}
use Rattle.std.proofs.Math.Path.{refl, ap}
use Rattle.std.proofs.Math.Bool.{true, false, cond}
use Rattle.std.proofs.Math.Dec.{eqb}
use borrow.Author.Tests.{eqb-true}
use Rattle.std.proofs.Math.ListN.{length}
use Rattle.rows.specs.Rows.{put, each}
use Rattle.rows.specs.Laws.{length_put}
use Rattle.text.specs.Text.{Written}
use Rattle.contact_types.specs.Refusals.{number_of}
use Rattle.contact_graph.specs.CallLaws.{checked}
use Rattle.contact_graph.specs.Calls.{add_refusal, new_id_of, added_words}
use Rattle.contact_graph.specs.Promises as graph
use Rattle.contact_graph.specs.Promises.{Added, add_answer}
use Rattle.contact_graph.specs.declared.call.Request.{Request}
use Rattle.status_pass.specs.EventsAndChanges.{event_words, change_words}
use Rattle.step.specs.Step as step
use Rattle.step.specs.Step.{Given, Rows, given_long, rows_long, lengths_fit, step_refusal, pass_of, rows_of, answer_of, Stepped}
use Rattle.step.proofs.ReadLaws.{events_room, changes_room, events_read, changes_read}
use Rattle.step.specs.declared.answer.StepReport.{StepReport}
use Rattle.trace_rules.specs.Printed.{step_text, refused_text}
use Rattle.trace_rules.specs.Play.{Played, play_addition, given_by}
use Rattle.trace_rules.specs.Records.{step_record}
use Rattle.contact_range.specs.Checked.{Checked}
use Rattle.contact_range.specs.Range.{right_length, in_range}
use Rattle.contact_range.specs.Recorded.{capacity_of}
use Rattle.trace_rules.specs.Places.{lines_between}
use Rattle.trace_player.specs.declared.player.Player.{Player}
use Rattle.trace_player.specs.Played.{lent, Effect, step_effect, go_effect, Made, answer_text, Room}
use Rattle.contact_types.specs.declared.refusal.Refusal.{Refusal}
use Rattle.contact_types.specs.declared.contact_id.ContactId.{ContactId}

-- ---- an addition
abbrev pub IsAdded : graph.IdAnswer → Type 0
IsAdded (graph.refused_id n) = ⊥
IsAdded (graph.added id) = Unit {0}

abbrev refused_number : graph.IdAnswer → ℕ
refused_number (graph.refused_id n) = n
refused_number (graph.added id) = 0

abbrev addition_by : Bool → List ℕ → ℕ → List ℕ → Played
addition_by t words n g = cond t (record { text = []; graph = words }) (record { text = refused_text n; graph = g })

-- an accepted one prints nothing
pub addition_accepted : (g : List ℕ) (a : Request) (h : List ℕ) (r : Result ContactId Refusal) → Added g a h r → IsAdded (add_answer r) → (h ≡ (play_addition a g).graph) × ((play_addition a g).text ≡ [])
addition_accepted g a h r p is = by (eqb (add_refusal g a) 0) (subst IsAdded p.answer is) p.graph
  where
    by : (t : Bool) → IsAdded (cond t (graph.added (new_id_of g)) (graph.refused_id (add_refusal g a))) → h ≡ cond t (added_words g a) g
        → (h ≡ (addition_by t (added_words g a) (add_refusal g a) g).graph) × ((addition_by t (added_words g a) (add_refusal g a) g).text ≡ [])
    by true i e = (e, refl)
    by false i e = absurd i

-- a refused one its number
pub addition_refused : (g : List ℕ) (a : Request) (h : List ℕ) (r : Result ContactId Refusal) (n : ℕ) → Added g a h r → add_answer r ≡ graph.refused_id n
    → (h ≡ (play_addition a g).graph) × ((play_addition a g).text ≡ refused_text n)
addition_refused g a h r n p e = by (eqb (add_refusal g a) 0) (sym e ∙ p.answer) p.graph
  where
    by : (t : Bool) → graph.refused_id n ≡ cond t (graph.added (new_id_of g)) (graph.refused_id (add_refusal g a)) → h ≡ cond t (added_words g a) g
        → (h ≡ (addition_by t (added_words g a) (add_refusal g a) g).graph) × ((addition_by t (added_words g a) (add_refusal g a) g).text ≡ refused_text n)
    by true i e = absurd (subst IsAdded (sym i) tt)
    by false i e = (e, ap (λ (b : graph.IdAnswer). refused_text (refused_number b)) (sym i))

pub added_for : {g h : List ℕ} {a b : Request} {r : Result ContactId Refusal} → a ≡ b → Added g a h r → Added g b h r
added_for {g} {h} {a} {b} {r} e p = subst (λ (q : Request). Added g q h r) e p

pub written_as : {out out' as' bs : List ℕ} {at r : ℕ} → as' ≡ bs → Written out at as' out' r → Written out at bs out' r
written_as {out} {out'} {as'} {bs} {at} {r} e p = subst (λ (ws : List ℕ). Written out at ws out' r) e p

-- nothing printed
pub nothing_written : (out : List ℕ) → Written out 0 [] out 0
unfolding put
nothing_written out = record { count = refl; stored = refl }

-- ---- lengths
pub first_true : (a b : Bool) → (a && b) ≡ true → a ≡ true
first_true true b e = refl
first_true false b e = e

pub second_true : (a b : Bool) → (a && b) ≡ true → b ≡ true
second_true true b e = e
second_true false b e = absurd (subst (λ (t : Bool). cond t ⊥ (Unit {0})) e tt)

pub length_parts : (x : Given) (g : List ℕ) (l : Rows) → lengths_fit x g l ≡ true
    → (right_length g ≡ true) × (given_long x (capacity_of g) ≡ true) × (rows_long l (capacity_of g) ≡ true)
unfolding lengths_fit
length_parts x g l e =
    let a = right_length g in
    let b = given_long x (capacity_of g) in
    let c = rows_long l (capacity_of g) in
    let r = second_true a (b && c) e in
    (first_true a (b && c) e, first_true b c r, second_true b c r)

-- ---- a go
module _ (xs : List ℕ) (p : Player) (g : List ℕ) (x : Given) (l : Rows) {out out' : List ℕ} {n : ℕ} where
  pub go_refused : (p.fits && in_range g) ≡ false → Written out 0 (refused_text 2) out' n → Made (go_effect xs p g x l) out (lent g x l out') n
  unfolding go_effect
  go_refused f w = rw f (record { graph = refl; given = refl; rows = refl; text = w })

  pub go_made : {h : List ℕ} {y : Given} {l' : Rows} → (p.fits && in_range g) ≡ true → y ≡ given_by (step_record (lines_between xs p.stretch p.place)) g
      → Made (step_effect y g l) out (lent h y l' out') n → Made (go_effect xs p g x l) out (lent h y l' out') n
  unfolding go_effect
  go_made {h} {y} {l'} f e m = rw f (subst (λ (z : Given). Made (step_effect z g l) out (lent h y l' out') n) e m)

pub go_checked : (p : Player) (g : List ℕ) → (p.fits && in_range g) ≡ true → right_length g ≡ true → Checked g
go_checked p g f r = checked r (second_true p.fits (in_range g) f)

-- ---- a step
abbrev IsDone : step.Answer → Type 0
IsDone (step.refused n) = ⊥
IsDone (step.stepped events changes recycled) = Unit {0}

abbrev step_number : step.Answer → ℕ
step_number (step.refused n) = n
step_number (step.stepped events changes recycled) = 0

abbrev events_in : step.Answer → ℕ
events_in (step.refused n) = 0
events_in (step.stepped events changes recycled) = events

abbrev changes_in : step.Answer → ℕ
changes_in (step.refused n) = 0
changes_in (step.stepped events changes recycled) = changes

abbrev step_by : Bool → Given → List ℕ → Rows → Effect
step_by t x g l =
    cond t (record { text = step_text (pass_of x g).events (pass_of x g).changes; graph = (pass_of x g).graph; given = x; rows = rows_of x g l })
    (record { text = refused_text (step_refusal x g l); graph = g; given = x; rows = l })

module _ (x : Given) (g : List ℕ) (l : Rows) where
  -- an accepted step
  done_room : (h : List ℕ) (l' : Rows) (r : StepReport) → step_refusal x g l ≡ 0 → step.stepped r.events r.changes r.recycled ≡ answer_of x g → l' ≡ rows_of x g l
      → Room (Ok r) l'.events l'.changes
  unfolding answer_of rows_of
  done_room h l' r e a m =
      let n : r.events ≡ length (pass_of x g).events = ap events_in a in
      let k : r.changes ≡ length (pass_of x g).changes = ap changes_in a in
      let p : length l'.events ≡ length l.events = ap (λ (s : Rows). length s.events) m ∙ length_put l.events 0 (each event_words (pass_of x g).events) in
      let q : length l'.changes ≡ length l.changes = ap (λ (s : Rows). length s.changes) m ∙ length_put l.changes 0 (each change_words (pass_of x g).changes) in
      let u = events_room x g l e in
      let v = changes_room x g l e in
      (omega (arith, n, p, u), omega (arith, k, q, v))

  done_answer : IsDone (answer_of x g)
  unfolding answer_of
  done_answer = tt

  pub step_room : (h : List ℕ) (l' : Rows) (r : Result StepReport Refusal) → Stepped x g l h l' r → Room r l'.events l'.changes
  step_room h l' (Err r) s = tt
  step_room h l' (Ok r) s = by (eqb (step_refusal x g l) 0) refl s.answer s.rows
    where
      by : (t : Bool) → eqb (step_refusal x g l) 0 ≡ t → step.stepped r.events r.changes r.recycled ≡ cond t (answer_of x g) (step.refused (step_refusal x g l))
          → l' ≡ cond t (rows_of x g l) l → Room (Ok r) l'.events l'.changes
      by true e a m = done_room h l' r (eqb-true (step_refusal x g l) 0 e) a m
      by false e a m = absurd (subst IsDone a tt)

  -- what it answers, and the graph and the rows after it, are its effect
  pub step_told : (h : List ℕ) (l' : Rows) (r : Result StepReport Refusal) → Stepped x g l h l' r
      → (answer_text r l'.events l'.changes ≡ (step_effect x g l).text) × (h ≡ (step_effect x g l).graph) × (l' ≡ (step_effect x g l).rows)
  unfolding step_effect
  step_told h l' (Err r) s = by (eqb (step_refusal x g l) 0) s.answer s.graph s.rows
    where
      by : (t : Bool) → step.refused (number_of r) ≡ cond t (answer_of x g) (step.refused (step_refusal x g l)) → h ≡ cond t (pass_of x g).graph g → l' ≡ cond t (rows_of x g l) l
          → (refused_text (number_of r) ≡ (step_by t x g l).text) × (h ≡ (step_by t x g l).graph) × (l' ≡ (step_by t x g l).rows)
      by true a e m = absurd (subst IsDone (sym a) done_answer)
      by false a e m = (ap (λ (k : step.Answer). refused_text (step_number k)) a, e, m)
  step_told h l' (Ok r) s = by (eqb (step_refusal x g l) 0) refl s.answer s.graph s.rows
    where
      by : (t : Bool) → eqb (step_refusal x g l) 0 ≡ t → step.stepped r.events r.changes r.recycled ≡ cond t (answer_of x g) (step.refused (step_refusal x g l))
          → h ≡ cond t (pass_of x g).graph g → l' ≡ cond t (rows_of x g l) l
          → (answer_text (Ok r) l'.events l'.changes ≡ (step_by t x g l).text) × (h ≡ (step_by t x g l).graph) × (l' ≡ (step_by t x g l).rows)
      by true e a k m =
          let z = eqb-true (step_refusal x g l) 0 e in
          (ap₂ step_text (events_read x g l z l' (Ok r) a m) (changes_read x g l z l' (Ok r) a m), k, m)
      by false e a k m = absurd (subst IsDone a tt)

  effect_given : x ≡ (step_effect x g l).given
  unfolding step_effect
  effect_given = by (eqb (step_refusal x g l) 0)
    where
      by : (t : Bool) → x ≡ (step_by t x g l).given
      by true = refl
      by false = refl

  pub step_made : (h : List ℕ) (l' : Rows) (r : Result StepReport Refusal) (out out' : List ℕ) (n : ℕ) → Stepped x g l h l' r → Written out 0 (answer_text r l'.events l'.changes) out' n
      → Made (step_effect x g l) out (lent h x l' out') n
  step_made h l' r out out' n s w =
      let t = step_told h l' r s in
      record { graph = t.1; given = effect_given; rows = t.2; text = written_as t.0 w }
