-- What is lent keeps its lengths and its capacity, whatever line is played. Assumes nothing.
use Rattle.std.specs.Prelude.{ℕ, ◌≡◌, Bool, ◌&&◌, List, [], length}
use Rattle.std.proofs.Math.Path.{refl}
use Rattle.std.proofs.Common.{sym, ap, subst, ◌∙◌}
use Rattle.std.proofs.Math.Bool.{true, false, cond}
use Rattle.std.proofs.Math.Dec.{eqb}
use borrow.Author.Tests.{eqb-true, eq-eqb}
use Rattle.rows.specs.Rows.{each}
use Rattle.rows.specs.Laws.{length_put}
use Rattle.rules.specs.Limits.{most_workers}
use Rattle.words.specs.Words.{float_word}
use Rattle.layout.specs.Change.{changes_length}
use Rattle.layout.specs.Event.{events_length}
use Rattle.data_structures.specs.BitVec.{blocks_of}
use Rattle.manifold_records.specs.ListLaws.{length_map_upto}
use Rattle.contact_range.specs.Range.{right_length, in_range, stands}
use Rattle.contact_range.specs.RangeLaws.{first_of_lem, rest_of}
use Rattle.contact_range.specs.RangeShownLaws.{right_length_test}
use Rattle.contact_range.specs.Recorded.{capacity_of}
use Rattle.contact_graph.specs.AddedGraphLaws as graph
use Rattle.contact_graph.specs.AddedGraphLaws.{accepted_room, added_effect, added_in_range}
use Rattle.contact_graph.specs.CallLaws.{checked}
use Rattle.contact_graph.specs.Calls.{request_of, add_refusal, added_words}
use Rattle.contact_graph.specs.declared.call.Request.{Request}
use Rattle.status_pass.specs.EventsAndChanges.{event_words, change_words}
use Rattle.update_pass.specs.AllLaws.{length_parts}
use Rattle.update_pass.specs.Shared.{distances_of, bits_length}
use Rattle.step.specs.AcceptedLaws as step
use Rattle.step.specs.Step.{Given, Rows, long, given_long, rows_long, lengths_fit, step_refusal, made_of, pass_of, rows_of}
use Rattle.step.proofs.StepLaws.{step_checked, step_capacity}
use Rattle.trace_rules.specs.Fields.{Line, addition_letter, go_letter}
use Rattle.trace_rules.specs.Places.{lines_between}
use Rattle.trace_rules.specs.Play.{Played, given_by}
use Rattle.trace_rules.specs.Printed.{step_text, refused_text}
use Rattle.trace_rules.specs.Reading.{is}
use Rattle.trace_rules.specs.Records.{step_record}
use Rattle.trace_player.specs.Player.{Asked, unreadable_line, readable_line}
use Rattle.trace_player.specs.Played.{Lent, printed_length, lent_fits, Effect, printing, step_effect, go_effect, addition_effect, line_effect, unreadable_effect, asked_after}
use Rattle.trace_player.specs.PlayLaws as player
use Rattle.trace_player.specs.declared.player.Player.{Player}
use Rattle.trace_runs.specs.GoLaws.{given_long_lem, fit_lengths}

-- ---- the graph, what is given and the rows have the lengths for a capacity
record Fitted (capacity : ℕ) (g : List ℕ) (x : Given) (l : Rows) : Type 0 where
  right : right_length g ≡ true
  same : capacity_of g ≡ capacity
  given : given_long x capacity ≡ true
  rows : rows_long l capacity ≡ true

abbrev Keeps : ℕ → Effect → Type 0
Keeps capacity e = Fitted capacity e.graph e.given e.rows

abbrev lent_capacity : Lent → ℕ
lent_capacity l = capacity_of l.graph

lent_parts : (l : Lent) → lent_fits l ≡ true → Fitted (lent_capacity l) l.graph l.given l.rows × (length l.out ≡ printed_length (lent_capacity l))
unfolding lent_fits
lent_parts l e =
    let a = lengths_fit l.given l.graph l.rows in
    let b = long l.out (printed_length (lent_capacity l)) in
    let t = player.length_parts l.given l.graph l.rows (first_of_lem a b e) in
    (record { right = t.0; same = refl; given = t.1; rows = t.2 }, eqb-true (length l.out) (printed_length (lent_capacity l)) (rest_of a b e))

lent_whole : (capacity : ℕ) (l : Lent) → Fitted capacity l.graph l.given l.rows → length l.out ≡ printed_length capacity → lent_fits l ≡ true
unfolding lent_fits
lent_whole capacity l f s =
    let same = sym f.same in
    let lengths =
    fit_lengths l.given l.graph l.rows f.right (subst (λ (n : ℕ). given_long l.given n ≡ true) same f.given)
    (subst (λ (n : ℕ). rows_long l.rows n ≡ true) same f.rows) in
    let out : long l.out (printed_length (lent_capacity l)) ≡ true = eq-eqb (length l.out) (printed_length (lent_capacity l)) (s ∙ ap printed_length same) in
    rw (lengths, out)

-- ---- an addition
module _ (g : List ℕ) (x : Given) (l : Rows) (f : Fitted (capacity_of g) g x l) where
  added_kept : (a : Request) → add_refusal g a ≡ 0 → Fitted (capacity_of g) (added_words g a) x l
  added_kept a z =
      let ok = graph.accepted g a z in
      let c = checked ok.right ok.range in
      record { right = right_length_test (added_in_range a c z).right; same = (added_effect a c (accepted_room c ok)).capacity; given = f.given; rows = f.rows }

  abbrev added_by : Request → Bool → Played
  added_by a t = cond t (record { text = []; graph = added_words g a }) (record { text = refused_text (add_refusal g a); graph = g })

  addition_kept : (words : List ℕ) → Keeps (capacity_of g) (addition_effect words g x l)
  unfolding addition_effect
  addition_kept words = let a = request_of words in by a (eqb (add_refusal g a) 0) refl
    where
      by : (a : Request) (t : Bool) → eqb (add_refusal g a) 0 ≡ t → Fitted (capacity_of g) (added_by a t).graph x l
      by a true e = added_kept a (eqb-true (add_refusal g a) 0 e)
      by a false e = f

-- ---- a step
module _ (x : Given) (g : List ℕ) (l : Rows) (z : step_refusal x g l ≡ 0) where
  stepped_rows : rows_long (rows_of x g l) (capacity_of g) ≡ true
  unfolding rows_long rows_of distances_of
  stepped_rows =
      let a = step.accepted x g l z in
      let u = made_of x g in
      let bits = eq-eqb _ (bits_length (capacity_of g)) (length_parts u (blocks_of (capacity_of g)) x.shares most_workers) in
      let events = eq-eqb _ (events_length (capacity_of g)) (length_put l.events 0 (each event_words (pass_of x g).events) ∙ a.event_words) in
      let changes = eq-eqb _ (changes_length (capacity_of g)) (length_put l.changes 0 (each change_words (pass_of x g).changes) ∙ a.change_words) in
      let distances = eq-eqb _ (capacity_of g) (length_map_upto (λ id. cond (stands g id) (float_word (u id).max_contact_distance) 0) (capacity_of g)) in
      rw (bits, events, changes, distances)

module _ (x : Given) (g : List ℕ) (l : Rows) (f : Fitted (capacity_of g) g x l) where
  step_kept : Keeps (capacity_of g) (step_effect x g l)
  unfolding step_effect
  step_kept = by (eqb (step_refusal x g l) 0) refl
    where
      by : (t : Bool) → eqb (step_refusal x g l) 0 ≡ t
          → Keeps (capacity_of g)
          (cond t (record { text = step_text (pass_of x g).events (pass_of x g).changes; graph = (pass_of x g).graph; given = x; rows = rows_of x g l })
          (record { text = refused_text (step_refusal x g l); graph = g; given = x; rows = l }))
      by true e =
          let z = eqb-true (step_refusal x g l) 0 e in
          record { right = right_length_test (step_checked x g l z).right; same = step_capacity x g l z; given = f.given; rows = stepped_rows x g l z }
      by false e = f

-- ---- a line
module _ (xs : List ℕ) (p : Player) (g : List ℕ) (x : Given) (l : Rows) (f : Fitted (capacity_of g) g x l) where
  go_kept : Keeps (capacity_of g) (go_effect xs p g x l)
  unfolding go_effect
  go_kept = by (p.fits && in_range g)
    where
      by : (t : Bool) → Keeps (capacity_of g) (cond t (step_effect (given_by (step_record (lines_between xs p.stretch p.place)) g) g l) (record { text = refused_text 2; graph = g; given = x; rows = l }))
      by true = step_kept (given_by (step_record (lines_between xs p.stretch p.place)) g) g l (record { right = f.right; same = refl; given = given_long_lem (lines_between xs p.stretch p.place) g; rows = f.rows })
      by false = f

module _ (xs : List ℕ) (p : Player) (l : Lent) (fits : lent_fits l ≡ true) where
  abbrev fitted : Fitted (lent_capacity l) l.graph l.given l.rows
  fitted = (lent_parts l fits).0

  line_kept : (line : Line) → Keeps (lent_capacity l) (line_effect xs p line l)
  unfolding line_effect
  line_kept line = by (is go_letter line) (is addition_letter line)
    where
      by : (s t : Bool)
          → Keeps (lent_capacity l)
          (cond s (go_effect xs p l.graph l.given l.rows)
          (cond t (addition_effect line.words l.graph l.given l.rows) (record { text = []; graph = l.graph; given = l.given; rows = l.rows })))
      by true t = go_kept xs p l.graph l.given l.rows fitted
      by false true = addition_kept l.graph l.given l.rows fitted line.words
      by false false = fitted

  printed_kept : (next : Player) (e : Effect) → Keeps (lent_capacity l) e → lent_fits (printing next e l.out).lent ≡ true
  printed_kept next e k = lent_whole (lent_capacity l) (printing next e l.out).lent k (length_put l.out 0 e.text ∙ (lent_parts l fits).1)

  -- after any line
  pub asked_kept : (a : Asked) → lent_fits (asked_after xs p l a).lent ≡ true
  asked_kept unreadable_line = printed_kept p (unreadable_effect l) fitted
  asked_kept (readable_line line next) = printed_kept next (line_effect xs p line l) (line_kept line)
