-- What a call prints fits in the row that is lent for it, and is read back from it. Assumes nothing.
use Rattle.std.specs.Prelude.{ℕ, ◌+◌, ◌≤◌, ◌<◌, ◌≡◌, refl, Bool, cond, ◌&&◌, List, [], ◌∷◌, eqb, take, drop}
use native.Mathlib.Omega.{arith}
use Rattle.std.proofs.Common.{ap, ◌∙◌, eqb-true, length-append}
use Rattle.std.proofs.Math.Bool.{true, false}
use Rattle.std.proofs.Math.ListN.{length}
use Rattle.std.proofs.Math.Seq.{take-append_seam}
use Rattle.rows.specs.Rows.{put, each}
use Rattle.rows.specs.Laws.{put_paste}
use Rattle.rules.specs.Status.{Event, Change}
use Rattle.layout.specs.Change.{changes_length}
use Rattle.layout.specs.Event.{events_length}
use Rattle.contact_range.specs.Range.{in_range}
use Rattle.contact_range.specs.RangeLaws.{right_length_lem}
use Rattle.contact_range.specs.Recorded.{capacity_of}
use Rattle.contact_graph.specs.Calls.{request_of, add_refusal, added_words}
use Rattle.update_pass.specs.Shared.{bits_length}
use Rattle.step.proofs.ReadLaws.{events_room, changes_room}
use Rattle.step.specs.Step.{Given, Rows, long, rows_long, lengths_fit, step_refusal, pass_of, rows_of}
use Rattle.text.specs.Text.{line_feed, decimal_text}
use Rattle.text.specs.SpelledLaws.{length_decimal}
use Rattle.trace_rules.specs.Fields.{Line, addition_letter, go_letter}
use Rattle.trace_rules.specs.Reading.{is}
use Rattle.trace_rules.specs.Records.{step_record}
use Rattle.trace_rules.specs.Places.{lines_between}
use Rattle.trace_rules.specs.Printed.{event_text, change_text, step_text, refused_text}
use Rattle.trace_rules.specs.Play.{Played, given_by}
use Rattle.trace_printing.specs.Lines.{event_room, change_room}
use Rattle.trace_printing.specs.LineLaws.{lines_short, length_event, length_change}
use Rattle.trace_player.specs.Played.{Lent, printed_length, lent_fits, Effect, step_effect, go_effect, addition_effect, line_effect}
use Rattle.trace_player.specs.declared.player.Player.{Player}
use Rattle.trace_player.specs.PlayLaws.{first_true, second_true, length_parts}

-- bytes stored from the start of a row that has room for them are its first
pub taken_back : (out ws : List ℕ) → length ws ≤ length out → take (length ws) (put out 0 ws) ≡ ws
taken_back out ws h = ap (take (length ws)) (put_paste out 0 ws (omega arith)) ∙ take-append_seam ws (drop (0 + length ws) out)

-- ---- the lengths of what is lent
pub record LentRoom (l : Lent) : Type 0 where
  pub fit : lengths_fit l.given l.graph l.rows ≡ true
  pub least : 0 < capacity_of l.graph
  pub events : length l.rows.events ≡ events_length (capacity_of l.graph)
  pub changes : length l.rows.changes ≡ changes_length (capacity_of l.graph)
  pub out : length l.out ≡ printed_length (capacity_of l.graph)

rows_long_lem : (l : Rows) (n : ℕ) → rows_long l n ≡ true → (length l.events ≡ events_length n) × (length l.changes ≡ changes_length n)
unfolding rows_long
rows_long_lem l n e =
    let a = long l.bits (bits_length n) in
    let b = long l.events (events_length n) in
    let c = long l.changes (changes_length n) in
    let d = long l.distances n in
    let r = second_true a (b && (c && d)) e in
    (eqb-true (length l.events) (events_length n) (first_true b (c && d) r), eqb-true (length l.changes) (changes_length n) (first_true c d (second_true b (c && d) r)))

pub lent_room : (l : Lent) → lent_fits l ≡ true → LentRoom l
unfolding lent_fits
lent_room l e =
    let a = lengths_fit l.given l.graph l.rows in
    let b = long l.out (printed_length (capacity_of l.graph)) in
    let parts = length_parts l.given l.graph l.rows (first_true a b e) in
    let rows = rows_long_lem l.rows (capacity_of l.graph) parts.2 in
    record {
      fit = first_true a b e;
      least = (right_length_lem parts.0).least;
      events = rows.0;
      changes = rows.1;
      out = eqb-true (length l.out) (printed_length (capacity_of l.graph)) (second_true a b e);
    }

-- ---- texts
refused_short : (n : ℕ) → length (refused_text n) ≤ 11
unfolding refused_text
refused_short n = let a = length-append (decimal_text n) (line_feed ∷ []) in let h = length_decimal n in omega (arith, a, h)

step_short : (events : List Event) (changes : List Change) (n : ℕ) → length events ≤ n → length changes ≤ n → length (step_text events changes) ≤ printed_length n
step_short events changes n h k =
    let a = length-append (each event_text events) (each change_text changes) in
    let e = lines_short event_text event_room length_event events in
    let c = lines_short change_text change_room length_change changes in
    omega (arith, a, e, c, h, k)

picked_fits : (b : Bool) (e f : Effect) (n : ℕ) → (b ≡ true → length e.text ≤ n) → length f.text ≤ n → length (cond b e f).text ≤ n
picked_fits true e f n h k = h refl
picked_fits false e f n h k = k

-- ---- every line
module _ (l : Lent) (room : LentRoom l) where
  pub refused_fits : (n : ℕ) → length (refused_text n) ≤ length l.out
  refused_fits n = let h = refused_short n in omega (arith, h, room.least, room.out)

  step_fits : (x : Given) → length (step_effect x l.graph l.rows).text ≤ length l.out
  unfolding step_effect
  step_fits x =
      let g = l.graph in
      let n = step_refusal x g l.rows in
      picked_fits (eqb n 0) (record { text = step_text (pass_of x g).events (pass_of x g).changes; graph = (pass_of x g).graph; given = x; rows = rows_of x g l.rows })
      (record { text = refused_text n; graph = g; given = x; rows = l.rows }) (length l.out)
      (λ e.
      let a = events_room x g l.rows (eqb-true n 0 e) in
      let c = changes_room x g l.rows (eqb-true n 0 e) in
      let s = step_short (pass_of x g).events (pass_of x g).changes (capacity_of g) (omega (arith, a, room.events)) (omega (arith, c, room.changes)) in
      omega (arith, s, room.out))
      (refused_fits n)

  go_fits : (xs : List ℕ) (p : Player) → length (go_effect xs p l.graph l.given l.rows).text ≤ length l.out
  unfolding go_effect
  go_fits xs p =
      let g = l.graph in
      picked_fits (p.fits && in_range g) (step_effect (given_by (step_record (lines_between xs p.stretch p.place)) g) g l.rows)
      (record { text = refused_text 2; graph = g; given = l.given; rows = l.rows }) (length l.out)
      (λ _. step_fits (given_by (step_record (lines_between xs p.stretch p.place)) g))
      (refused_fits 2)

  addition_fits : (words : List ℕ) → length (addition_effect words l.graph l.given l.rows).text ≤ length l.out
  unfolding addition_effect
  addition_fits words = by (eqb (add_refusal l.graph (request_of words)) 0)
    where
      by : (t : Bool)
          → length (cond {A = Played} t (record { text = []; graph = added_words l.graph (request_of words) }) (record { text = refused_text (add_refusal l.graph (request_of words)); graph = l.graph })).text
          ≤ length l.out
      by true = omega arith
      by false = refused_fits (add_refusal l.graph (request_of words))

  pub line_fits : (xs : List ℕ) (p : Player) (line : Line) → length (line_effect xs p line l).text ≤ length l.out
  unfolding line_effect
  line_fits xs p line =
      let none : Effect = record { text = []; graph = l.graph; given = l.given; rows = l.rows } in
      picked_fits (is go_letter line) (go_effect xs p l.graph l.given l.rows) (cond (is addition_letter line) (addition_effect line.words l.graph l.given l.rows) none) (length l.out)
      (λ _. go_fits xs p)
      (picked_fits (is addition_letter line) (addition_effect line.words l.graph l.given l.rows) none (length l.out) (λ _. addition_fits line.words) (omega arith))
