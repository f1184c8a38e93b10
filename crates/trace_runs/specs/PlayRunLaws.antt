-- A trace that is played call by call prints what the definitions say, leaves their graph, and has ended after as many calls as it has lines. Assumes nothing.
use Rattle.std.specs.Prelude.{ℕ, suc, ◌≤◌, ◌<◌, ◌≡◌, Bool, cond, not, List, [], ◌++◌, take, drop, Ok, Some, None, Option}
use Rattle.std.proofs.Common.{zero-le, arith, sym, ap, subst, ◌∙◌, length-drop, drop_of_length-le}
use Rattle.std.proofs.Math.Path.{refl}
use Rattle.std.proofs.Math.Bool.{true, false}
use Rattle.std.proofs.Math.Dec.{leb}
use borrow.Author.Tests.{leb-true, leb-false}
use Rattle.std.proofs.Math.ListN.{length}
use Rattle.std.proofs.Math.Seq.{drop-length}
use Rattle.text.specs.Text.{Taken}
use Rattle.trace_rules.specs.Fields.{Line, read_line}
use Rattle.trace_rules.specs.Reading.{Context, beginning, follow, Reading, ends, begins, reading}
use Rattle.trace_rules.specs.Records.{fold, fits_after, step_record, entries}
use Rattle.trace_rules.specs.Places.{place_of}
use Rattle.trace_rules.specs.Printed.{unreadable}
use Rattle.trace_rules.specs.Play.{play_go, played}
use Rattle.trace_steps.specs.PlaceLaws.{reached_lines}
use Rattle.trace_steps.specs.ReadingLaws.{reading_from, reading_whole, reading_end, reading_unreadable, reading_misplaced, reading_next}
use Rattle.trace_player.specs.Player.{player_at, context_of, player_after, Asked, unreadable_line, readable_line, asked}
use Rattle.trace_player.specs.Played as player
use Rattle.trace_player.specs.Played.{Lent, lent_fits, LineAnswer, refused, ended, AfterLine, Effect, printing, go_effect, line_effect, unreadable_effect, asked_after, after_line, LinePlayed}
use Rattle.trace_player.specs.AskedLaws.{asked_out, asked_in, asked_unread}
use Rattle.trace_player.specs.CallLaws.{after_end, after_asked}
use Rattle.trace_player.specs.declared.player.Player.{Player}
use Rattle.trace_runs.specs.Plays.{Plays, play_ends, play_next, TracePlayed}
use Rattle.trace_runs.specs.GoLaws.{SameGo, go_same}
use Rattle.trace_runs.specs.RoomLaws.{taken_back, LentRoom, lent_room, refused_fits, line_fits}
use Rattle.trace_runs.specs.EntryLaws.{since_after, ReadingPlayed, nothing_played, unreadable_played, line_played}
use Rattle.trace_runs.specs.StandsLaws.{Stands, stands_at, stands_next}

-- ---- what an answer tells
abbrev IsEnded : LineAnswer → Type 0
IsEnded (refused n) = ⊥
IsEnded ended = Unit {0}
IsEnded (player.played q n) = ⊥

abbrev IsPlayed : LineAnswer → Type 0
IsPlayed (refused n) = ⊥
IsPlayed ended = ⊥
IsPlayed (player.played q n) = Unit {0}

abbrev player_in : LineAnswer → Player
player_in (refused n) = player_at 0
player_in ended = player_at 0
player_in (player.played q n) = q

abbrev written_in : LineAnswer → ℕ
written_in (refused n) = 0
written_in ended = 0
written_in (player.played q n) = n

module _ (xs : List ℕ) (p : Player) (l : Lent) where
  asked_goes_on : (a : Asked) → IsEnded (asked_after xs p l a).answer → ⊥
  asked_goes_on unreadable_line e = e
  asked_goes_on (readable_line line next) e = e

  -- the lengths fit, and no text is left
  call_ended : IsEnded (after_line xs p l).answer → (lent_fits l ≡ true) × (length xs ≤ p.place)
  unfolding after_line
  call_ended e = by (lent_fits l) (leb (length xs) p.place) refl refl e
    where
      by : (a b : Bool) → lent_fits l ≡ a → leb (length xs) p.place ≡ b
          → IsEnded (cond (not a) (record { answer = refused 1; lent = l }) (cond b (record { answer = ended; lent = l }) (asked_after xs p l (asked xs p)))).answer
          → (lent_fits l ≡ true) × (length xs ≤ p.place)
      by true true f g e = (f, leb-true (length xs) p.place g)
      by true false f g e = absurd (asked_goes_on (asked xs p) e)
      by false b f g e = absurd e

  -- the lengths fit, and some is
  call_played : IsPlayed (after_line xs p l).answer → (lent_fits l ≡ true) × (p.place < length xs)
  unfolding after_line
  call_played e = by (lent_fits l) (leb (length xs) p.place) refl refl e
    where
      by : (a b : Bool) → lent_fits l ≡ a → leb (length xs) p.place ≡ b
          → IsPlayed (cond (not a) (record { answer = refused 1; lent = l }) (cond b (record { answer = ended; lent = l }) (asked_after xs p l (asked xs p)))).answer
          → (lent_fits l ≡ true) × (p.place < length xs)
      by true true f g e = absurd e
      by true false f g e = (f, leb-false (length xs) p.place g)
      by false b f g e = absurd e

-- ---- a call that printed a line's effect
record Printed (next : Player) (e : Effect) (q : Player) (n : ℕ) (l' : Lent) : Type 0 where
  player : q ≡ next
  text : take n l'.out ≡ e.text
  graph : l'.graph ≡ e.graph

printed : {next q : Player} {n : ℕ} {l' : Lent} (e : Effect) (out : List ℕ) → length e.text ≤ length out → player.played q n ≡ (printing next e out).answer → l' ≡ (printing next e out).lent
    → Printed next e q n l'
printed e out h a b =
    record { player = ap player_in a; text = (λ i. take (written_in (a i)) (b i).out) ∙ taken_back out e.text h; graph = ap (λ (l : Lent). l.graph) b }

-- what is left for a player to read
abbrev pub reading_of : List ℕ → Player → Reading
reading_of xs p = reading_from (context_of p) (drop p.place xs)

step_fits : (ls : List Line) → (step_record ls).fits ≡ fold fits_after true ls
unfolding step_record
step_fits ls = refl

-- ---- one call, where the calls after it play what is left
module _ (xs : List ℕ) (p q : Player) (n : ℕ) (l l' : Lent) (called : LinePlayed xs p l l' (Ok (Some (record { player = q; written = n })))) (since : List Line) (s : Stands xs p since) (k : ℕ)
    (bytes h : List ℕ) (others : (ls : List Line) → Stands xs q ls → ReadingPlayed (reading_of xs q) ls l'.graph k bytes h) where
  fit : (lent_fits l ≡ true) × (p.place < length xs)
  fit = call_played xs p l (subst IsPlayed called.answer tt)

  room : LentRoom l
  room = lent_room l fit.0

  left_over : 0 < length (drop p.place xs)
  left_over = let a = length-drop p.place xs in omega (arith, a, fit.1)

  after : (a : Asked) → asked xs p ≡ a → after_line xs p l ≡ asked_after xs p l a
  after a e = after_asked xs p l fit.0 fit.1 ∙ ap (asked_after xs p l) e

  -- an unreadable line is the last
  last_line : asked xs p ≡ unreadable_line → reading_of xs p ≡ ends true → ReadingPlayed (reading_of xs p) since l.graph (suc k) (take n l'.out ++ bytes) h
  last_line e r =
      let a = after unreadable_line e in
      let d : Printed (player_at (length xs)) (unreadable_effect l) q n l' =
      printed (unreadable_effect l) l.out (refused_fits l room unreadable) (called.answer ∙ ap (λ (z : AfterLine). z.answer) a) (called.lent ∙ ap (λ (z : AfterLine). z.lent) a) in
      let none_left : reading_of xs q ≡ ends false = ap (reading_of xs) d.player ∙ ap (reading_from beginning) (drop-length xs) ∙ reading_end beginning in
      let o : ReadingPlayed (reading_of xs q) [] l'.graph k bytes h = others [] (subst (λ (z : Player). Stands xs z []) (sym d.player) (stands_at xs (length xs) (omega arith))) in
      let o' : ReadingPlayed (ends false) [] l.graph k bytes h = subst (λ (z : Reading). ReadingPlayed z [] l.graph k bytes h) none_left
      (subst (λ (g : List ℕ). ReadingPlayed (reading_of xs q) [] g k bytes h) d.graph o) in
      subst (λ (z : Reading). ReadingPlayed z since l.graph (suc k) (take n l'.out ++ bytes) h) (sym r)
      (subst (λ (ws : List ℕ). ReadingPlayed (ends true) since l.graph (suc k) (ws ++ bytes) h) (sym d.text) (unreadable_played since l.graph o'))

  -- a readable one is followed by the others
  next_line : (t : Taken Line) (c : Context) → read_line (drop p.place xs) ≡ Some t → follow (context_of p) t.value ≡ Some c
      → ReadingPlayed (reading_of xs p) since l.graph (suc k) (take n l'.out ++ bytes) h
  next_line t c e f =
      let line = t.value in
      let next = player_after p line (place_of xs t.rest) c in
      let effect = line_effect xs p line l in
      let a = after (readable_line line next) (asked_in xs p t c e f) in
      let d : Printed next effect q n l' =
      printed effect l.out (line_fits l room xs p line) (called.answer ∙ ap (λ (z : AfterLine). z.answer) a) (called.lent ∙ ap (λ (z : AfterLine). z.lent) a) in
      let m = stands_next t c s e f in
      let rest-left : reading_of xs q ≡ reading_from c t.rest = ap (reading_of xs) d.player ∙ (λ i. reading_from (m.context i) (m.left i)) in
      let o : ReadingPlayed (reading_of xs q) (since_after since line) l'.graph k bytes h =
      others (since_after since line) (subst (λ (z : Player). Stands xs z (since_after since line)) (sym d.player) m.stands) in
      let o' : ReadingPlayed (reading_from c t.rest) (since_after since line) effect.graph k bytes h =
      subst (λ (z : Reading). ReadingPlayed z (since_after since line) effect.graph k bytes h) rest-left
      (subst (λ (g : List ℕ). ReadingPlayed (reading_of xs q) (since_after since line) g k bytes h) d.graph o) in
      let same : SameGo (go_effect xs p l.graph l.given l.rows) (play_go (step_record since) l.graph) =
      go_same since l.graph l.given l.rows room.fit xs p (reached_lines s.reached) (s.fits ∙ sym (step_fits since)) in
      subst (λ (z : Reading). ReadingPlayed z since l.graph (suc k) (take n l'.out ++ bytes) h) (sym (reading_next (context_of p) (drop p.place xs) left_over t c e f))
      (subst (λ (ws : List ℕ). ReadingPlayed (begins line (reading_from c t.rest)) since l.graph (suc k) (ws ++ bytes) h) (sym d.text)
      (line_played xs p since line l (reading_from c t.rest) same o'))

  one_call : ReadingPlayed (reading_of xs p) since l.graph (suc k) (take n l'.out ++ bytes) h
  one_call = by_line (read_line (drop p.place xs)) refl
    where
      by_context : (t : Taken Line) → read_line (drop p.place xs) ≡ Some t → (o : Option Context) → follow (context_of p) t.value ≡ o
          → ReadingPlayed (reading_of xs p) since l.graph (suc k) (take n l'.out ++ bytes) h
      by_context t e None f = last_line (asked_out xs p t e f) (reading_misplaced (context_of p) (drop p.place xs) left_over t e f)
      by_context t e (Some c) f = next_line t c e f

      by_line : (o : Option (Taken Line)) → read_line (drop p.place xs) ≡ o → ReadingPlayed (reading_of xs p) since l.graph (suc k) (take n l'.out ++ bytes) h
      by_line None e = last_line (asked_unread xs p e) (reading_unreadable (context_of p) (drop p.place xs) left_over e)
      by_line (Some t) e = by_context t e (follow (context_of p) t.value) refl

-- the call that answers that the trace has ended
last_call : (xs : List ℕ) (p : Player) (l l' : Lent) (since : List Line) → LinePlayed xs p l l' (Ok None) → ReadingPlayed (reading_of xs p) since l.graph 0 [] l'.graph
last_call xs p l l' since called =
    let f = call_ended xs p l (subst IsEnded called.answer tt) in
    let none_left : reading_of xs p ≡ ends false = ap (reading_from (context_of p)) (drop_of_length-le xs f.1) ∙ reading_end (context_of p) in
    let kept : l' ≡ l = called.lent ∙ ap (λ (z : AfterLine). z.lent) (after_end xs p l f.0 f.1) in
    subst (λ (z : Reading). ReadingPlayed z since l.graph 0 [] l'.graph) (sym none_left)
    (subst (λ (z : Lent). ReadingPlayed (ends false) since l.graph 0 [] z.graph) (sym kept) (nothing_played since l.graph))

-- from where a player stands
pub play_from : {xs : List ℕ} {p : Player} {l l' : Lent} {k : ℕ} {text : List ℕ} (since : List Line) → Stands xs p since → Plays xs p l k text l'
    → ReadingPlayed (reading_of xs p) since l.graph k text l'.graph
play_from {xs} {p} {l} {l'} since s (play_ends called) = last_call xs p l l' since called
play_from {xs} since s (play_next {p} {q} {n} {k} {l} {l'} {l''} {text} called rest) = one_call xs p q n l l' called since s k text l''.graph (λ ls t. play_from ls t rest)

-- from the beginning
pub play_run : (xs : List ℕ) {l l' : Lent} {k : ℕ} {text : List ℕ} → Plays xs (player_at 0) l k text l' → TracePlayed xs l k text l'
unfolding played entries
play_run xs {l} {l'} {k} {text} plays =
    let r : ReadingPlayed (reading xs) [] l.graph k text l'.graph = subst (λ (z : Reading). ReadingPlayed z [] l.graph k text l'.graph) (sym (reading_whole xs))
    (play_from [] (stands_at xs 0 zero-le) plays) in
    record { calls = r.calls; text = r.text; graph = r.graph }
