-- The events and changes that a step has written are read back from their rows as the pass gave them: they fit in the row, and their numbers in a word. Assumes nothing.
use Prim.Native.Nat.{ℕ, zero, suc, ◌+◌, ◌*◌, ◌≤◌, ◌<◌}
use Rattle.std.proofs.Common.{not-suc-le-zero, le_of_suc-le-suc, zero-mul, add_assoc, arith, ap, ◌∙◌, get_or-append-add, SFits}
use Rattle.std.proofs.Math.Nat.{suc-mul}
use Rattle.std.specs.Prelude.{◌≡◌, refl, Bool, true, false, cond, eqb, ℤ, get_or, drop, Err, Ok, Result, Option, None, Some}
use mathlib.Core.List.{List, [], ◌∷◌, ◌++◌, map, append_assoc}
use Rattle.std.proofs.Math.ListN.{length}
use Rattle.std.specs.Int.{w32}
use Rattle.rows.specs.EachLaws.{length_each}
use Rattle.rows.specs.Laws.{put_paste}
use Rattle.rows.specs.Rows.{put, each}
use Rattle.rows.specs.Slots.{upto}
use Rattle.rules.specs.Records.{Names, Pair}
use Rattle.rules.specs.Status.{Event, started, ended, Change, start, stop, count, stop_if, count_of, Verdict, vanishes, starts, stops, generates, recounts, persists, verdict, changes_for}
use Rattle.words.specs.Words.{word_at}
use Rattle.manifold_records.specs.ListLaws.{map_upto_is}
use Rattle.contact_records.proofs.IntLaws.{int_back, int_fits}
use Rattle.layout.specs.Change.{change_size}
use Rattle.layout.specs.Contact.{contact_count_change}
use Rattle.layout.specs.Event.{event_size}
use Rattle.contact_records.specs.Recorded.{int_of, pair_at}
use Rattle.contact_records.specs.Written.{optional_words}
use Rattle.contact_range.specs.Recorded.{contact_at}
use Rattle.contact_graph.specs.Calls.{optional}
use Rattle.status_pass.specs.Pass.{Passing, visited_pair, begun, visit_words, pass_words}
use Rattle.status_pass.specs.PassLaws.{pass_events, pass_changes}
use Rattle.status_pass.specs.EventsAndChanges.{named_words, event_words, change_words}
use Rattle.step.specs.AcceptedLaws.{accepted}
use Rattle.step.specs.Step as step
use Rattle.step.specs.Step.{Given, Rows, step_refusal, made_of, updated_graph, pass_of, rows_of, answer_of, plain_answer}
use Rattle.step.proofs.StepLaws.{rows_ready}
use Rattle.update_pass.specs.Shared.{standing_ids}
use Rattle.step.specs.Read.{names_at, event_at, change_at, events_of, changes_of}
use Rattle.step.specs.declared.answer.StepReport.{StepReport}
use Rattle.contact_types.specs.declared.refusal.Refusal.{Refusal}

-- ---- records of one size from a row's start on
module _ {A : Type 0} (words : A → List ℕ) (read : List ℕ → ℕ → A) (n : ℕ) (size : (a : A) → length (words a) ≡ n) (Good : A → Type 0)
    (first : (a : A) (ws : List ℕ) → Good a → read (words a ++ ws) 0 ≡ a) (later : (vs ws : List ℕ) (k : ℕ) → read (vs ++ ws) (length vs + k) ≡ read ws k) where
  unfoldable pub AllGood : List A → Type 0
  AllGood [] = Unit {0}
  AllGood (a ∷ as') = Good a × AllGood as'

  one_back : (as' : List A) (ws : List ℕ) → AllGood as' → (k : ℕ) (d : A) → k < length as' → read (each words as' ++ ws) (k * n) ≡ get_or as' k d
  unfolding AllGood
  one_back [] ws f k d l = absurd (not-suc-le-zero l)
  one_back (a ∷ as') ws f zero d l = (λ i. read (append_assoc (words a) (each words as') ws i) (zero-mul n i)) ∙ first a (each words as' ++ ws) f.0
  one_back (a ∷ as') ws f (suc k) d l =
      let next : suc k * n ≡ length (words a) + k * n = omega (arith, suc-mul k n, size a) in
      (λ i. read (append_assoc (words a) (each words as') ws i) (next i)) ∙ later (words a) (each words as' ++ ws) (k * n)
      ∙ one_back as' ws f.1 k d (le_of_suc-le-suc l)

  pub all_back : (row : List ℕ) (as' : List A) → AllGood as' → length as' * n ≤ length row → map (λ k. read (put row 0 (each words as')) (k * n)) (upto (length as')) ≡ as'
  all_back row as' f room =
      let ws = each words as' in
      let long : length ws ≡ length as' * n = length_each words n size as' in
      let pasted : put row 0 ws ≡ ws ++ drop (0 + length ws) row = put_paste row 0 ws (omega arith) in
      map_upto_is (λ k. read (put row 0 ws) (k * n)) as'
      (λ k d l. ap (λ (r : List ℕ). read r (k * n)) pasted ∙ one_back as' (drop (0 + length ws) row) f k d l)

-- ---- events
-- the same names with other bodies, to go by what those are
abbrev bodied : Names → Option ℕ → Option ℕ → Names
bodied n a b = record { id = n.id; collider1 = n.collider1; collider2 = n.collider2; body1 = a; body2 = b }

length_named : (kind : ℕ) (n : Names) → length (named_words kind n) ≡ event_size
unfolding optional_words
length_named kind n = go n.body1 n.body2
  where
    go : (a b : Option ℕ) → length (named_words kind (bodied n a b)) ≡ event_size
    go None None = refl
    go None (Some b) = refl
    go (Some a) None = refl
    go (Some a) (Some b) = refl

length_event : (e : Event) → length (event_words e) ≡ event_size
unfolding event_words
length_event (started n) = length_named 0 n
length_event (ended n) = length_named 1 n

names_first : (kind : ℕ) (n : Names) (ws : List ℕ) → names_at (named_words kind n ++ ws) 0 ≡ n
unfolding optional_words
names_first kind n ws = go n.body1 n.body2
  where
    go : (a b : Option ℕ) → names_at (named_words kind (bodied n a b) ++ ws) 0 ≡ bodied n a b
    go None None = refl
    go None (Some b) = refl
    go (Some a) None = refl
    go (Some a) (Some b) = refl

event_first : (e : Event) (ws : List ℕ) → Unit {0} → event_at (event_words e ++ ws) 0 ≡ e
unfolding event_at event_words
event_first (started n) ws f = ap started (names_first 0 n ws)
event_first (ended n) ws f = ap ended (names_first 1 n ws)

word_later : (vs ws : List ℕ) (k i : ℕ) → word_at (vs ++ ws) (length vs + k + i) ≡ word_at ws (k + i)
word_later vs ws k i = ap (word_at (vs ++ ws)) (add_assoc (length vs) k i) ∙ get_or-append-add vs ws (k + i) 0

event_later : (vs ws : List ℕ) (k : ℕ) → event_at (vs ++ ws) (length vs + k) ≡ event_at ws k
unfolding event_at
event_later vs ws k =
    let at : (j : ℕ) → word_at (vs ++ ws) (length vs + k + j) ≡ word_at ws (k + j) = word_later vs ws k in
    let names : names_at (vs ++ ws) (length vs + k) ≡ names_at ws k =
    λ i. record { id = at 1 i; collider1 = at 2 i; collider2 = at 3 i; body1 = optional (at 4 i) (at 5 i); body2 = optional (at 6 i) (at 7 i) } in
    λ i. cond (eqb (get_or-append-add vs ws k 0 i) 0) (started (names i)) (ended (names i))

-- ---- changes whose numbers 32 bits hold
abbrev SmallOne : Change → Type 0
SmallOne (start id) = Unit {0}
SmallOne (stop id a b) = Unit {0}
SmallOne (count id a b d) = SFits w32 d

length_change : (c : Change) → length (change_words c) ≡ change_size
unfolding change_words
length_change (start id) = refl
length_change (stop id a b) = refl
length_change (count id a b d) = refl

change_first : (c : Change) (ws : List ℕ) → SmallOne c → change_at (change_words c ++ ws) 0 ≡ c
unfolding change_at change_words
change_first (start id) ws f = refl
change_first (stop id a b) ws f = refl
change_first (count id a b d) ws f = ap (count id a b) (int_back d f)

change_later : (vs ws : List ℕ) (k : ℕ) → change_at (vs ++ ws) (length vs + k) ≡ change_at ws k
unfolding change_at
change_later vs ws k =
    let kind = get_or-append-add vs ws k 0 in
    λ i. cond (eqb (kind i) 0) (start (word_later vs ws k 1 i))
    (cond (eqb (kind i) 1) (stop (word_later vs ws k 1 i) (word_later vs ws k 2 i) (word_later vs ws k 3 i))
    (count (word_later vs ws k 1 i) (word_later vs ws k 2 i) (word_later vs ws k 3 i) (int_of (word_later vs ws k 4 i))))

abbrev Small : List Change → Type 0
Small cs = AllGood change_words change_at change_size length_change SmallOne change_first change_later cs

small_append : (cs ds : List Change) → Small cs → Small ds → Small (cs ++ ds)
unfolding AllGood
small_append [] ds s t = t
small_append (c ∷ cs) ds s t = (s.0, small_append cs ds s.1 t)

small_stop : (b : Bool) (n : Names) → Small (stop_if b n)
unfolding AllGood
small_stop false n = tt
small_stop true n = go n.body1 n.body2
  where
    go : (a b : Option ℕ) → Small (stop_if true (bodied n a b))
    go None b = tt
    go (Some a) None = tt
    go (Some a) (Some b) = (tt, tt)

small_count : (n : Names) (d : ℤ) → SFits w32 d → Small (count_of n d)
unfolding AllGood
small_count n d f = go n.body1 n.body2
  where
    go : (a b : Option ℕ) → Small (count_of (bodied n a b) d)
    go None b = tt
    go (Some a) None = tt
    go (Some a) (Some b) = (f, tt)

small_start : (b : Bool) (id : ℕ) → Small (cond b (start id ∷ []) [])
unfolding AllGood
small_start true id = (tt, tt)
small_start false id = tt

small_changes_for : (v : Verdict) (p : Pair) → SFits w32 p.count_change → Small (changes_for v p)
unfolding AllGood
small_changes_for vanishes p f = small_stop p.flags.generate_constraints p.names
small_changes_for starts p f = small_start p.flags.generate_constraints p.names.id
small_changes_for stops p f = small_stop p.flags.generate_constraints p.names
small_changes_for generates p f = (tt, tt)
small_changes_for recounts p f = small_count p.names p.count_change f
small_changes_for persists p f = tt

-- a contact's number is read from a word
small_read : (g : List ℕ) (id : ℕ) → SFits w32 (visited_pair g id).count_change
unfolding pair_at
small_read g id = int_fits (word_at g (contact_at g id + contact_count_change))

small_pass : (s : Passing) (ids : List ℕ) → Small s.changes → Small (pass_words s ids).changes
unfolding pass_words visit_words
small_pass s [] f = f
small_pass s (id ∷ ids) f =
    let p = visited_pair s.graph id in
    small_pass (visit_words s id) ids (small_append s.changes (changes_for (verdict p) p) f (small_changes_for (verdict p) p (small_read s.graph id)))

changes_small : (x : Given) (g : List ℕ) → Small (pass_of x g).changes
unfolding pass_of AllGood
changes_small x g = small_pass (begun (updated_graph x g)) (standing_ids (made_of x g) g) tt

-- every event is read back
all_events : (es : List Event) → AllGood event_words event_at event_size length_event (λ _. Unit {0}) event_first event_later es
unfolding AllGood
all_events [] = tt
all_events (e ∷ es) = (tt, all_events es)

-- ---- what a step tells
-- how many an answer says
abbrev events_in : step.Answer → ℕ
events_in (step.refused n) = 0
events_in (step.stepped events changes recycled) = events

abbrev changes_in : step.Answer → ℕ
changes_in (step.refused n) = 0
changes_in (step.stepped events changes recycled) = changes

events_told : (r : Result StepReport Refusal) (row : List ℕ) → events_of r row ≡ map (λ k. event_at row (k * event_size)) (upto (events_in (plain_answer r)))
unfolding upto
events_told (Ok r) row = refl
events_told (Err r) row = refl

changes_told : (r : Result StepReport Refusal) (row : List ℕ) → changes_of r row ≡ map (λ k. change_at row (k * change_size)) (upto (changes_in (plain_answer r)))
unfolding upto
changes_told (Ok r) row = refl
changes_told (Err r) row = refl

pub refused_events : (r : Result StepReport Refusal) (row : List ℕ) (n : ℕ) → plain_answer r ≡ step.refused n → events_of r row ≡ []
unfolding upto
refused_events r row n e = events_told r row ∙ ap (λ (a : step.Answer). map (λ k. event_at row (k * event_size)) (upto (events_in a))) e

pub refused_changes : (r : Result StepReport Refusal) (row : List ℕ) (n : ℕ) → plain_answer r ≡ step.refused n → changes_of r row ≡ []
unfolding upto
refused_changes r row n e = changes_told r row ∙ ap (λ (a : step.Answer). map (λ k. change_at row (k * change_size)) (upto (changes_in a))) e

module _ (x : Given) (g : List ℕ) (l : Rows) (e : step_refusal x g l ≡ 0) where
  pub events_room : length (pass_of x g).events * event_size ≤ length l.events
  unfolding pass_of
  events_room =
      let few = pass_events (begun (updated_graph x g)) (standing_ids (made_of x g) g) in
      omega (arith, few, (rows_ready (accepted x g l e)).event_room)

  pub changes_room : length (pass_of x g).changes * change_size ≤ length l.changes
  unfolding pass_of
  changes_room =
      let few = pass_changes (begun (updated_graph x g)) (standing_ids (made_of x g) g) in
      omega (arith, few, (rows_ready (accepted x g l e)).change_room)

  module _ (l' : Rows) (r : Result StepReport Refusal) (p : plain_answer r ≡ answer_of x g) (q : l' ≡ rows_of x g l) where
    pub events_read : events_of r l'.events ≡ (pass_of x g).events
    unfolding answer_of rows_of
    events_read =
        events_told r l'.events ∙ (λ i. map (λ k. event_at (q i).events (k * event_size)) (upto (events_in (p i))))
        ∙ all_back event_words event_at event_size length_event (λ _. Unit {0}) event_first event_later l.events (pass_of x g).events (all_events (pass_of x g).events) events_room

    pub changes_read : changes_of r l'.changes ≡ (pass_of x g).changes
    unfolding answer_of rows_of
    changes_read =
        changes_told r l'.changes ∙ (λ i. map (λ k. change_at (q i).changes (k * change_size)) (upto (changes_in (p i))))
        ∙ all_back change_words change_at change_size length_change SmallOne change_first change_later l.changes (pass_of x g).changes (changes_small x g) changes_room
