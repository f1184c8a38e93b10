-- The event and the change of a visit, case by case, and their words as they are stored. Assumes nothing.
use Rattle.std.specs.Prelude.{ℕ, ◌+◌, ◌*◌, ◌^◌, ◌<◌, ◌≡◌, Bool, true, false, cond, ◌&&◌, List, [], ◌∷◌, ◌++◌, get_or, ℤ, Some, None, Option}
use Rattle.std.proofs.Common.{add-zero, ◌∙◌, append-nil, eq-eqb, ne_eqb}
use Rattle.std.proofs.Math.Path.{refl, sym, ap}
use Rattle.std.specs.Bool.{then_some}
use Rattle.rows.specs.Rows.{put}
use Rattle.rules.specs.Records.{Names}
use Rattle.rules.specs.Status.{started, ended, event_if, start, count, stop_if, count_of, changes_for, events_for}
use Rattle.rule_laws.specs.PassingLaws.{naming}
use Rattle.words.specs.Words.{word_at, mark_word, mark_at, if_marked}
use Rattle.contact_records.proofs.IntLaws.{word_back}
use Rattle.contact_records.specs.LengthLaws.{optional_words_lem}
use Rattle.contact_records.specs.Recorded.{int_of, flags_at, edge_at, names_at, pair_at}
use Rattle.contact_records.specs.Written.{optional_words, int_word}
use Rattle.status_pass.specs.EventsAndChanges.{named_words, event_words, change_words}
use Rattle.status_pass.specs.Verdicts.{plain_verdict}
use Rattle.status_pass.specs.Listed.{event_number, event_by, events_by, change_by, changes_by, body1_at, body2_at, EventIs, ChangeIs, EventsWritten, ChangesWritten}
use Rattle.status_pass.specs.declared.verdict.Verdict.{Verdict}
use Rattle.status_pass.specs.declared.verdict.Verdict.TheVariants.{Vanishes, Starts, Stops, Generates, Recounts}
use Rattle.status_pass.specs.declared.events.EventKind.{EventKind}
use Rattle.status_pass.specs.declared.events.EventKind.TheVariants as event
use Rattle.status_pass.specs.declared.changes.ContactStatusChange.{ContactStatusChange}
use Rattle.status_pass.specs.declared.changes.ContactStatusChange.TheVariants as change
use Rattle.layout.specs.Contact.{contact_body1, contact_body1_number, contact_body2, contact_body2_number, contact_count_change, pair_generate_constraints}
use Rattle.layout.specs.Change.{change_size}
use Rattle.layout.specs.Event.{event_size}

-- ---- events
ended_where : (b : Bool) (n : Names) → events_by (then_some b event.Ended) n ≡ event_if b (ended n)
ended_where true n = refl
ended_where false n = refl

started_where : (b : Bool) (n : Names) → events_by (then_some b event.Started) n ≡ event_if b (started n)
started_where true n = refl
started_where false n = refl

module _ (w : List ℕ) {v : Verdict} {r : Option EventKind} where
  pub event_vanishes : {a b : Bool} → a ≡ mark_at w 7 → b ≡ mark_at w 8 → v ≡ Vanishes → r ≡ then_some (a && b) event.Ended → EventIs w v r
  unfolding pair_at edge_at
  event_vanishes p q e f = record { under = λ id. rw (e, f, p, q) (ended_where (mark_at w 7 && mark_at w 8) (names_at w 0 id)) }

  pub event_starts : {b : Bool} → b ≡ mark_at w 8 → v ≡ Starts → r ≡ then_some b event.Started → EventIs w v r
  unfolding pair_at edge_at
  event_starts q e f = record { under = λ id. rw (e, f, q) (started_where (mark_at w 8) (names_at w 0 id)) }

  pub event_stops : {b : Bool} → b ≡ mark_at w 8 → v ≡ Stops → r ≡ then_some b event.Ended → EventIs w v r
  unfolding pair_at edge_at
  event_stops q e f = record { under = λ id. rw (e, f, q) (ended_where (mark_at w 8) (names_at w 0 id)) }

-- a mark and its word
pub mark_set : (w : List ℕ) (at : ℕ) {x : ℕ} → x ≡ word_at w at → x ≡ 1 → mark_at w at ≡ true
mark_set w at p t = eq-eqb (word_at w at) 1 (sym p ∙ t)

pub mark_clear : (w : List ℕ) (at : ℕ) {x : ℕ} → x ≡ word_at w at → (x ≡ 1 → ⊥) → mark_at w at ≡ false
mark_clear w at p t = ne_eqb (word_at w at) 1 (λ e. t (p ∙ e))

optional_words_where : (b : Bool) (n : ℕ) → optional_words (cond b (Some n) None) ≡ mark_word b ∷ cond b n 0 ∷ []
unfolding optional_words
optional_words_where true n = refl
optional_words_where false n = refl

module _ (w : List ℕ) (kind id : ℕ) where
  pub named_words_lem : {a b c d e f : ℕ} → a ≡ word_at w 0 → b ≡ word_at w 1 → c ≡ mark_word (mark_at w contact_body1) → d ≡ cond (mark_at w contact_body1) (word_at w contact_body1_number) 0
      → e ≡ mark_word (mark_at w contact_body2) → f ≡ cond (mark_at w contact_body2) (word_at w contact_body2_number) 0 → kind ∷ id ∷ a ∷ b ∷ c ∷ d ∷ e ∷ f ∷ [] ≡ named_words kind (names_at w 0 id)
  unfolding names_at
  named_words_lem p q r s t u =
      (λ i. kind ∷ id ∷ p i ∷ q i ∷ r i ∷ s i ∷ t i ∷ u i ∷ [])
      ∙ sym (λ i. kind ∷ id ∷ word_at w 0 ∷ word_at w 1 ∷ optional_words_where (mark_at w contact_body1) (word_at w contact_body1_number) i ++ optional_words_where (mark_at w contact_body2) (word_at w contact_body2_number) i)

-- the words of an event, whatever its kind
module _ (w : List ℕ) (id : ℕ) where
  named_stored : (kind : ℕ) (o p : Option ℕ)
      → kind ∷ id ∷ word_at w 0 ∷ word_at w 1 ∷ get_or (optional_words o) 0 0 ∷ get_or (optional_words o) 1 0 ∷ get_or (optional_words p) 0 0 ∷ get_or (optional_words p) 1 0 ∷ []
      ≡ kind ∷ id ∷ word_at w 0 ∷ word_at w 1 ∷ optional_words o ++ optional_words p
  named_stored kind o p =
      ap (λ (ws : List ℕ). kind ∷ id ∷ word_at w 0 ∷ word_at w 1 ∷ ws)
      (optional_words_lem o (get_or (optional_words p) 0 0 ∷ get_or (optional_words p) 1 0 ∷ []) ∙ ap (λ (ws : List ℕ). optional_words o ++ ws) (optional_words_lem p [] ∙ append-nil (optional_words p)))

  pub event_stored : (k : EventKind) {m a b : ℕ} {o p : List ℕ} → m ≡ event_number k → a ≡ word_at w 0 → b ≡ word_at w 1 → o ≡ optional_words (if_marked word_at w 2) → p ≡ optional_words (if_marked word_at w 4)
      → m ∷ id ∷ a ∷ b ∷ get_or o 0 0 ∷ get_or o 1 0 ∷ get_or p 0 0 ∷ get_or p 1 0 ∷ [] ≡ event_words (event_by k (names_at w 0 id))
  unfolding event_words names_at if_marked
  event_stored event.Started m a b o p = rw (m, a, b, o, p) (named_stored 0 (if_marked word_at w 2) (if_marked word_at w 4))
  event_stored event.Ended m a b o p = rw (m, a, b, o, p) (named_stored 1 (if_marked word_at w 2) (if_marked word_at w 4))

-- what is stored after n events
module _ (w : List ℕ) (id : ℕ) {v : Verdict} {r : Option EventKind} (is : EventIs w v r) (row : List ℕ) (n : ℕ) where
  pub event_none : r ≡ None → EventsWritten row n (events_for (plain_verdict v) (pair_at w 0 id)) row n
  unfolding put
  event_none e = record { stored = rw (← is.under id, e); count = rw (← is.under id, e) (sym (add-zero n)) }

  pub event_one : {k : EventKind} {row' : List ℕ} {m : ℕ} → r ≡ Some k → row' ≡ put row (n * event_size) (event_words (event_by k (names_at w 0 id))) → m ≡ n + 1
      → EventsWritten row n (events_for (plain_verdict v) (pair_at w 0 id)) row' m
  event_one {k} e q s =
      record { stored = q ∙ rw (← is.under id, e) (ap (put row (n * event_size)) (sym (append-nil (event_words (event_by k (names_at w 0 id)))))); count = s ∙ rw (← is.under id, e) }

  pub event_started : {ws row' : List ℕ} → r ≡ Some event.Started → ws ≡ named_words 0 (names_at w 0 id) → row' ≡ put row (n * event_size) ws
      → EventsWritten row n (events_for (plain_verdict v) (pair_at w 0 id)) row' (n + 1)
  unfolding event_words
  event_started e p q = event_one e (q ∙ ap (put row (n * event_size)) p) refl

  pub event_ended : {ws row' : List ℕ} → r ≡ Some event.Ended → ws ≡ named_words 1 (names_at w 0 id) → row' ≡ put row (n * event_size) ws
      → EventsWritten row n (events_for (plain_verdict v) (pair_at w 0 id)) row' (n + 1)
  unfolding event_words
  event_ended e p q = event_one e (q ∙ ap (put row (n * event_size)) p) refl

-- ---- changes
module _ (w : List ℕ) (id c d : ℕ) where
  abbrev names : Bool → Bool → Names
  names a b = naming id c d (cond a (Some (body1_at w)) None) (cond b (Some (body2_at w)) None)

  stop_where : (g a b : Bool) → changes_by (then_some (g && (a && b)) change.StoppedGeneratingConstraints) w id ≡ stop_if g (names a b)
  stop_where false a b = refl
  stop_where true false b = refl
  stop_where true true false = refl
  stop_where true true true = refl

  count_where : (a b : Bool) (z : ℤ) → z ≡ int_of (word_at w contact_count_change) → changes_by (then_some (a && b) change.ManifoldCountChanged) w id ≡ count_of (names a b) z
  count_where false b z e = refl
  count_where true false z e = refl
  count_where true true z e = ap (λ (z : ℤ). count id (body1_at w) (body2_at w) z ∷ []) (sym e)

start_where : (w : List ℕ) (id : ℕ) (g : Bool) → changes_by (then_some g change.StartedGeneratingConstraints) w id ≡ cond g (start id ∷ []) []
start_where w id true = refl
start_where w id false = refl

module _ (w : List ℕ) {v : Verdict} {r : Option ContactStatusChange} where
  pub change_vanishes : {g a b : Bool} → g ≡ mark_at w pair_generate_constraints → a ≡ mark_at w contact_body1 → b ≡ mark_at w contact_body2 → v ≡ Vanishes
      → r ≡ then_some (g && (a && b)) change.StoppedGeneratingConstraints → ChangeIs w v r
  unfolding pair_at names_at flags_at
  change_vanishes p q s e f = record { under = λ id. rw (e, f, p, q, s) (stop_where w id (word_at w 0) (word_at w 1) (mark_at w pair_generate_constraints) (mark_at w contact_body1) (mark_at w contact_body2)) }

  pub change_stops : {g a b : Bool} → g ≡ mark_at w pair_generate_constraints → a ≡ mark_at w contact_body1 → b ≡ mark_at w contact_body2 → v ≡ Stops
      → r ≡ then_some (g && (a && b)) change.StoppedGeneratingConstraints → ChangeIs w v r
  unfolding pair_at names_at flags_at
  change_stops p q s e f = record { under = λ id. rw (e, f, p, q, s) (stop_where w id (word_at w 0) (word_at w 1) (mark_at w pair_generate_constraints) (mark_at w contact_body1) (mark_at w contact_body2)) }

  pub change_starts : {g : Bool} → g ≡ mark_at w pair_generate_constraints → v ≡ Starts → r ≡ then_some g change.StartedGeneratingConstraints → ChangeIs w v r
  unfolding pair_at names_at flags_at
  change_starts p e f = record { under = λ id. rw (e, f, p) (start_where w id (mark_at w pair_generate_constraints)) }

  pub change_generates : v ≡ Generates → r ≡ Some change.StartedGeneratingConstraints → ChangeIs w v r
  unfolding pair_at names_at
  change_generates e f = record { under = λ id. rw (e, f) }

  pub change_recounts : {a b : Bool} → a ≡ mark_at w contact_body1 → b ≡ mark_at w contact_body2 → v ≡ Recounts → r ≡ then_some (a && b) change.ManifoldCountChanged → ChangeIs w v r
  unfolding pair_at names_at
  change_recounts q s e f = record { under = λ id. rw (e, f, q, s) (count_where w id (word_at w 0) (word_at w 1) (mark_at w contact_body1) (mark_at w contact_body2) (int_of (word_at w contact_count_change)) refl) }

-- a count change's last word, in two's complement
pub count_stored : (w : List ℕ) {z : ℕ} → z ≡ word_at w contact_count_change → z < 2 ^ 32 → z ≡ int_word (int_of (word_at w contact_count_change))
count_stored w {z} t l = sym (word_back z l) ∙ ap (λ (x : ℕ). int_word (int_of x)) t

-- what is stored after n changes
module _ (w : List ℕ) (id : ℕ) {v : Verdict} {r : Option ContactStatusChange} (is : ChangeIs w v r) (row : List ℕ) (n : ℕ) where
  pub change_none : r ≡ None → ChangesWritten row n (changes_for (plain_verdict v) (pair_at w 0 id)) row n
  unfolding put
  change_none e = record { stored = rw (← is.under id, e); count = rw (← is.under id, e) (sym (add-zero n)) }

  pub change_one : {k : ContactStatusChange} {row' : List ℕ} {m : ℕ} → r ≡ Some k → row' ≡ put row (n * change_size) (change_words (change_by k w id)) → m ≡ n + 1
      → ChangesWritten row n (changes_for (plain_verdict v) (pair_at w 0 id)) row' m
  change_one {k} e q s =
      record { stored = q ∙ rw (← is.under id, e) (ap (put row (n * change_size)) (sym (append-nil (change_words (change_by k w id))))); count = s ∙ rw (← is.under id, e) }

  pub change_start : {row' : List ℕ} → r ≡ Some change.StartedGeneratingConstraints → row' ≡ put row (n * change_size) (0 ∷ id ∷ 0 ∷ 0 ∷ 0 ∷ [])
      → ChangesWritten row n (changes_for (plain_verdict v) (pair_at w 0 id)) row' (n + 1)
  unfolding change_words
  change_start e q = change_one e q refl

  pub change_stop : {a b : ℕ} {row' : List ℕ} → r ≡ Some change.StoppedGeneratingConstraints → a ≡ word_at w contact_body1_number → b ≡ word_at w contact_body2_number → row' ≡ put row (n * change_size) (1 ∷ id ∷ a ∷ b ∷ 0 ∷ [])
      → ChangesWritten row n (changes_for (plain_verdict v) (pair_at w 0 id)) row' (n + 1)
  unfolding change_words
  change_stop e p t q = change_one e (q ∙ (λ i. put row (n * change_size) (1 ∷ id ∷ p i ∷ t i ∷ 0 ∷ []))) refl

  pub change_count_lem : {a b z : ℕ} {row' : List ℕ} → r ≡ Some change.ManifoldCountChanged → a ≡ word_at w contact_body1_number → b ≡ word_at w contact_body2_number → z ≡ word_at w contact_count_change → z < 2 ^ 32
      → row' ≡ put row (n * change_size) (2 ∷ id ∷ a ∷ b ∷ z ∷ []) → ChangesWritten row n (changes_for (plain_verdict v) (pair_at w 0 id)) row' (n + 1)
  unfolding change_words
  change_count_lem e p t z l q = change_one e (q ∙ (λ i. put row (n * change_size) (2 ∷ id ∷ p i ∷ t i ∷ count_stored w z l i ∷ []))) refl
