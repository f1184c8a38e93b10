-- A go, as the player plays it and as the definitions have it. Assumes nothing.
use Rattle.std.specs.Prelude.{ℕ, ◌*◌, ◌≡◌, refl, Bool, true, false, cond, ◌&&◌, List, [], ◌∷◌, eqb, length, drop}
use Rattle.std.proofs.Common.{◌∙◌, eq-eqb}
use Rattle.rows.specs.Rows.{put}
use Rattle.rows.specs.Laws.{length_put}
use Rattle.layout.specs.Body.{body_size, bodies_length}
use Rattle.layout.specs.Change.{changes_length}
use Rattle.layout.specs.Collider.{collider_size, colliders_length}
use Rattle.layout.specs.Event.{events_length}
use Rattle.layout.specs.Proposal.{proposal_size}
use Rattle.layout.specs.Settings.{settings_length}
use Rattle.layout.specs.Shares.{shares_entries, shares_length}
use Rattle.manifold_records.specs.Written.{zeros}
use Rattle.manifold_records.specs.ListLaws.{length_zeros}
use Rattle.collider.specs.Range.{settings_fit, colliders_fit, bodies_fit}
use Rattle.contact_range.specs.Range.{right_length, in_range}
use Rattle.contact_range.specs.Recorded.{capacity_of, listed_count}
use Rattle.update_pass.specs.Shared.{active_of, bits_length}
use Rattle.step.specs.AcceptedLaws.{refused_numbers}
use Rattle.step.specs.Step.{Given, Rows, long, given_long, rows_long, lengths_fit, rows_in_range, numbers_fit, step_refusal, pass_of, rows_of}
use Rattle.trace_rules.specs.Fields.{Line, settings_letter, collider_letter, body_letter}
use Rattle.trace_rules.specs.Printed.{step_text, refused_text}
use Rattle.trace_rules.specs.Records.{word_of, fold, settings_after, record_after, Proposal, step_record}
use Rattle.trace_rules.specs.Reading.{is}
use Rattle.trace_rules.specs.Places.{lines_between}
use Rattle.trace_rules.specs.Play.{Played, proposal_words, proposal_of, with_proposals, proposals_of, shares_of, given_by, blank_rows, go_refusal, play_go}
use Rattle.trace_player.specs.PlayLaws.{length_parts}
use Rattle.trace_player.specs.Played.{Effect, step_effect, go_effect}
use Rattle.trace_player.specs.declared.player.Player.{Player}

-- ---- the rows that a go fills have a step's lengths
fold_length : (f : List ℕ → Line → List ℕ) → ((row : List ℕ) (l : Line) → length (f row l) ≡ length row) → (row : List ℕ) (ls : List Line) → length (fold f row ls) ≡ length row
unfolding fold
fold_length f kept row [] = refl
fold_length f kept row (l ∷ ls) = fold_length f kept (f row l) ls ∙ kept row l

picked_length : (b : Bool) (row : List ℕ) (at : ℕ) (ws : List ℕ) → length (cond b (put row at ws) row) ≡ length row
picked_length true row at ws = length_put row at ws
picked_length false row at ws = refl

settings_kept : (row : List ℕ) (l : Line) → length (settings_after row l) ≡ length row
unfolding settings_after
settings_kept row l = picked_length (is settings_letter l) row 0 l.words

record_kept : (letter size : ℕ) (row : List ℕ) (l : Line) → length (record_after letter size row l) ≡ length row
unfolding record_after
record_kept letter size row l = picked_length (is letter l) row (word_of l 0 * size) (1 ∷ drop 1 l.words)

proposals_kept : (proposal : ℕ → ℕ → Proposal) (g row ids : List ℕ) → length (with_proposals proposal g row ids) ≡ length row
unfolding with_proposals
proposals_kept proposal g row [] = refl
proposals_kept proposal g row (id ∷ ids) =
    proposals_kept proposal g (put row (id * proposal_size) (proposal_words (proposal_of proposal g id))) ids ∙ length_put row (id * proposal_size) (proposal_words (proposal_of proposal g id))

long_zeros : (n : ℕ) → eqb (length (zeros n)) n ≡ true
long_zeros n = eq-eqb (length (zeros n)) n (length_zeros n)

long_by : (xs : List ℕ) (n : ℕ) → length xs ≡ length (zeros n) → long xs n ≡ true
long_by xs n e = eq-eqb (length xs) n (e ∙ length_zeros n)

module _ (ls : List Line) (g : List ℕ) where
  settings_long : long (step_record ls).settings settings_length ≡ true
  unfolding step_record
  settings_long = long_by (fold settings_after (zeros settings_length) ls) settings_length (fold_length settings_after settings_kept (zeros settings_length) ls)

  colliders_long : long (step_record ls).colliders colliders_length ≡ true
  unfolding step_record
  colliders_long = long_by (fold (record_after collider_letter collider_size) (zeros colliders_length) ls) colliders_length (fold_length (record_after collider_letter collider_size) (record_kept collider_letter collider_size) (zeros colliders_length) ls)

  bodies_long : long (step_record ls).bodies bodies_length ≡ true
  unfolding step_record
  bodies_long = long_by (fold (record_after body_letter body_size) (zeros bodies_length) ls) bodies_length (fold_length (record_after body_letter body_size) (record_kept body_letter body_size) (zeros bodies_length) ls)

  proposals_long : long (proposals_of (step_record ls).proposal g) (capacity_of g * proposal_size) ≡ true
  unfolding proposals_of
  proposals_long = long_by (with_proposals (step_record ls).proposal g (zeros (capacity_of g * proposal_size)) (active_of g)) (capacity_of g * proposal_size) (proposals_kept (step_record ls).proposal g (zeros (capacity_of g * proposal_size)) (active_of g))

  shares_long : long (shares_of g) (shares_length (capacity_of g)) ≡ true
  unfolding shares_of
  shares_long =
      long_by (put (put (zeros (shares_length (capacity_of g))) 0 (1 ∷ listed_count g ∷ [])) shares_entries (active_of g)) (shares_length (capacity_of g))
      (length_put (put (zeros (shares_length (capacity_of g))) 0 (1 ∷ listed_count g ∷ [])) shares_entries (active_of g) ∙ length_put (zeros (shares_length (capacity_of g))) 0 (1 ∷ listed_count g ∷ []))

  pub given_long_lem : given_long (given_by (step_record ls) g) (capacity_of g) ≡ true
  unfolding given_long
  given_long_lem = rw (settings_long, colliders_long, bodies_long, proposals_long, shares_long)

blank_long : (capacity : ℕ) → rows_long (blank_rows capacity) capacity ≡ true
unfolding rows_long
blank_long capacity = rw (long_zeros (bits_length capacity), long_zeros (events_length capacity), long_zeros (changes_length capacity), long_zeros capacity)

-- ---- which rows are lent has no effect on the refusal
same_refusal : (x : Given) (g : List ℕ) (l m : Rows) → lengths_fit x g l ≡ true → lengths_fit x g m ≡ true → step_refusal x g l ≡ step_refusal x g m
unfolding step_refusal
same_refusal x g l m a b = rw (a, b)

-- the lengths of a step on a graph of the right length
pub fit_lengths : (x : Given) (g : List ℕ) (l : Rows) → right_length g ≡ true → given_long x (capacity_of g) ≡ true → rows_long l (capacity_of g) ≡ true → lengths_fit x g l ≡ true
unfolding lengths_fit
fit_lengths x g l a b c = rw (a, b, c)

-- a graph out of range is answered 2, whatever else is given
out_of_range : (x : Given) (g : List ℕ) → in_range g ≡ false → numbers_fit x g ≡ false
unfolding rows_in_range
out_of_range x g e = rw e (tests (settings_fit x.settings) (colliders_fit x.colliders) (bodies_fit x.bodies))
  where
    tests : (a b c : Bool) → (a && (b && (c && false))) ≡ false
    tests true true true = refl
    tests true true false = refl
    tests true false c = refl
    tests false b c = refl

-- ---- the same text and the same graph
pub record SameGo (e : Effect) (p : Played) : Type 0 where
  pub text : e.text ≡ p.text
  pub graph : e.graph ≡ p.graph

module _ (ls : List Line) (g : List ℕ) (x : Given) (l : Rows) (fit : lengths_fit x g l ≡ true) where
  abbrev y : Given
  y = given_by (step_record ls) g

  y_fits : (m : Rows) → rows_long m (capacity_of g) ≡ true → lengths_fit y g m ≡ true
  y_fits m h = fit_lengths y g m (length_parts x g l fit).0 (given_long_lem ls g) h

  abbrev played : Bool → ℕ → Played
  played fits n =
      cond (eqb (cond fits n 2) 0) (record { text = step_text (pass_of y g).events (pass_of y g).changes; graph = (pass_of y g).graph }) (record { text = refused_text (cond fits n 2); graph = g })

  abbrev stepped : ℕ → Effect
  stepped n =
      cond (eqb n 0) (record { text = step_text (pass_of y g).events (pass_of y g).changes; graph = (pass_of y g).graph; given = y; rows = rows_of y g l })
      (record { text = refused_text n; graph = g; given = y; rows = l })

  abbrev effect : Bool → Bool → ℕ → Effect
  effect fits range n = cond (fits && range) (stepped n) (record { text = refused_text 2; graph = g; given = x; rows = l })

  same_go : (fits range : Bool) (n m : ℕ) → n ≡ m → (range ≡ false → m ≡ 2) → SameGo (effect fits range n) (played fits m)
  same_go false range n m e r = record { text = refl; graph = refl }
  same_go true false n m e r = rw (r refl) (record { text = refl; graph = refl })
  same_go true true n m e r = rw e (by (eqb m 0))
    where
      by : (t : Bool)
          → SameGo
          (cond t (record { text = step_text (pass_of y g).events (pass_of y g).changes; graph = (pass_of y g).graph; given = y; rows = rows_of y g l })
          (record { text = refused_text m; graph = g; given = y; rows = l }))
          (cond t (record { text = step_text (pass_of y g).events (pass_of y g).changes; graph = (pass_of y g).graph }) (record { text = refused_text m; graph = g }))
      by true = record { text = refl; graph = refl }
      by false = record { text = refl; graph = refl }

  pub go_same : (xs : List ℕ) (p : Player) → lines_between xs p.stretch p.place ≡ ls → p.fits ≡ (step_record ls).fits → SameGo (go_effect xs p g x l) (play_go (step_record ls) g)
  unfolding go_effect step_effect go_refusal
  go_same xs p e f =
      rw (e, f)
      (same_go (step_record ls).fits (in_range g) (step_refusal y g l) (step_refusal y g (blank_rows (capacity_of g)))
      (same_refusal y g l (blank_rows (capacity_of g)) (y_fits l (length_parts x g l fit).2) (y_fits (blank_rows (capacity_of g)) (blank_long (capacity_of g))))
      (λ r. refused_numbers y g (blank_rows (capacity_of g)) (y_fits (blank_rows (capacity_of g)) (blank_long (capacity_of g))) (out_of_range y g r)))
