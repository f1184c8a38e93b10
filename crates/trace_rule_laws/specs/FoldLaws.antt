-- Lines one after another, and lines that change nothing of what a step is given. Assumes nothing.
use Rattle.std.specs.Prelude.{ℕ, ◌*◌, ◌≡◌, Bool, true, false, cond, ◌&&◌, ◌||◌, eqb, drop, None, Some}
use Rattle.std.proofs.Math.Path.{refl}
use Rattle.std.proofs.Common.{sym, ap, ◌∙◌, eqb-true}
use Rattle.std.proofs.Math.Bool.{and-true, or-true}
use mathlib.Core.List.{List, [], ◌∷◌, ◌++◌}
use Rattle.rows.specs.Rows.{put}
use Rattle.layout.specs.Body.{body_size, bodies_length}
use Rattle.layout.specs.Collider.{collider_size, colliders_length}
use Rattle.layout.specs.Settings.{settings_length}
use Rattle.manifold_records.specs.Written.{zeros}
use Rattle.trace_rules.specs.Fields.{Line, addition_letter, settings_letter, collider_letter, body_letter, hook_letter, manifold_letter, point_letter}
use Rattle.trace_rules.specs.Reading.{is}
use Rattle.trace_rules.specs.Records.{word_of, fold, settings_after, record_after, Proposing, proposed, unproposed, of_pair, new_manifold, with_point, at_most_one, proposing_after, StepRecord, fits_after, step_record, Entry, addition, stepping}

-- a line has one letter
pub other_letter : (a b : ℕ) (l : Line) → is a l ≡ true → eqb a b ≡ false → is b l ≡ false
other_letter a b l e d = ap (λ (n : ℕ). eqb n b) (eqb-true l.letter a e) ∙ d

module _ {S : Type 0} (f : S → Line → S) where
  pub fold_append : (s : S) (xs ys : List Line) → fold f s (xs ++ ys) ≡ fold f (fold f s xs) ys
  unfolding fold
  fold_append s [] ys = refl
  fold_append s (l ∷ xs) ys = fold_append (f s l) xs ys

  -- lines that change nothing, whatever stands
  abbrev pub Idle : List Line → Type 0
  Idle ls = (s : S) → fold f s ls ≡ s

  pub idle_none : Idle []
  unfolding fold
  idle_none s = refl

  pub idle_more : (l : Line) (ls : List Line) → ((s : S) → f s l ≡ s) → Idle ls → Idle (l ∷ ls)
  unfolding fold
  idle_more l ls e i s = i (f s l) ∙ e s

  pub idle_one : (l : Line) → ((s : S) → f s l ≡ s) → Idle (l ∷ [])
  idle_one l e = idle_more l [] e idle_none

  -- what changes nothing may be left out
  pub fold_without : (s : S) (before passed after : List Line) → Idle passed → fold f s (before ++ passed ++ after) ≡ fold f s (before ++ after)
  fold_without s before passed after i =
      fold_append s (before ++ passed) after ∙ ap (λ (t : S). fold f t after) (fold_append s before passed ∙ i (fold f s before)) ∙ sym (fold_append s before after)

-- ---- by the letter

pub idle_settings : (l : Line) → is settings_letter l ≡ false → (row : List ℕ) → settings_after row l ≡ row
unfolding settings_after
idle_settings l e row = ap (λ (t : Bool). cond t (put row 0 l.words) row) e

pub idle_record : (letter size : ℕ) (l : Line) → is letter l ≡ false → (row : List ℕ) → record_after letter size row l ≡ row
unfolding record_after
idle_record letter size l e row = ap (λ (t : Bool). cond t (put row (word_of l 0 * size) (1 ∷ drop 1 l.words)) row) e

pub idle_fits : (l : Line) → l.fits ≡ true → (fits : Bool) → fits_after fits l ≡ fits
unfolding fits_after
idle_fits l e fits = ap (λ (t : Bool). fits && (is addition_letter l || t)) e ∙ ap (λ (t : Bool). fits && t) (or-true (is addition_letter l)) ∙ and-true fits

-- a pair's proposal, by what the line is and whether it names the pair
abbrev pub proposing_by : (hook manifold point names : Bool) → Line → Proposing → Proposing
proposing_by hook manifold point names l s =
    cond hook (cond names (record { hook = word_of l 2; closed = s.closed; last = s.last }) s)
    (cond manifold (record { hook = s.hook; closed = s.closed ++ at_most_one s.last; last = cond names (Some (new_manifold l)) None })
    (cond point (record { hook = s.hook; closed = s.closed; last = with_point s.last l }) s))

pub proposing_by_lem : (a b : ℕ) (s : Proposing) (l : Line) → proposing_after a b s l ≡ proposing_by (is hook_letter l) (is manifold_letter l) (is point_letter l) (of_pair a b l) l s
unfolding proposing_after
proposing_by_lem a b s l = refl

pub idle_proposing : (a b : ℕ) (l : Line) → is hook_letter l ≡ false → is manifold_letter l ≡ false → is point_letter l ≡ false → (s : Proposing) → proposing_after a b s l ≡ s
idle_proposing a b l h m p s = proposing_by_lem a b s l ∙ (λ i. proposing_by (h i) (m i) (p i) (of_pair a b l) l s)

-- ---- what a step is given, part by part

pub same_record : (ls ms : List Line)
    → fold settings_after (zeros settings_length) ls ≡ fold settings_after (zeros settings_length) ms
    → fold (record_after collider_letter collider_size) (zeros colliders_length) ls ≡ fold (record_after collider_letter collider_size) (zeros colliders_length) ms
    → fold (record_after body_letter body_size) (zeros bodies_length) ls ≡ fold (record_after body_letter body_size) (zeros bodies_length) ms
    → ((a b : ℕ) → proposed (fold (proposing_after a b) unproposed ls) ≡ proposed (fold (proposing_after a b) unproposed ms))
    → fold fits_after true ls ≡ fold fits_after true ms → step_record ls ≡ step_record ms
unfolding step_record
same_record ls ms settings colliders bodies proposal fits =
    λ i. record { settings = settings i; colliders = colliders i; bodies = bodies i; proposal = λ a b. proposal a b i; fits = fits i }

-- a trace's entries, by what the next line is
abbrev pub entries_by : (go adds : Bool) → StepRecord → List ℕ → List Entry → List Entry → List Entry
entries_by go adds r words after others = cond go (stepping r ∷ after) (cond adds (addition words ∷ others) others)
