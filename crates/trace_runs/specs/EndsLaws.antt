-- Every trace is played to its end: each line moves the player on, and what is lent keeps its lengths. Assumes nothing.
use Rattle.std.specs.Prelude.{ℕ, zero, suc, ◌+◌, ◌≤◌, ◌<◌, ◌≡◌, ◌⊎◌, Bool, true, false, cond, List, [], ◌++◌, leb, length, take, drop, Option, None, Some}
use Rattle.std.proofs.Common.{arith, sym, ap, subst, ◌∙◌, inl, inr, leb-true, leb-false, length-append, length-drop}
use Rattle.std.proofs.Math.Path.{refl}
use Rattle.text.specs.Text.{Taken}
use Rattle.trace_rules.specs.Fields.{Line, read_line, go_letter}
use Rattle.trace_rules.specs.Places.{place_of}
use Rattle.trace_rules.specs.Reading.{is, Context, follow}
use Rattle.trace_rules.specs.Records.{fits_after}
use Rattle.trace_player.specs.CallLaws.{past_end, line_played}
use Rattle.trace_player.specs.Player.{player_at, context_of, player_after, Asked, unreadable_line, readable_line, or_unreadable_line, asked}
use Rattle.trace_player.specs.Played.{Lent, lent_fits, line_effect, unreadable_effect, asked_after, AskedPlayed}
use Rattle.trace_player.specs.declared.play.PlayedLine.{PlayedLine}
use Rattle.trace_player.specs.declared.player.Player.{Player}
use Rattle.trace_steps.specs.EndLaws.{line_ends}
use Rattle.trace_runs.specs.KeptLaws.{asked_kept}
use Rattle.trace_runs.specs.Plays.{Plays, play_ends, play_next}

-- ---- the place after a line
after_place : (p : Player) (l : Line) (next : ℕ) (c : Context) → (player_after p l next c).place ≡ next
unfolding player_after
after_place p l next c = by (is go_letter l)
  where
    by : (t : Bool)
        → (cond t (player_at next) (record { place = next; stretch = p.stretch; after_point = c.after_point; settings = c.settings; fits = fits_after p.fits l })).place ≡ next
    by true = refl
    by false = refl

taken_place : (xs : List ℕ) (at : ℕ) (t : Taken Line) → read_line (drop at xs) ≡ Some t → at < place_of xs t.rest
taken_place xs at t e =
    let f = line_ends (drop at xs) t e in
    let a = length-drop at xs in
    let b = ap (λ (ys : List ℕ). length ys) f.2 ∙ length-append f.0 t.rest in
    omega (arith, a, b, f.1)

-- the player that a call answers
abbrev next_player : List ℕ → Asked → Player
next_player xs unreadable_line = player_at (length xs)
next_player xs (readable_line line next) = next

module _ (xs : List ℕ) (p : Player) (inside : p.place < length xs) where
  followed_moves : (t : Taken Line) → read_line (drop p.place xs) ≡ Some t → (o : Option Context)
      → p.place < (next_player xs (or_unreadable_line o (λ c. readable_line t.value (player_after p t.value (place_of xs t.rest) c)))).place
  followed_moves t e None = inside
  followed_moves t e (Some c) = subst (λ (n : ℕ). p.place < n) (sym (after_place p t.value (place_of xs t.rest) c)) (taken_place xs p.place t e)

  asked_moves : p.place < (next_player xs (asked xs p)).place
  unfolding asked
  asked_moves = by (read_line (drop p.place xs)) refl
    where
      by : (o : Option (Taken Line)) → read_line (drop p.place xs) ≡ o
          → p.place
          < (next_player xs
          (or_unreadable_line o (λ t. or_unreadable_line (follow (context_of p) t.value) (λ c. readable_line t.value (player_after p t.value (place_of xs t.rest) c))))).place
      by None e = inside
      by (Some t) e = followed_moves t e (follow (context_of p) t.value)

-- ---- one call
abbrev asked_text : List ℕ → Player → Lent → Asked → List ℕ
asked_text xs p l unreadable_line = (unreadable_effect l).text
asked_text xs p l (readable_line line next) = (line_effect xs p line l).text

module _ (xs : List ℕ) (p : Player) (l : Lent) where
  abbrev answered : PlayedLine
  answered = record { player = next_player xs (asked xs p); written = length (asked_text xs p l (asked xs p)) }

  asked_played : AskedPlayed xs p l (asked_after xs p l (asked xs p)).lent answered
  asked_played = by (asked xs p) refl
    where
      by : (a : Asked) → asked xs p ≡ a → AskedPlayed xs p l (asked_after xs p l a).lent (record { player = next_player xs a; written = length (asked_text xs p l a) })
      by unreadable_line e = record { answer = ap (λ (b : Asked). (asked_after xs p l b).answer) (sym e); lent = ap (λ (b : Asked). (asked_after xs p l b).lent) (sym e) }
      by (readable_line line next) e = record { answer = ap (λ (b : Asked). (asked_after xs p l b).answer) (sym e); lent = ap (λ (b : Asked). (asked_after xs p l b).lent) (sym e) }

-- ---- to the end
abbrev PlayedOut : List ℕ → Player → Lent → Type 0
PlayedOut xs p l = (k : ℕ) × (text : List ℕ) × (l' : Lent) × Plays xs p l k text l'

ends_here : (xs : List ℕ) (p : Player) (l : Lent) → lent_fits l ≡ true → length xs ≤ p.place → PlayedOut xs p l
ends_here xs p l f h = (0, [], l, play_ends (past_end xs p l f h))

plays_on : (xs : List ℕ) (p : Player) (l : Lent) → lent_fits l ≡ true → p.place < length xs → PlayedOut xs (next_player xs (asked xs p)) (asked_after xs p l (asked xs p)).lent → PlayedOut xs p l
plays_on xs p l f e (k, text, l'', plays) =
    let l' = (asked_after xs p l (asked xs p)).lent in
    (suc k, take (answered xs p l).written l'.out ++ text, l'', play_next (line_played xs p l l' (answered xs p l) f e (asked_played xs p l)) plays)

before_or_not : (a b : ℕ) → (a ≤ b) ⊎ (b < a)
before_or_not a b = by (leb a b) refl
  where
    by : (t : Bool) → leb a b ≡ t → (a ≤ b) ⊎ (b < a)
    by true e = inl (leb-true a b e)
    by false e = inr (leb-false a b e)

-- as many calls as bytes are left are enough
pub play_ends_within : (n : ℕ) (xs : List ℕ) (p : Player) (l : Lent) → lent_fits l ≡ true → length xs ≤ n + p.place → (k : ℕ) × (text : List ℕ) × (l' : Lent) × Plays xs p l k text l'
play_ends_within zero xs p l f h = ends_here xs p l f (omega (arith, h))
play_ends_within (suc n) xs p l f h =
    elim (before_or_not (length xs) p.place) [
      | inl e ↦ ends_here xs p l f e
      | inr e ↦ plays_on xs p l f e
          (play_ends_within n xs (next_player xs (asked xs p)) (asked_after xs p l (asked xs p)).lent (asked_kept xs p l f (asked xs p)) (omega (arith, h, asked_moves xs p e)))
    ]

-- a trace of any bytes, lent rows of the right lengths
pub trace_ends : (xs : List ℕ) (l : Lent) → lent_fits l ≡ true → (k : ℕ) × (text : List ℕ) × (l' : Lent) × Plays xs (player_at 0) l k text l'
trace_ends xs l f = play_ends_within (length xs) xs (player_at 0) l f (omega arith)
