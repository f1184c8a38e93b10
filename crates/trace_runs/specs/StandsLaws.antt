-- Where the player stands in a trace: what it has read since the last go, and where the next line leads it. Assumes nothing.
use Rattle.std.specs.Prelude.{ℕ, ◌+◌, ◌-◌, ◌≤◌, ◌<◌, ◌≡◌, refl, Bool, true, false, cond, ◌||◌, List, [], ◌∷◌, ◌++◌, eqb, length, drop, Option, None, Some}
use Rattle.std.proofs.Common.{arith, sym, ap, subst, ◌∙◌, eqb-true, length-append, length-drop, drop-drop}
use Rattle.std.proofs.Math.Seq.{drop-append_seam}
use Rattle.text.specs.Text.{Taken}
use Rattle.trace_rules.specs.Fields.{Line, read_line, settings_letter, manifold_letter, point_letter, go_letter}
use Rattle.trace_rules.specs.Reading.{is, Context, beginning, follow}
use Rattle.trace_rules.specs.Records.{fold, fits_after}
use Rattle.trace_rules.specs.Places.{place_of}
use Rattle.trace_steps.specs.PlaceLaws.{Reached, reached_here, reached_next}
use Rattle.trace_player.specs.Player.{player_at, context_of, player_after}
use Rattle.trace_player.specs.declared.player.Player.{Player}
use Rattle.trace_steps.specs.EndLaws.{line_ends}
use Rattle.trace_runs.specs.EntryLaws.{since_after}

pub record Stands (xs : List ℕ) (p : Player) (since : List Line) : Type 0 where
  pub reached : Reached xs p.stretch p.place since
  pub fits : p.fits ≡ fold fits_after true since
  pub inside : p.place ≤ length xs

-- where nothing has been read since the last go
pub stands_at : (xs : List ℕ) (place : ℕ) → place ≤ length xs → Stands xs (player_at place) []
unfolding fold
stands_at xs place h = record { reached = reached_here xs place; fits = refl; inside = h }

fold_next : {S : Type 0} (f : S → Line → S) (s : S) (ls : List Line) (l : Line) → fold f s (ls ++ l ∷ []) ≡ f (fold f s ls) l
unfolding fold
fold_next f s [] l = refl
fold_next f s (m ∷ ls) l = fold_next f (f s m) ls l

-- a go leads to the beginning
abbrev context_in : Option Context → Context
context_in None = beginning
context_in (Some c) = c

go_begins : (c d : Context) (l : Line) → is go_letter l ≡ true → follow c l ≡ Some d → beginning ≡ d
unfolding follow
go_begins c d l e f =
    let a : l.letter ≡ go_letter = eqb-true l.letter go_letter e in
    by c.settings
    (subst
    (λ (k : ℕ).
    cond (eqb k point_letter) (cond c.after_point (Some c) None)
    (cond (eqb k go_letter) (cond c.settings (Some beginning) None) (Some (record { after_point = eqb k manifold_letter; settings = c.settings || eqb k settings_letter })))
    ≡ Some d)
    a f)
  where
    by : (t : Bool) → cond t (Some beginning) None ≡ Some d → beginning ≡ d
    by true g = ap context_in g
    by false g = ap context_in g

-- ---- after a line that is read
module _ (xs : List ℕ) (at : ℕ) (inside : at ≤ length xs) (t : Taken Line) (read : read_line (drop at xs) ≡ Some t) where
  rest_place : (place : ℕ) → place ≡ place_of xs t.rest → (t.rest ≡ drop place xs) × (at < place) × (place ≤ length xs)
  rest_place place e =
      let f = line_ends (drop at xs) t read in
      let front = f.0 in
      let a : length xs - at ≡ length front + length t.rest = sym (length-drop at xs) ∙ ap length f.2 ∙ length-append front t.rest in
      let n : at + length front ≡ place = omega (arith, a, e, inside) in
      (sym (drop-append_seam front t.rest) ∙ ap (drop (length front)) (sym f.2) ∙ drop-drop (length front) at xs ∙ ap (λ (k : ℕ). drop k xs) n, omega (arith, n, f.1), omega (arith, e))

  pub rest_at : t.rest ≡ drop (place_of xs t.rest) xs
  rest_at = (rest_place (place_of xs t.rest) refl).0

  pub rest_after : at < place_of xs t.rest
  rest_after = (rest_place (place_of xs t.rest) refl).1

  pub rest_inside : place_of xs t.rest ≤ length xs
  rest_inside = (rest_place (place_of xs t.rest) refl).2

-- the next player stands after the line, in the context that the line leads to
pub record StandsNext (xs : List ℕ) (next : Player) (since : List Line) (c : Context) (rest : List ℕ) : Type 0 where
  pub stands : Stands xs next since
  pub context : context_of next ≡ c
  pub left : drop next.place xs ≡ rest

pub stands_next : {xs : List ℕ} {p : Player} {since : List Line} (t : Taken Line) (c : Context) → Stands xs p since → read_line (drop p.place xs) ≡ Some t
    → follow (context_of p) t.value ≡ Some c → StandsNext xs (player_after p t.value (place_of xs t.rest) c) (since_after since t.value) c t.rest
unfolding player_after
stands_next {xs} {p} {since} t c s e f = by (is go_letter t.value) (λ g. go_begins (context_of p) c t.value g f)
  where
    by : (b : Bool) → (b ≡ true → beginning ≡ c)
        → StandsNext xs
        (cond b (player_at (place_of xs t.rest))
        (record { place = place_of xs t.rest; stretch = p.stretch; after_point = c.after_point; settings = c.settings; fits = fits_after p.fits t.value }))
        (cond b [] (since ++ t.value ∷ [])) c t.rest
    by true g =
        record { stands = stands_at xs (place_of xs t.rest) (rest_inside xs p.place s.inside t e); context = g refl; left = sym (rest_at xs p.place s.inside t e) }
    by false g =
        record {
          stands = record {
            reached = reached_next (place_of xs t.rest) t.value s.reached
                (e ∙ ap (λ (rest : List ℕ). Some (record { value = t.value; rest = rest })) (rest_at xs p.place s.inside t e)) (rest_after xs p.place s.inside t e)
                (rest_inside xs p.place s.inside t e);
            fits = ap (λ (b : Bool). fits_after b t.value) s.fits ∙ sym (fold_next fits_after true since t.value);
            inside = rest_inside xs p.place s.inside t e;
          };
          context = refl;
          left = sym (rest_at xs p.place s.inside t e);
        }
