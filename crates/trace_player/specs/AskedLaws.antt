-- The line at the player's place, from what `read_line` and `follow` answer. Assumes nothing.
use Rattle.std.specs.Prelude.{ℕ, ◌≤◌, ◌≡◌, refl, ◌&&◌, ◌||◌, List, eqb, length, drop, None, Some}
use Rattle.std.proofs.Common.{arith, ap, ◌∙◌, length-drop, eq-eqb, ne_eqb}
use denote.Enum.Bare.{sameb}
use Rattle.text.specs.Text.{Taken}
use Rattle.trace_rules.specs.Fields.{Line, read_line, addition_letter, go_letter}
use Rattle.trace_rules.specs.Reading.{Context, follow}
use Rattle.trace_rules.specs.Records.{fits_after}
use Rattle.trace_rules.specs.Places.{place_of}
use Rattle.trace_lines.specs.Items.{letter_of}
use Rattle.trace_lines.specs.Promises.{LineIs}
use Rattle.trace_lines.specs.ShapeLaws.{one_letter}
use Rattle.trace_lines.specs.contracts.line_kind.LineKind.{the_type}
use Rattle.trace_lines.specs.declared.line.ReadLine.{ReadLine}
use Rattle.trace_lines.specs.declared.line_kind.LineKind.{LineKind}
use Rattle.trace_lines.specs.declared.line_kind.LineKind.TheVariants.{Addition, Settings, Collider, Body, Hook, Manifold, Point, Go}
use Rattle.trace_player.specs.declared.player.Player.{Player}
use Rattle.trace_player.specs.Player.{player_at, context_of, player_after, unreadable_line, readable_line, asked, lettered, LineAsked}

-- where what is left after a place begins
pub place_of_lem : (xs : List ℕ) (at : ℕ) → at ≤ length xs → place_of xs (drop at xs) ≡ at
place_of_lem xs at h = let l = length-drop at xs in omega (arith, l, h)

follow_letter : (c : Context) (l : Line) → follow c l ≡ follow c (lettered l.letter)
unfolding follow
follow_letter c l = refl

module _ (xs : List ℕ) (p : Player) where
  pub asked_unread : read_line (drop p.place xs) ≡ None → asked xs p ≡ unreadable_line
  unfolding asked
  asked_unread e = rw e

  pub asked_out : (t : Taken Line) → read_line (drop p.place xs) ≡ Some t → follow (context_of p) t.value ≡ None → asked xs p ≡ unreadable_line
  unfolding asked
  asked_out t e f = rw (e, f)

  pub asked_in : (t : Taken Line) (c : Context) → read_line (drop p.place xs) ≡ Some t → follow (context_of p) t.value ≡ Some c
      → asked xs p ≡ readable_line t.value (player_after p t.value (place_of xs t.rest) c)
  unfolding asked
  asked_in t c e f = rw (e, f)

  module _ (before after : List ℕ) (l : ReadLine) (i : LineIs xs p.place before after l) where
    abbrev line_of : Line
    line_of = record { letter = letter_of l.kind; words = i.fields; fits = l.fits }

    pub asked_misplaced : follow (context_of p) (lettered (letter_of l.kind)) ≡ None → asked xs p ≡ unreadable_line
    asked_misplaced f = asked_out (record { value = line_of; rest = drop l.next xs }) i.read (follow_letter (context_of p) line_of ∙ f)

    pub asked_line : (c : Context) (q : Player) → follow (context_of p) (lettered (letter_of l.kind)) ≡ Some c → player_after p line_of l.next c ≡ q
        → LineAsked xs p before after (record { kind = l.kind; player = q })
    asked_line c q f e =
        record {
          fields = i.fields;
          fits = l.fits;
          line = asked_in (record { value = line_of; rest = drop l.next xs }) c i.read (follow_letter (context_of p) line_of ∙ f)
              ∙ ap (λ (n : ℕ). readable_line line_of (player_after p line_of n c)) (place_of_lem xs l.next i.inside) ∙ ap (readable_line line_of) e;
          stored = i.stored;
          read = (drop l.next xs, i.read);
        }

-- ---- the kind of a line
pub not_go : (k : LineKind) → (k ≡ Go → ⊥) → letter_of k ≡ go_letter → ⊥
not_go k h e = h (one_letter k Go e)

pub not_addition : (k : LineKind) → (k ≡ Addition → ⊥) → letter_of k ≡ addition_letter → ⊥
not_addition k h e = h (one_letter k Addition e)

pub addition_tested : (k : LineKind) → sameb the_type k Addition ≡ eqb (letter_of k) addition_letter
addition_tested Addition = refl
addition_tested Settings = refl
addition_tested Collider = refl
addition_tested Body = refl
addition_tested Hook = refl
addition_tested Manifold = refl
addition_tested Point = refl
addition_tested Go = refl

-- ---- the player after a line
pub after_go : (p : Player) (l : Line) (n : ℕ) (c : Context) → l.letter ≡ go_letter → player_after p l n c ≡ player_at n
unfolding player_after
after_go p l n c e = rw (eq-eqb l.letter go_letter e)

pub after_other : (p : Player) (l : Line) (n : ℕ) (c : Context) → (l.letter ≡ go_letter → ⊥)
    → player_after p l n c ≡ record { place = n; stretch = p.stretch; after_point = c.after_point; settings = c.settings; fits = p.fits && (eqb l.letter addition_letter || l.fits) }
unfolding player_after fits_after
after_other p l n c e = rw (ne_eqb l.letter go_letter e)
