-- One call of `play_line`, from what its parts answer. Assumes nothing.
use Rattle.std.specs.Prelude.{ℕ, ◌≤◌, ◌<◌, ◌≡◌, refl, true, false, List, [], ◌∷◌, length, drop, Ok, Some, None, Err}
use Rattle.std.proofs.Common.{zero-add, arith, sym, ap, ◌∙◌}
use borrow.Author.Tests.{eq-eqb, ne_eqb, le-leb, lt-leb}
use Rattle.rows.specs.Rows.{put}
use Rattle.words.specs.Words.{word_at}
use Rattle.rows.specs.Laws.{get_d_put}
use Rattle.text.specs.Text.{Taken, Written}
use Rattle.layout.specs.Request.{request_length}
use Rattle.contact_range.specs.Recorded.{capacity_of}
use Rattle.step.specs.Step.{Given, Rows, long, lengths_fit}
use Rattle.trace_rules.specs.Fields.{Line, addition_letter, go_letter}
use Rattle.trace_rules.specs.Printed.{refused_text, unreadable}
use Rattle.trace_lines.specs.Items.{letter_of}
use Rattle.trace_lines.specs.WidthLaws.{line_width}
use Rattle.trace_lines.specs.Widths.{width_of}
use Rattle.trace_player.specs.declared.player.Player.{Player}
use Rattle.trace_player.specs.declared.player.AskedLine.{AskedLine}
use Rattle.trace_player.specs.declared.play.PlayedLine.{PlayedLine}
use Rattle.contact_types.specs.declared.refusal.Refusal.TheVariants.{WrongLength}
use Rattle.trace_player.specs.Player.{player_at, unreadable_line, readable_line, asked, LineAsked}
use Rattle.trace_player.specs.Played.{Lent, lent, printed_length, lent_fits, refused, ended, played, AfterLine, Effect, printing, go_effect, addition_effect, line_effect, request_words, unreadable_effect, asked_after, after_line, Made, AdditionMade, AskedPlayed, LinePlayed}
use Rattle.trace_player.specs.PlayLaws.{first_true, nothing_written}

module _ (xs : List ℕ) (p : Player) (l : Lent) where
  -- ---- a line whose effect is made
  pub effect_played : (next : Player) (e : Effect) (l' : Lent) (n : ℕ) → asked_after xs p l (asked xs p) ≡ printing next e l.out → Made e l.out l' n
      → AskedPlayed xs p l l' (record { player = next; written = n })
  effect_played next e l' n a m =
      record {
        answer = ap (played next) (m.text.count ∙ zero-add (length e.text)) ∙ ap (λ (r : AfterLine). r.answer) (sym a);
        lent = lent_is ∙ ap (λ (r : AfterLine). r.lent) (sym a);
      }
    where
      lent_is : l' ≡ (printing next e l.out).lent
      lent_is = λ i. record { graph = m.graph i; given = m.given i; rows = m.rows i; out = m.text.stored i }

  pub unreadable_played : (out : List ℕ) (n : ℕ) → asked xs p ≡ unreadable_line → Written l.out 0 (refused_text unreadable) out n
      → AskedPlayed xs p l (lent l.graph l.given l.rows out) (record { player = player_at (length xs); written = n })
  unreadable_played out n e w =
      effect_played (player_at (length xs)) (unreadable_effect l) (lent l.graph l.given l.rows out) n (ap (asked_after xs p l) e) (record { graph = refl; given = refl; rows = refl; text = w })

  module _ (line : Line) (next : Player) (e : asked xs p ≡ readable_line line next) where
    asked_effect : (f : Effect) → line_effect xs p line l ≡ f → asked_after xs p l (asked xs p) ≡ printing next f l.out
    asked_effect f q = ap (asked_after xs p l) e ∙ ap (λ (g : Effect). printing next g l.out) q

    is_go : line.letter ≡ go_letter → line_effect xs p line l ≡ go_effect xs p l.graph l.given l.rows
    unfolding line_effect
    is_go g = rw (eq-eqb line.letter go_letter g)

    is_addition : (line.letter ≡ go_letter → ⊥) → line.letter ≡ addition_letter → line_effect xs p line l ≡ addition_effect line.words l.graph l.given l.rows
    unfolding line_effect
    is_addition g a = rw (ne_eqb line.letter go_letter g, eq-eqb line.letter addition_letter a)

    is_other : (line.letter ≡ go_letter → ⊥) → (line.letter ≡ addition_letter → ⊥) → line_effect xs p line l ≡ record { text = []; graph = l.graph; given = l.given; rows = l.rows }
    unfolding line_effect
    is_other g a = rw (ne_eqb line.letter go_letter g, ne_eqb line.letter addition_letter a)

    pub go_played : (l' : Lent) (n : ℕ) → line.letter ≡ go_letter → Made (go_effect xs p l.graph l.given l.rows) l.out l' n → AskedPlayed xs p l l' (record { player = next; written = n })
    go_played l' n g m = effect_played next (go_effect xs p l.graph l.given l.rows) l' n (asked_effect (go_effect xs p l.graph l.given l.rows) (is_go g)) m

    addition_made : (words h out : List ℕ) (n : ℕ) → words ≡ line.words → AdditionMade words l.graph l.out h out n
        → Made (addition_effect line.words l.graph l.given l.rows) l.out (lent h l.given l.rows out) n
    unfolding addition_effect
    addition_made words h out n w m = rw (sym w) (record { graph = m.graph; given = refl; rows = refl; text = m.text })

    pub addition_played : (words h out : List ℕ) (n : ℕ) → (line.letter ≡ go_letter → ⊥) → line.letter ≡ addition_letter → words ≡ line.words → AdditionMade words l.graph l.out h out n
        → AskedPlayed xs p l (lent h l.given l.rows out) (record { player = next; written = n })
    addition_played words h out n g a w m =
        effect_played next (addition_effect line.words l.graph l.given l.rows) (lent h l.given l.rows out) n
        (asked_effect (addition_effect line.words l.graph l.given l.rows) (is_addition g a)) (addition_made words h out n w m)

    pub other_played : (line.letter ≡ go_letter → ⊥) → (line.letter ≡ addition_letter → ⊥) → AskedPlayed xs p l l (record { player = next; written = 0 })
    other_played g a =
        effect_played next (record { text = []; graph = l.graph; given = l.given; rows = l.rows }) l 0
        (asked_effect (record { text = []; graph = l.graph; given = l.given; rows = l.rows }) (is_other g a))
        (record { graph = refl; given = refl; rows = refl; text = nothing_written l.out })

  -- ---- the call
  pub after_refused : lent_fits l ≡ false → after_line xs p l ≡ record { answer = refused 1; lent = l }
  unfolding after_line
  after_refused f = rw f

  pub after_end : lent_fits l ≡ true → length xs ≤ p.place → after_line xs p l ≡ record { answer = ended; lent = l }
  unfolding after_line
  after_end f h = rw (f, le-leb (length xs) p.place h)

  pub after_asked : lent_fits l ≡ true → p.place < length xs → after_line xs p l ≡ asked_after xs p l (asked xs p)
  unfolding after_line
  after_asked f h = rw (f, lt-leb (length xs) p.place h)

  pub lengths_refused : lent_fits l ≡ false → LinePlayed xs p l l (Err WrongLength)
  lengths_refused f = let e = sym (after_refused f) in record { answer = ap (λ (r : AfterLine). r.answer) e; lent = ap (λ (r : AfterLine). r.lent) e }

  pub past_end : lent_fits l ≡ true → length xs ≤ p.place → LinePlayed xs p l l (Ok None)
  past_end f h = let e = sym (after_end f h) in record { answer = ap (λ (r : AfterLine). r.answer) e; lent = ap (λ (r : AfterLine). r.lent) e }

  pub line_played : (l' : Lent) (r : PlayedLine) → lent_fits l ≡ true → p.place < length xs → AskedPlayed xs p l l' r → LinePlayed xs p l l' (Ok (Some r))
  line_played l' r f h a = let e = sym (after_asked f h) in record { answer = a.answer ∙ ap (λ (r : AfterLine). r.answer) e; lent = a.lent ∙ ap (λ (r : AfterLine). r.lent) e }

-- ---- lengths
module _ (g : List ℕ) (x : Given) (l : Rows) (out : List ℕ) where
  pub rows_unfit : lengths_fit x g l ≡ false → lent_fits (lent g x l out) ≡ false
  unfolding lent_fits
  rows_unfit e = rw e

  pub fit_lengths : lent_fits (lent g x l out) ≡ true → lengths_fit x g l ≡ true
  unfolding lent_fits
  fit_lengths e = first_true (lengths_fit x g l) (long out (printed_length (capacity_of g))) e

-- an addition's words, as they stand in the row
addition_width : (letter : ℕ) → letter ≡ addition_letter → width_of letter ≡ request_length
unfolding width_of
addition_width letter e = rw e

-- nine words are the list of them
nine_words : (ws : List ℕ) → length ws ≡ request_length → request_words ws ≡ ws
nine_words [] e = absurd (omega (arith, e))
nine_words (a ∷ []) e = absurd (omega (arith, e))
nine_words (a ∷ b ∷ []) e = absurd (omega (arith, e))
nine_words (a ∷ b ∷ c ∷ []) e = absurd (omega (arith, e))
nine_words (a ∷ b ∷ c ∷ d ∷ []) e = absurd (omega (arith, e))
nine_words (a ∷ b ∷ c ∷ d ∷ f ∷ []) e = absurd (omega (arith, e))
nine_words (a ∷ b ∷ c ∷ d ∷ f ∷ g ∷ []) e = absurd (omega (arith, e))
nine_words (a ∷ b ∷ c ∷ d ∷ f ∷ g ∷ h ∷ []) e = absurd (omega (arith, e))
nine_words (a ∷ b ∷ c ∷ d ∷ f ∷ g ∷ h ∷ k ∷ []) e = absurd (omega (arith, e))
nine_words (a ∷ b ∷ c ∷ d ∷ f ∷ g ∷ h ∷ k ∷ m ∷ []) e = refl
nine_words (a ∷ b ∷ c ∷ d ∷ f ∷ g ∷ h ∷ k ∷ m ∷ n ∷ ws) e = absurd (omega (arith, e))

pub request_words_lem : (xs : List ℕ) (p : Player) (before after : List ℕ) (a : AskedLine) (i : LineAsked xs p before after a) → letter_of a.kind ≡ addition_letter → request_length ≤ length before
    → request_words after ≡ i.fields
request_words_lem xs p before after a i e h =
    let t : Taken Line = record { value = record { letter = letter_of a.kind; words = i.fields; fits = i.fits }; rest = i.read.0 } in
    let w : length i.fields ≡ request_length = line_width (drop p.place xs) t i.read.1 ∙ addition_width (letter_of a.kind) e in
    let at : (k : ℕ) → k < request_length → word_at after k ≡ word_at i.fields k = λ k s. ap (λ (ws : List ℕ). word_at ws k) i.stored ∙ ap (word_at (put before 0 i.fields)) (sym (zero-add k)) ∙ get_d_put before 0 i.fields k 0 (omega (arith, w, s)) (omega (arith, h, s)) in
    (λ j. at 0 (omega arith) j ∷ at 1 (omega arith) j ∷ at 2 (omega arith) j ∷ at 3 (omega arith) j ∷ at 4 (omega arith) j ∷ at 5 (omega arith) j ∷ at 6 (omega arith) j ∷ at 7 (omega arith) j
    ∷ at 8 (omega arith) j ∷ [])
    ∙ nine_words i.fields w
