-- The order in which H and M lines name their two colliders has no effect: `pair_order`. Assumes nothing.
use Rattle.std.specs.Prelude.{ℕ, ◌≡◌, Bool, true, false, cond, ◌&&◌, ◌||◌, List, [], ◌∷◌, ◌++◌, eqb, get_or, drop, None, Some}
use Rattle.std.proofs.Math.Path.{refl}
use Rattle.std.proofs.Common.{sym, ap, ◌∙◌, true≢false}
use Rattle.std.proofs.Math.Bool.{or_comm}
use Rattle.layout.specs.Body.{body_size, bodies_length}
use Rattle.layout.specs.Collider.{collider_size, colliders_length}
use Rattle.layout.specs.Settings.{settings_length}
use Rattle.manifold_records.specs.Written.{zeros}
use Rattle.contact_range.specs.Range.{same_colliders}
use Rattle.trace_rules.specs.Fields.{Line, addition_letter, settings_letter, collider_letter, body_letter, hook_letter, manifold_letter, point_letter, go_letter}
use Rattle.trace_rules.specs.Reading.{is, reading}
use Rattle.trace_rules.specs.Records.{fold, settings_after, record_after, Proposing, proposed, unproposed, of_pair, at_most_one, proposing_after, fits_after, step_record, Entry, entries_from, entries}
use Rattle.trace_rules.specs.Printed.{refused_text, unreadable}
use Rattle.trace_rules.specs.Play.{play_entries, played}
use Rattle.trace_rule_laws.specs.Exchanged.{names_pair, exchanged_words, exchanged, EitherOrder, end, kept, turned}
use Rattle.trace_rule_laws.specs.FoldLaws.{other_letter, idle_settings, idle_record, proposing_by, proposing_by_lem, same_record, entries_by}

-- a pair is the same in either order
pub either_order : (a b c d : ℕ) → same_colliders a b c d ≡ same_colliders a b d c
unfolding same_colliders
either_order a b c d = or_comm (eqb a c && eqb b d) (eqb a d && eqb b c)

-- ---- one line

names_turned : (a b : ℕ) (ws : List ℕ) → same_colliders a b (get_or ws 0 0) (get_or ws 1 0) ≡ same_colliders a b (get_or (exchanged_words ws) 0 0) (get_or (exchanged_words ws) 1 0)
names_turned a b [] = refl
names_turned a b (c ∷ []) = refl
names_turned a b (c ∷ d ∷ ws) = either_order a b c d

answer_turned : (ws : List ℕ) → get_or ws 2 0 ≡ get_or (exchanged_words ws) 2 0
answer_turned [] = refl
answer_turned (a ∷ []) = refl
answer_turned (a ∷ b ∷ ws) = refl

normal_turned : (ws : List ℕ) → drop 2 ws ≡ drop 2 (exchanged_words ws)
normal_turned [] = refl
normal_turned (a ∷ []) = refl
normal_turned (a ∷ b ∷ ws) = refl

-- an H or an M is nothing else
pub not_other : (b : ℕ) (l : Line) → names_pair l ≡ true → eqb hook_letter b ≡ false → eqb manifold_letter b ≡ false → is b l ≡ false
not_other b l e h m = by (is hook_letter l) (is manifold_letter l) refl refl e
  where
    by : (s t : Bool) → is hook_letter l ≡ s → is manifold_letter l ≡ t → s || t ≡ true → is b l ≡ false
    by true t p q e = other_letter hook_letter b l p h
    by false true p q e = other_letter manifold_letter b l q m
    by false false p q e = absurd (true≢false (sym e))

module _ (l : Line) (pair : names_pair l ≡ true) where
  turned_settings : (row : List ℕ) → settings_after row l ≡ settings_after row (exchanged l)
  turned_settings row = let e = not_other settings_letter l pair refl refl in idle_settings l e row ∙ sym (idle_settings (exchanged l) e row)

  turned_record : (letter size : ℕ) → eqb hook_letter letter ≡ false → eqb manifold_letter letter ≡ false → (row : List ℕ) → record_after letter size row l ≡ record_after letter size row (exchanged l)
  turned_record letter size h m row = let e = not_other letter l pair h m in idle_record letter size l e row ∙ sym (idle_record letter size (exchanged l) e row)

  turned_fits : (fits : Bool) → fits_after fits l ≡ fits_after fits (exchanged l)
  unfolding fits_after
  turned_fits fits = refl

  turned_proposing : (a b : ℕ) (s : Proposing) → proposing_after a b s l ≡ proposing_after a b s (exchanged l)
  turned_proposing a b s =
      let e = not_other point_letter l pair refl refl in
      let h = is hook_letter l in
      let m = is manifold_letter l in
      proposing_by_lem a b s l ∙ (λ i. proposing_by h m (e i) (of_pair a b l) l s)
      ∙ (λ i. cond h (cond (names_turned a b l.words i) (record { hook = answer_turned l.words i; closed = s.closed; last = s.last }) s)
      (cond m (record { hook = s.hook; closed = s.closed ++ at_most_one s.last; last = cond (names_turned a b l.words i) (Some (record { normal = normal_turned l.words i; points = [] })) None }) s))
      ∙ (λ i. proposing_by h m (sym e i) (of_pair a b (exchanged l)) (exchanged l) s) ∙ sym (proposing_by_lem a b s (exchanged l))

-- ---- lists of lines

fold_turned : {S : Type 0} (f : S → Line → S) → ((l : Line) → names_pair l ≡ true → (s : S) → f s l ≡ f s (exchanged l)) → (s : S) {ls ms : List Line} → EitherOrder ls ms → fold f s ls ≡ fold f s ms
unfolding fold
fold_turned f same s end = refl
fold_turned f same s (kept l o) = fold_turned f same (f s l) o
fold_turned {S} f same s (turned {ls} {ms} l e o) = fold_turned f same (f s l) o ∙ ap (λ (t : S). fold f t ms) (same l e s)

pub record_order : {ls ms : List Line} → EitherOrder ls ms → step_record ls ≡ step_record ms
record_order {ls} {ms} o =
    same_record ls ms (fold_turned settings_after turned_settings (zeros settings_length) o)
    (fold_turned (record_after collider_letter collider_size) (λ l e. turned_record l e collider_letter collider_size refl refl) (zeros colliders_length) o)
    (fold_turned (record_after body_letter body_size) (λ l e. turned_record l e body_letter body_size refl refl) (zeros bodies_length) o)
    (λ a b. ap proposed (fold_turned (proposing_after a b) (λ l e. turned_proposing l e a b) unproposed o))
    (fold_turned fits_after turned_fits true o)

order_append : {as' bs cs ds : List Line} → EitherOrder as' bs → EitherOrder cs ds → EitherOrder (as' ++ cs) (bs ++ ds)
order_append end p = p
order_append (kept l o) p = kept l (order_append o p)
order_append (turned l e o) p = turned l e (order_append o p)

entries_turned : {since since' ls ms : List Line} → EitherOrder since since' → EitherOrder ls ms → entries_from since ls ≡ entries_from since' ms
unfolding entries_from
entries_turned s end = refl
entries_turned {since} {since'} s (kept l o) =
    λ i. entries_by (is go_letter l) (is addition_letter l) (record_order s i) l.words (entries_turned {since = []} {since' = []} end o i)
    (entries_turned {since = since ++ l ∷ []} {since' = since' ++ l ∷ []} (order_append s (kept l end)) o i)
entries_turned {since} {since'} s (turned {ls} {ms} l e o) =
    let a = not_other addition_letter l e refl refl in
    let g = is go_letter l in
    (λ i. entries_by g (a i) (record_order s i) l.words (entries_turned {since = []} {since' = []} end o i)
    (entries_turned {since = since ++ l ∷ []} {since' = since' ++ exchanged l ∷ []} (order_append s (turned l e end)) o i))
    ∙ (λ i. entries_by g (sym a i) (step_record since') (exchanged_words l.words) (entries_from [] ms) (entries_from (since' ++ exchanged l ∷ []) ms))

pub entries_order : {ls ms : List Line} → EitherOrder ls ms → entries ls ≡ entries ms
unfolding entries
entries_order o = entries_turned end o

-- what is printed, and the graph that is left
pub play_order : {ls ms : List Line} → EitherOrder ls ms → (g : List ℕ) → play_entries (entries ls) g ≡ play_entries (entries ms) g
play_order o g = ap (λ (es : List Entry). play_entries es g) (entries_order o)

-- two traces whose lines are the same but for the order of colliders in H and M lines print the same
pub pair_order : (xs ys : List ℕ) → EitherOrder (reading xs).lines (reading ys).lines → (reading xs).unreadable ≡ (reading ys).unreadable → (g : List ℕ) → played xs g ≡ played ys g
unfolding played
pair_order xs ys o u g = λ i. (play_order o g i).text ++ cond (u i) (refused_text unreadable) []
