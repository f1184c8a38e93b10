-- The lines of a stretch of text, one after another. Assumes nothing.
use Rattle.std.specs.Prelude.{ℕ, zero, suc, ◌-◌, ◌≤◌, ◌<◌, ◌≡◌, refl, Bool, true, false, cond, List, [], ◌∷◌, ◌++◌, ltb, length, drop, Option, None, Some}
use Rattle.std.proofs.Common.{arith, sym, ap, ◌∙◌, append_assoc, append-nil, lt-ltb, le-ltb, length-drop, drop_of_length-le}
use Rattle.text.specs.Text.{Taken}
use Rattle.trace_rules.specs.Fields.{Line, read_line}
use Rattle.trace_rules.specs.Places.{place_of, lines_from, lines_within, lines_between}
use Rattle.trace_steps.specs.EndLaws.{line_shorter}

either : {A : Type 0} (b : Bool) (a : A) → cond b a a ≡ a
either true a = refl
either false a = refl

-- nothing is read past the end of a text
within_past : (n : ℕ) (xs : List ℕ) (at stop : ℕ) → length xs ≤ at → lines_within n xs at stop ≡ []
unfolding lines_within read_line
within_past zero xs at stop h = refl
within_past (suc n) xs at stop h =
    ap (λ (ys : List ℕ). cond (ltb at stop) (lines_from (read_line ys) (λ t. t.value ∷ lines_within n xs (place_of xs t.rest) stop)) []) (drop_of_length-le xs h)
    ∙ either (ltb at stop) []

-- more turns than there are bytes left change nothing
within_enough : (n m : ℕ) (xs : List ℕ) (at stop : ℕ) → length xs - at ≤ n → length xs - at ≤ m → lines_within n xs at stop ≡ lines_within m xs at stop
unfolding lines_within
within_enough zero m xs at stop h l = sym (within_past m xs at stop (omega arith))
within_enough (suc n) zero xs at stop h l = within_past (suc n) xs at stop (omega arith)
within_enough (suc n) (suc m) xs at stop h l =
    ap (λ (ls : List Line). cond (ltb at stop) ls [])
    (go (read_line (drop at xs)) refl (λ t s. within_enough n m xs (place_of xs t.rest) stop (omega (arith, length-drop at xs)) (omega (arith, length-drop at xs))))
  where
    go : (o : Option (Taken Line)) → read_line (drop at xs) ≡ o
        → ((t : Taken Line) → length t.rest < length (drop at xs) → lines_within n xs (place_of xs t.rest) stop ≡ lines_within m xs (place_of xs t.rest) stop)
        → lines_from o (λ t. t.value ∷ lines_within n xs (place_of xs t.rest) stop) ≡ lines_from o (λ t. t.value ∷ lines_within m xs (place_of xs t.rest) stop)
    go None e r = refl
    go (Some t) e r = ap (λ (ls : List Line). t.value ∷ ls) (r t (line_shorter (drop at xs) t e))

-- one turn
between_turn : (xs : List ℕ) (at stop : ℕ) → lines_between xs at stop ≡ cond (ltb at stop) (lines_from (read_line (drop at xs)) (λ t. t.value ∷ lines_between xs (place_of xs t.rest) stop)) []
unfolding lines_between lines_within
between_turn xs at stop = within_enough (length xs) (suc (length xs)) xs at stop (omega arith) (omega arith)

place_of_drop : (xs : List ℕ) (next : ℕ) → next ≤ length xs → place_of xs (drop next xs) ≡ next
place_of_drop xs next h = omega (arith, length-drop next xs)

-- a line that begins below the stop is the first
pub lines_next : (xs : List ℕ) (at stop next : ℕ) (l : Line) → at < stop → read_line (drop at xs) ≡ Some (record { value = l; rest = drop next xs }) → next ≤ length xs
    → lines_between xs at stop ≡ l ∷ lines_between xs next stop
lines_next xs at stop next l h e n =
    between_turn xs at stop
    ∙ ap (λ (b : Bool). cond b (lines_from (read_line (drop at xs)) (λ t. t.value ∷ lines_between xs (place_of xs t.rest) stop)) []) (lt-ltb at stop h)
    ∙ ap (λ (o : Option (Taken Line)). lines_from o (λ t. t.value ∷ lines_between xs (place_of xs t.rest) stop)) e
    ∙ ap (λ (k : ℕ). l ∷ lines_between xs k stop) (place_of_drop xs next n)

-- none begins at the stop or past it
pub lines_stop : (xs : List ℕ) (at stop : ℕ) → stop ≤ at → lines_between xs at stop ≡ []
lines_stop xs at stop h =
    between_turn xs at stop
    ∙ ap (λ (b : Bool). cond b (lines_from (read_line (drop at xs)) (λ t. t.value ∷ lines_between xs (place_of xs t.rest) stop)) []) (le-ltb at stop h)

-- what can't be read ends them
pub lines_unreadable : (xs : List ℕ) (at stop : ℕ) → read_line (drop at xs) ≡ None → lines_between xs at stop ≡ []
lines_unreadable xs at stop e =
    between_turn xs at stop
    ∙ ap (λ (o : Option (Taken Line)). cond (ltb at stop) (lines_from o (λ t. t.value ∷ lines_between xs (place_of xs t.rest) stop)) []) e
    ∙ either (ltb at stop) []

-- ---- the lines up to a place that reading from the start comes to
pub record Reached (xs : List ℕ) (start at : ℕ) (ls : List Line) : Type 0 where
  pub ahead : (stop : ℕ) → at ≤ stop → lines_between xs start stop ≡ ls ++ lines_between xs at stop

pub reached_here : (xs : List ℕ) (at : ℕ) → Reached xs at at []
reached_here xs at = record { ahead = λ stop h. refl }

-- one line further
pub reached_next : {xs : List ℕ} {start at : ℕ} {ls : List Line} (next : ℕ) (l : Line) → Reached xs start at ls → read_line (drop at xs) ≡ Some (record { value = l; rest = drop next xs }) → at < next
    → next ≤ length xs → Reached xs start next (ls ++ l ∷ [])
reached_next {xs} {start} {at} {ls} next l r e h n =
    record {
      ahead = λ stop s.
          r.ahead stop (omega arith) ∙ ap (λ (ms : List Line). ls ++ ms) (lines_next xs at stop next l (omega arith) e n)
          ∙ sym (append_assoc ls (l ∷ []) (lines_between xs next stop));
    }

pub reached_lines : {xs : List ℕ} {start at : ℕ} {ls : List Line} → Reached xs start at ls → lines_between xs start at ≡ ls
reached_lines {xs} {start} {at} {ls} r = r.ahead at (omega arith) ∙ ap (λ (ms : List Line). ls ++ ms) (lines_stop xs at at (omega arith)) ∙ append-nil ls
