-- The lines that a text reads to: a point stands only where the line above is a manifold or a point, and a line has as many words as its letter's record.
-- So the premises about points and lengths in `passed_over` and `replaced` hold in every trace: `own_points`, `readable_both`. Assumes nothing.
use Prim.Native.Nat.{ℕ, zero, suc}
use Rattle.std.specs.Prelude.{◌≡◌, Bool, true, false, cond, ◌&&◌, ◌||◌, length, Option, None, Some}
use Rattle.std.proofs.Math.Path.{refl}
use Rattle.std.proofs.Common.{sym, ap, subst, ◌∙◌, true≢false, eqb-true}
use mathlib.Core.List.{List, [], ◌∷◌, ◌++◌, append_assoc}
use Rattle.layout.specs.Body.{body_size}
use Rattle.layout.specs.Collider.{collider_size}
use Rattle.layout.specs.Settings.{settings_length}
use Rattle.text.specs.Text.{Taken}
use Rattle.trace_rules.specs.Fields.{Line, read_line, settings_letter, collider_letter, body_letter, manifold_letter, point_letter, go_letter}
use Rattle.trace_rules.specs.Reading.{is, Context, beginning, follow, Reading, or_unreadable, begins, at_end, read_lines, reading}
use Rattle.trace_lines.specs.Widths.{width_of}
use Rattle.trace_lines.specs.WidthLaws.{line_width}
use Rattle.trace_rule_laws.specs.FoldLaws.{other_letter}
use Rattle.trace_rule_laws.specs.PassedOver.{points_follow, point_first}
use Rattle.trace_rule_laws.specs.Replaced.{Both}

-- a line that is readable in its place, and what follows it
line_follows : (above settings : Bool) (l : Line) (rest : Context → Reading) → ((d : Context) → points_follow d.after_point (rest d).lines ≡ true)
    → points_follow above (or_unreadable (follow (record { after_point = above; settings = settings }) l) (λ d. begins l (rest d))).lines ≡ true
unfolding follow points_follow
line_follows above settings l rest h = by above settings (is point_letter l) (is go_letter l) refl refl
  where
    by : (above settings p g : Bool) → is point_letter l ≡ p → is go_letter l ≡ g
        → points_follow above
        (or_unreadable
        (cond p (cond above (Some (record { after_point = above; settings = settings })) None)
        (cond g (cond settings (Some beginning) None) (Some (record { after_point = is manifold_letter l; settings = settings || is settings_letter l }))))
        (λ d. begins l (rest d))).lines ≡ true
    by true settings true g p q = let c : Context = record { after_point = true; settings = settings } in (λ i. cond (p i) (points_follow true (rest c).lines) (points_follow (is manifold_letter l) (rest c).lines)) ∙ h c
    by false settings true g p q = refl
    by above true false true p q =
        let ls = (rest beginning).lines in
        (λ i. cond (p i) (above && points_follow true ls) (points_follow (other_letter go_letter manifold_letter l q refl i) ls)) ∙ h beginning
    by above false false true p q = refl
    by above settings false false p q =
        let c : Context = record { after_point = is manifold_letter l; settings = settings || is settings_letter l } in
        (λ i. cond (p i) (above && points_follow true (rest c).lines) (points_follow (is manifold_letter l) (rest c).lines)) ∙ h c

lines_follow : (most : ℕ) (c : Context) (xs : List ℕ) → points_follow c.after_point (read_lines most c xs).lines ≡ true
unfolding read_lines points_follow at_end
lines_follow zero c xs = refl
lines_follow (suc most) c [] = refl
lines_follow (suc most) c (x ∷ xs) = read (read_line (x ∷ xs)) (lines_follow most)
  where
    read : (o : Option (Taken Line)) → ((d : Context) (ys : List ℕ) → points_follow d.after_point (read_lines most d ys).lines ≡ true)
        → points_follow c.after_point (or_unreadable o (λ t. or_unreadable (follow c t.value) (λ d. begins t.value (read_lines most d t.rest)))).lines ≡ true
    read None h = refl
    read (Some t) h = line_follows c.after_point c.settings t.value (λ d. read_lines most d t.rest) (λ d. h d t.rest)

-- every point of a trace
pub readable_points : (xs : List ℕ) → points_follow false (reading xs).lines ≡ true
unfolding reading
readable_points xs = lines_follow (length xs) beginning xs

-- and so of the lines from one on that is no point
pub points_after : (above : Bool) (xs ys : List Line) → points_follow above (xs ++ ys) ≡ true → point_first ys ≡ false → points_follow false ys ≡ true
unfolding points_follow
points_after above [] [] e n = refl
points_after above [] (l ∷ ls) e n =
    (λ i. cond (n i) (false && points_follow true ls) (points_follow (is manifold_letter l) ls)) ∙ (λ i. cond (sym n i) (above && points_follow true ls) (points_follow (is manifold_letter l) ls)) ∙ e
points_after above (l ∷ xs) ys e n = by (is point_letter l) above e (λ b h. points_after b xs ys h n)
  where
    by : (p above : Bool) → cond p (above && points_follow true (xs ++ ys)) (points_follow (is manifold_letter l) (xs ++ ys)) ≡ true
        → ((b : Bool) → points_follow b (xs ++ ys) ≡ true → points_follow false ys ≡ true) → points_follow false ys ≡ true
    by true true e rec = rec true e
    by true false e rec = absurd (true≢false (sym e))
    by false above e rec = rec (is manifold_letter l) e

pub points_before : (above : Bool) (xs ys : List Line) → points_follow above (xs ++ ys) ≡ true → points_follow above xs ≡ true
unfolding points_follow
points_before above [] ys e = refl
points_before above (l ∷ xs) ys e = by (is point_letter l) above e (λ b h. points_before b xs ys h)
  where
    by : (p above : Bool) → cond p (above && points_follow true (xs ++ ys)) (points_follow (is manifold_letter l) (xs ++ ys)) ≡ true
        → ((b : Bool) → points_follow b (xs ++ ys) ≡ true → points_follow b xs ≡ true) → cond p (above && points_follow true xs) (points_follow (is manifold_letter l) xs) ≡ true
    by true true e rec = rec true e
    by true false e rec = absurd (true≢false (sym e))
    by false above e rec = rec (is manifold_letter l) e

-- all points of the lines passed over are among them, so that those after them have their own manifolds
pub own_points : (trace : List ℕ) (xs after rest : List Line) → (reading trace).lines ≡ xs ++ (after ++ rest) → point_first (after ++ rest) ≡ false → points_follow false after ≡ true
own_points trace xs after rest e n = points_before false after rest (points_after false xs (after ++ rest) (sym (ap (points_follow false) e) ∙ readable_points trace) n)

-- ---- words

-- what holds of a line that can be read holds of every line of a trace
module _ (P : Line → Type 0) (p : (xs : List ℕ) (t : Taken Line) → read_line xs ≡ Some t → P t.value) where
  abbrev All : List Line → Type 0
  All [] = Unit {0}
  All (l ∷ ls) = P l × All ls

  lines_all : (most : ℕ) (c : Context) (xs : List ℕ) → All (read_lines most c xs).lines
  unfolding read_lines at_end
  lines_all zero c xs = tt
  lines_all (suc most) c [] = tt
  lines_all (suc most) c (x ∷ xs) = read (read_line (x ∷ xs)) refl (lines_all most)
    where
      followed : (t : Taken Line) (o : Option Context) → P t.value → ((d : Context) (ys : List ℕ) → All (read_lines most d ys).lines)
          → All (or_unreadable o (λ d. begins t.value (read_lines most d t.rest))).lines
      followed t None e h = tt
      followed t (Some d) e h = (e, h d t.rest)

      read : (o : Option (Taken Line)) → read_line (x ∷ xs) ≡ o → ((d : Context) (ys : List ℕ) → All (read_lines most d ys).lines)
          → All (or_unreadable o (λ t. or_unreadable (follow c t.value) (λ d. begins t.value (read_lines most d t.rest)))).lines
      read None e h = tt
      read (Some t) e h = followed t (follow c t.value) (p (x ∷ xs) t e) h

  all_at : (xs : List Line) (l : Line) (rest : List Line) → All (xs ++ l ∷ rest) → P l
  all_at [] l rest w = w.0
  all_at (x ∷ xs) l rest w = all_at xs l rest w.1

  pub readable_line_lem : (trace : List ℕ) (xs : List Line) (l : Line) (rest : List Line) → (reading trace).lines ≡ xs ++ l ∷ rest → P l
  unfolding reading
  readable_line_lem trace xs l rest e = all_at xs l rest (subst All e (lines_all (length trace) beginning trace))

pub readable_width : (trace : List ℕ) (xs : List Line) (l : Line) (rest : List Line) → (reading trace).lines ≡ xs ++ l ∷ rest → length l.words ≡ width_of l.letter
readable_width = readable_line_lem (λ l. length l.words ≡ width_of l.letter) line_width

-- two lines of one letter
pub readable_both : (letter : ℕ) (trace : List ℕ) (xs : List Line) (l : Line) (between : List Line) (m : Line) (rest : List Line) → (reading trace).lines ≡ xs ++ l ∷ between ++ m ∷ rest
    → is letter l ≡ true → is letter m ≡ true → Both letter (width_of letter) l m
readable_both letter trace xs l between m rest e p q =
    record {
      first = p;
      second = q;
      first_words = readable_width trace xs l (between ++ m ∷ rest) (e ∙ append_assoc xs (l ∷ between) (m ∷ rest)) ∙ ap width_of (eqb-true l.letter letter p);
      second_words = readable_width trace (xs ++ l ∷ between) m rest e ∙ ap width_of (eqb-true m.letter letter q);
    }

-- as many words as the rows have for the record
pub settings_width : width_of settings_letter ≡ settings_length
unfolding width_of
settings_width = refl

pub collider_width : width_of collider_letter ≡ collider_size
unfolding width_of
collider_width = refl

pub body_width : width_of body_letter ≡ body_size
unfolding width_of
body_width = refl
