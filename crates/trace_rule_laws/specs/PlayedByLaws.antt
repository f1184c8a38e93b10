-- By which rule a trace's step matches: as the last T before its G says, and by number where that has a dash for the setting or ends before it (`missing_step`,
-- `dash_step`). Assumes nothing.
use Rattle.std.specs.Prelude.{ℕ, ◌+◌, ◌≡◌, Bool, true, false, cond, List, [], ◌∷◌, ◌++◌, eqb, length, get_or, Option, None, Some}
use Rattle.std.proofs.Common.{sym, ap, subst, ◌∙◌, get_or-append-add}
use Rattle.rows.specs.Laws.{put_whole}
use Rattle.rows.specs.Rows.{put}
use Rattle.words.specs.Words.{word_at}
use Rattle.layout.specs.Settings.{settings_length, settings_matching}
use Rattle.collider.specs.Recorded.{mark_or, settings_of}
use Rattle.manifold_records.specs.Written.{zeros}
use Rattle.manifold_records.specs.ListLaws.{length_zeros}
use Rattle.text.specs.Text.{Taken, tab, line_feed}
use Rattle.rules.specs.Matching.{by_number, feature_rule}
use Rattle.trace_rules.specs.Fields.{mark, read_kind, Fields, dash, read_items, settings_letter, Line, read_line}
use Rattle.trace_rules.specs.Reading.{is}
use Rattle.trace_rules.specs.Records.{fold, settings_after, step_record}
use Rattle.trace_lines.specs.Widths.{items_width, width_of}
use Rattle.trace_lines.specs.WidthLaws.{Sized, items_sized, line_width}
use Rattle.trace_rule_laws.specs.FoldLaws.{fold_append, Idle, idle_none, idle_more, idle_settings}
use Rattle.trace_rule_laws.specs.ReadableLaws.{settings_width}
use Rattle.trace_rule_laws.specs.Named.{fixed_shape}
use Rattle.trace_rule_laws.specs.NamedLaws.{settings_missing, settings_dash, settings_said, fold_long}

-- ---- a T, by its line
-- its words, and what they say
said_is : (ws : List ℕ) (v : ℕ) → length ws ≡ settings_matching → (settings_of (ws ++ 1 ∷ v ∷ [])).by_place ≡ eqb v 1
unfolding settings_of mark_or
said_is ws v n =
    let named : word_at (ws ++ 1 ∷ v ∷ []) settings_matching ≡ 1 = ap (λ (m : ℕ). get_or (ws ++ 1 ∷ v ∷ []) (m + 0) 0) (sym n) ∙ get_or-append-add ws (1 ∷ v ∷ []) 0 0 in
    let said : word_at (ws ++ 1 ∷ v ∷ []) (settings_matching + 1) ≡ v = ap (λ (m : ℕ). get_or (ws ++ 1 ∷ v ∷ []) (m + 1) 0) (sym n) ∙ get_or-append-add ws (1 ∷ v ∷ []) 1 0 in
    λ i. cond (eqb (named i) 1) (eqb (said i) 1) true

fixed_wide : (xs : List ℕ) (t : Taken Fields) → read_items fixed_shape xs ≡ Some t → length t.value.words ≡ settings_matching
unfolding items_width
fixed_wide xs t e = subst (Sized settings_matching) e (items_sized fixed_shape xs)

abbrev words_read : Option (Taken Line) → List ℕ
words_read None = []
words_read (Some t) = t.value.words

read_is : {o : Option (Taken Line)} (t : Taken Line) {u : Taken Line} → o ≡ Some t → o ≡ Some u → t.value.words ≡ u.value.words
read_is t e f = ap words_read (sym e ∙ f)

module _ (xs rest : List ℕ) (f : Fields) (t : Taken Line) (read : read_line (settings_letter ∷ xs) ≡ Some t) where
  -- it ends before the setting
  pub missing_by_number : read_items fixed_shape xs ≡ Some (record { value = f; rest = line_feed ∷ rest }) → (settings_of t.value.words).by_place ≡ false
  missing_by_number e = ap (λ (ws : List ℕ). (settings_of ws).by_place) (read_is t read (settings_missing xs rest f e)) ∙ said_is f.words 0 (fixed_wide xs _ e)

  -- it has a dash for it
  pub dash_by_number : read_items fixed_shape xs ≡ Some (record { value = f; rest = tab ∷ dash ∷ line_feed ∷ rest }) → (settings_of t.value.words).by_place ≡ false
  dash_by_number e = ap (λ (ws : List ℕ). (settings_of ws).by_place) (read_is t read (settings_dash xs rest f e)) ∙ said_is f.words 0 (fixed_wide xs _ e)

  -- it has a number: by place if that is 1
  pub said_by : (ys : List ℕ) (v : ℕ) → read_items fixed_shape xs ≡ Some (record { value = f; rest = ys }) → read_kind mark ys ≡ Some (record { value = v; rest = line_feed ∷ rest })
      → (settings_of t.value.words).by_place ≡ eqb v 1
  said_by ys v e h = ap (λ (ws : List ℕ). (settings_of ws).by_place) (read_is t read (settings_said xs ys rest f v e h)) ∙ said_is f.words v (fixed_wide xs _ e)

-- ---- a step is given the words of its last T
abbrev pub NoSettings : List Line → Type 0
NoSettings [] = Unit {0}
NoSettings (l ∷ ls) = (is settings_letter l ≡ false) × NoSettings ls

idle_lines : (ls : List Line) → NoSettings ls → Idle settings_after ls
idle_lines [] h = idle_none settings_after
idle_lines (l ∷ ls) h = idle_more settings_after l ls (idle_settings l h.0) (idle_lines ls h.1)

pub last_settings : (before : List Line) (l : Line) (after : List Line) → is settings_letter l ≡ true → length l.words ≡ settings_length → NoSettings after
    → (step_record (before ++ l ∷ after)).settings ≡ l.words
unfolding step_record fold settings_after
last_settings before l after e n h =
    let row = fold settings_after (zeros settings_length) before in
    let m : length row ≡ settings_length = fold_long (zeros settings_length) before ∙ length_zeros settings_length in
    fold_append settings_after (zeros settings_length) before (l ∷ after) ∙ idle_lines after h (settings_after row l)
    ∙ ap (λ (b : Bool). cond b (put row 0 l.words) row) e ∙ put_whole row l.words (n ∙ sym m)

-- ---- together: lines before and after it, without a T after it
abbrev letter_read : Option (Taken Line) → ℕ
letter_read None = 0
letter_read (Some t) = t.value.letter

module _ (xs rest : List ℕ) (f : Fields) (t : Taken Line) (read : read_line (settings_letter ∷ xs) ≡ Some t) (before after : List Line) (none_after : NoSettings after) where
  given_last : t.value.letter ≡ settings_letter → (step_record (before ++ t.value ∷ after)).settings ≡ t.value.words
  given_last e =
      last_settings before t.value after (ap (λ (n : ℕ). eqb n settings_letter) e) (line_width (settings_letter ∷ xs) t read ∙ ap width_of e ∙ settings_width) none_after

  by_number_lem : t.value.letter ≡ settings_letter → (settings_of t.value.words).by_place ≡ false
      → feature_rule (settings_of (step_record (before ++ t.value ∷ after)).settings).by_place ≡ by_number
  by_number_lem e h = ap feature_rule (ap (λ (ws : List ℕ). (settings_of ws).by_place) (given_last e) ∙ h)

  -- the last T ends before the setting: the step matches by number
  pub missing_step : read_items fixed_shape xs ≡ Some (record { value = f; rest = line_feed ∷ rest })
      → feature_rule (settings_of (step_record (before ++ t.value ∷ after)).settings).by_place ≡ by_number
  missing_step e = by_number_lem (ap letter_read (sym read ∙ settings_missing xs rest f e)) (missing_by_number xs rest f t read e)

  -- it has a dash for it: by number
  pub dash_step : read_items fixed_shape xs ≡ Some (record { value = f; rest = tab ∷ dash ∷ line_feed ∷ rest })
      → feature_rule (settings_of (step_record (before ++ t.value ∷ after)).settings).by_place ≡ by_number
  dash_step e = by_number_lem (ap letter_read (sym read ∙ settings_dash xs rest f e)) (dash_by_number xs rest f t read e)
