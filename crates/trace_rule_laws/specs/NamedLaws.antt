-- A trace names the matching setting to every step (`steps_named`); a T that has a dash for it, or ends before it, names 0 (`settings_dash`, `settings_missing`).
-- Assumes nothing.
use Prim.Native.Nat.{ℕ, zero, suc, ◌+◌, ◌<◌}
use Rattle.std.proofs.Common.{zero-add, arith, sym, subst, ◌∙◌, true≢false, eqb-true, get_or-append-add}
use Rattle.std.proofs.lemmas.Option.{none-some}
use Rattle.std.specs.Prelude.{◌≡◌, Bool, cond, ◌&&◌, ◌||◌, eqb, get_or, Option, None, Some}
use Rattle.std.proofs.Math.Path.{refl, ap}
use Rattle.std.proofs.Math.Bool.{true, false, and-true}
use mathlib.Core.List.{List, [], ◌∷◌, ◌++◌}
use Rattle.std.proofs.Math.ListN.{length}
use Rattle.rows.specs.Rows.{put}
use Rattle.rows.specs.Laws.{length_put, get_d_put}
use Rattle.words.specs.Words.{word_at}
use Rattle.layout.specs.Settings.{settings_length, settings_matching}
use Rattle.manifold_records.specs.Written.{zeros}
use Rattle.manifold_records.specs.ListLaws.{length_zeros}
use Rattle.text.specs.Text.{Taken, after, expect, tab, line_feed, decimal_from, decimal}
use Rattle.trace_rules.specs.Fields.{mark, kind_fits, read_kind, Item, setting, Fields, joined_taken, read_kinds, present, unsaid, dash, dash_read, end_read, default_or, read_item, read_items, settings_letter, addition_letter, point_letter, go_letter, manifold_letter, shape, Line, read_line}
use Rattle.trace_rules.specs.Reading.{is, Context, beginning, follow, or_unreadable, begins, at_end, read_lines, reading}
use Rattle.trace_rules.specs.Records.{word_of, fold, settings_after, step_record, addition, stepping, entries_from, entries}
use Rattle.trace_lines.specs.Widths.{item_width, items_width, width_of}
use Rattle.trace_lines.specs.WidthLaws.{Sized, item_sized, line_width}
use Rattle.trace_lines.specs.LineLaws.{items_append}
use Rattle.trace_rule_laws.specs.FoldLaws.{other_letter, fold_append}
use Rattle.trace_rule_laws.specs.ReadableLaws.{readable_line_lem, settings_width}
use Rattle.trace_rule_laws.specs.Named.{fixed_shape, Named}

-- ---- a setting that is not said

pub setting_missing : (rest : List ℕ) → read_item setting (line_feed ∷ rest) ≡ Some (record { value = record { words = 1 ∷ 0 ∷ []; fits = true }; rest = line_feed ∷ rest })
unfolding read_item end_read expect
setting_missing rest = refl

pub setting_dash : (rest : List ℕ) → read_item setting (tab ∷ dash ∷ rest) ≡ Some (record { value = record { words = 1 ∷ 0 ∷ []; fits = true }; rest = rest })
unfolding read_item end_read dash_read expect
setting_dash rest = refl

-- ---- one that is said

-- a number is no line's end, and no dash
said_no_end : (xs : List ℕ) (v : Taken ℕ) → read_kind mark xs ≡ Some v → end_read xs ≡ None
unfolding read_kind end_read expect
said_no_end [] v e = refl
said_no_end (x ∷ xs) v e = by (eqb x tab) refl e
  where
    by : (b : Bool) → eqb x tab ≡ b → cond b (decimal xs) None ≡ Some v → cond (eqb x line_feed) (Some (x ∷ xs)) None ≡ None
    by true t f = ap (λ (n : ℕ). cond (eqb n line_feed) (Some (n ∷ xs)) None) (eqb-true x tab t)
    by false t f = absurd (none-some v f)

said_no_dash : (xs : List ℕ) (v : Taken ℕ) → read_kind mark xs ≡ Some v → dash_read xs ≡ None
unfolding read_kind dash_read expect decimal decimal_from
said_no_dash [] v e = refl
said_no_dash (x ∷ []) v e = by (eqb x tab)
  where
    by : (b : Bool) → ◌≡◌ {A = Option (List ℕ)} (cond b None None) None
    by true = refl
    by false = refl
said_no_dash (x ∷ y ∷ xs) v e = by (eqb x tab) (eqb y dash) refl e
  where
    by : (b d : Bool) → eqb y dash ≡ d → cond b (decimal (y ∷ xs)) None ≡ Some v → cond b (cond d (Some xs) None) None ≡ None
    by true true t f = absurd (none-some v (sym (ap (λ (n : ℕ). decimal (n ∷ xs)) (eqb-true y dash t)) ∙ f))
    by true false t f = refl
    by false d t f = refl

pub setting_said : (xs : List ℕ) (v : Taken ℕ) → read_kind mark xs ≡ Some v
    → read_item setting xs ≡ Some (record { value = record { words = 1 ∷ v.value ∷ []; fits = kind_fits mark v.value }; rest = v.rest })
unfolding read_item read_kinds
setting_said xs v e =
    rw (said_no_end xs v e, said_no_dash xs v e, e)
    (ap (λ (b : Bool). Some (record { value = record { words = 1 ∷ v.value ∷ []; fits = b }; rest = v.rest })) (and-true (kind_fits mark v.value)))

-- ---- T, from what its fixed fields read to

settings_read : (xs ys rest : List ℕ) (f g : Fields) → read_items fixed_shape xs ≡ Some (record { value = f; rest = ys }) → read_item setting ys ≡ Some (record { value = g; rest = line_feed ∷ rest })
    → read_line (settings_letter ∷ xs) ≡ Some (record { value = record { letter = settings_letter; words = f.words ++ (g.words ++ []); fits = f.fits && (g.fits && true) }; rest = rest })
unfolding read_line shape read_items expect
settings_read xs ys rest f g e h = ap ended (items_append fixed_shape (setting ∷ []) xs) ∙ rw (e, h)
  where
    ended : Option (Taken Fields) → Option (Taken Line)
    ended o = after o (λ t. after (expect line_feed Some t.rest) (λ rest. Some (record { value = record { letter = settings_letter; words = t.value.words; fits = t.value.fits }; rest = rest })))

-- it ends there
pub settings_missing : (xs rest : List ℕ) (f : Fields) → read_items fixed_shape xs ≡ Some (record { value = f; rest = line_feed ∷ rest })
    → read_line (settings_letter ∷ xs) ≡ Some (record { value = record { letter = settings_letter; words = f.words ++ 1 ∷ 0 ∷ []; fits = f.fits }; rest = rest })
settings_missing xs rest f e =
    settings_read xs (line_feed ∷ rest) rest f unsaid e (setting_missing rest)
    ∙ ap (λ (b : Bool). Some (record { value = record { letter = settings_letter; words = f.words ++ 1 ∷ 0 ∷ []; fits = b }; rest = rest })) (and-true f.fits)

-- a dash, and it ends: the same line
pub settings_dash : (xs rest : List ℕ) (f : Fields) → read_items fixed_shape xs ≡ Some (record { value = f; rest = tab ∷ dash ∷ line_feed ∷ rest })
    → read_line (settings_letter ∷ xs) ≡ Some (record { value = record { letter = settings_letter; words = f.words ++ 1 ∷ 0 ∷ []; fits = f.fits }; rest = rest })
settings_dash xs rest f e =
    settings_read xs (tab ∷ dash ∷ line_feed ∷ rest) rest f unsaid e (setting_dash (line_feed ∷ rest))
    ∙ ap (λ (b : Bool). Some (record { value = record { letter = settings_letter; words = f.words ++ 1 ∷ 0 ∷ []; fits = b }; rest = rest })) (and-true f.fits)

-- a number v, and it ends
pub settings_said : (xs ys rest : List ℕ) (f : Fields) (v : ℕ) → read_items fixed_shape xs ≡ Some (record { value = f; rest = ys }) → read_kind mark ys ≡ Some (record { value = v; rest = line_feed ∷ rest })
    → read_line (settings_letter ∷ xs) ≡ Some (record { value = record { letter = settings_letter; words = f.words ++ 1 ∷ v ∷ []; fits = f.fits && kind_fits mark v }; rest = rest })
settings_said xs ys rest f v e h =
    settings_read xs ys rest f (record { words = 1 ∷ v ∷ []; fits = kind_fits mark v }) e (setting_said ys (record { value = v; rest = line_feed ∷ rest }) h)
    ∙ ap (λ (b : Bool). Some (record { value = record { letter = settings_letter; words = f.words ++ 1 ∷ v ∷ []; fits = f.fits && b }; rest = rest })) (and-true (kind_fits mark v))

-- ---- a setting's presence mark

abbrev NamedAt : ℕ → Option (Taken Fields) → Type 0
NamedAt k None = Unit {0}
NamedAt k (Some t) = get_or t.value.words k 0 ≡ 1

setting_named : (xs : List ℕ) → NamedAt 0 (read_item setting xs)
unfolding read_item
setting_named xs = by (end_read xs) (dash_read xs) (read_kinds (mark ∷ []) xs)
  where
    by : (e d : Option (List ℕ)) (o : Option (Taken Fields)) → NamedAt 0 (default_or unsaid e (default_or unsaid d (after o (joined_taken present))))
    by (Some rest) d o = refl
    by None (Some rest) o = refl
    by None None (Some t) = refl
    by None None None = tt

first_kept : (us ws : List ℕ) → get_or us 0 0 ≡ 1 → get_or (us ++ ws) 0 0 ≡ 1
first_kept [] ws e = absurd (omega (arith, e))
first_kept (u ∷ us) ws e = e

-- behind the words of the items before it
items_named : (is js : List Item) (xs : List ℕ) → NamedAt (items_width is) (read_items (is ++ setting ∷ js) xs)
unfolding read_items items_width
items_named [] js xs = first (read_item setting xs) (setting_named xs)
  where
    others : (a : Fields) (o : Option (Taken Fields)) → get_or a.words 0 0 ≡ 1 → NamedAt 0 (after o (joined_taken a))
    others a None h = tt
    others a (Some t) h = first_kept a.words t.value.words h

    first : (o : Option (Taken Fields)) → NamedAt 0 o → NamedAt 0 (after o (λ t. after (read_items js t.rest) (joined_taken t.value)))
    first None h = tt
    first (Some t) h = others t.value (read_items js t.rest) h
items_named (i ∷ is) js xs = first (read_item i xs) (item_sized i xs) (items_named is js)
  where
    others : (a : Fields) (o : Option (Taken Fields)) → length a.words ≡ item_width i → NamedAt (items_width is) o → NamedAt (item_width i + items_width is) (after o (joined_taken a))
    others a None e h = tt
    others a (Some t) e h =
        ap (λ (n : ℕ). get_or (a.words ++ t.value.words) (n + items_width is) 0) (sym e) ∙ get_or-append-add a.words t.value.words (items_width is) 0 ∙ h

    first : (o : Option (Taken Fields)) → Sized (item_width i) o → ((ys : List ℕ) → NamedAt (items_width is) (read_items (is ++ setting ∷ js) ys))
        → NamedAt (item_width i + items_width is) (after o (λ t. after (read_items (is ++ setting ∷ js) t.rest) (joined_taken t.value)))
    first None s h = tt
    first (Some t) s h = others t.value (read_items (is ++ setting ∷ js) t.rest) s (h t.rest)

-- ---- the settings' row of a step, whose word k every T makes 1

abbrev LineNamed : ℕ → Line → Type 0
LineNamed k l = is settings_letter l ≡ true → word_of l k ≡ 1

abbrev AnyNamed : ℕ → Option (Taken Line) → Type 0
AnyNamed k None = Unit {0}
AnyNamed k (Some t) = LineNamed k t.value

abbrev ShapeNamed : ℕ → Option (List Item) → Type 0
ShapeNamed k None = Unit {0}
ShapeNamed k (Some is) = (xs : List ℕ) → NamedAt k (read_items is xs)

any_named : (k : ℕ) → ShapeNamed k (shape settings_letter) → (xs : List ℕ) → AnyNamed k (read_line xs)
unfolding read_line
any_named k s [] = tt
any_named k s (l ∷ xs) = shaped (shape l) (λ e. subst (λ (m : ℕ). ShapeNamed k (shape m)) (sym (eqb-true l settings_letter e)) s)
  where
    ended : (t : Fields) (o : Option (List ℕ)) → (eqb l settings_letter ≡ true → get_or t.words k 0 ≡ 1)
        → AnyNamed k (after o (λ rest. Some (record { value = record { letter = l; words = t.words; fits = t.fits }; rest = rest })))
    ended t None h = tt
    ended t (Some rest) h = h

    read : (o : Option (Taken Fields)) → (eqb l settings_letter ≡ true → NamedAt k o)
        → AnyNamed k (after o (λ t. after (expect line_feed Some t.rest) (λ rest. Some (record { value = record { letter = l; words = t.value.words; fits = t.value.fits }; rest = rest }))))
    read None h = tt
    read (Some t) h = ended t.value (expect line_feed Some t.rest) h

    shaped : (o : Option (List Item)) → (eqb l settings_letter ≡ true → ShapeNamed k o)
        → AnyNamed k (after o (λ is. after (read_items is xs) (λ t. after (expect line_feed Some t.rest) (λ rest. Some (record { value = record { letter = l; words = t.value.words; fits = t.value.fits }; rest = rest })))))
    shaped None h = tt
    shaped (Some is) h = read (read_items is xs) (λ e. h e xs)

pub fold_long : (row : List ℕ) (ls : List Line) → length (fold settings_after row ls) ≡ length row
unfolding fold settings_after
fold_long row [] = refl
fold_long row (l ∷ ls) = fold_long (settings_after row l) ls ∙ picked (is settings_letter l)
  where
    picked : (b : Bool) → length (cond b (put row 0 l.words) row) ≡ length row
    picked true = length_put row 0 l.words
    picked false = refl

module _ (k : ℕ) (inside : k < settings_length) (s : ShapeNamed k (shape settings_letter)) where
  line_named : (xs : List ℕ) (t : Taken Line) → read_line xs ≡ Some t → LineNamed k t.value
  line_named xs t e = subst (AnyNamed k) e (any_named k s xs)

  -- the row after the lines since the last go
  abbrev row_after : List Line → List ℕ
  row_after since = fold settings_after (zeros settings_length) since

  -- with one line more: a T since the last go, or this one
  row_named : (since : List Line) (xs : List ℕ) (t : Taken Line) (had : Bool) → read_line xs ≡ Some t → (had ≡ true → word_at (row_after since) k ≡ 1) → (had || is settings_letter t.value) ≡ true
      → word_at (row_after (since ++ t.value ∷ [])) k ≡ 1
  unfolding fold settings_after
  row_named since xs t had e h o =
      ap (λ (row : List ℕ). word_at row k) (fold_append settings_after (zeros settings_length) since (t.value ∷ [])) ∙ by (is settings_letter t.value) refl had h o
    where
      by : (b : Bool) → is settings_letter t.value ≡ b → (had : Bool) → (had ≡ true → word_at (row_after since) k ≡ 1) → (had || b) ≡ true
          → word_at (cond b (put (row_after since) 0 t.value.words) (row_after since)) k ≡ 1
      by true f had h o =
          let n : length t.value.words ≡ settings_length = line_width xs t e ∙ ap width_of (eqb-true t.value.letter settings_letter f) ∙ settings_width in
          let m : length (row_after since) ≡ settings_length = fold_long (zeros settings_length) since ∙ length_zeros settings_length in
          ap (λ (j : ℕ). word_at (put (row_after since) 0 t.value.words) j) (sym (zero-add k))
          ∙ get_d_put (row_after since) 0 t.value.words k 0 (omega (arith, n, inside)) (omega (arith, m, inside)) ∙ line_named xs t e f
      by false f true h o = h refl
      by false f false h o = absurd (true≢false (sym o))

  -- a go, and any other line
  entry_named : (since : List Line) (l : Line) (ls : List Line) → (is go_letter l ≡ true → (word_at (row_after since) k ≡ 1) × Named k (entries_from [] ls))
      → (is go_letter l ≡ false → Named k (entries_from (since ++ l ∷ []) ls)) → Named k (entries_from since (l ∷ ls))
  unfolding entries_from step_record
  entry_named since l ls go other = by (is go_letter l) (is addition_letter l) go other
    where
      by : (g a : Bool) → (g ≡ true → (word_at (row_after since) k ≡ 1) × Named k (entries_from [] ls)) → (g ≡ false → Named k (entries_from (since ++ l ∷ []) ls))
          → Named k (cond g (stepping (step_record since) ∷ entries_from [] ls) (cond a (addition l.words ∷ entries_from (since ++ l ∷ []) ls) (entries_from (since ++ l ∷ []) ls)))
      by true a h o = h refl
      by false true h o = o refl
      by false false h o = o refl

  -- the context that a line leads to: a go comes with a named row, and is followed by none; behind another line the row is named where a T stands
  abbrev Led : List Line → Line → Option Context → Type 0
  Led since l None = Unit {0}
  Led since l (Some d) =
      (is go_letter l ≡ true → (word_at (row_after since) k ≡ 1) × (d.settings ≡ false)) × (is go_letter l ≡ false → d.settings ≡ true → word_at (row_after (since ++ l ∷ [])) k ≡ 1)

  line_leads : (c : Context) (since : List Line) (xs : List ℕ) (t : Taken Line) → read_line xs ≡ Some t → (c.settings ≡ true → word_at (row_after since) k ≡ 1) → Led since t.value (follow c t.value)
  unfolding follow
  line_leads c since xs t e h = by (is point_letter t.value) (is go_letter t.value) refl refl c.after_point c.settings h
    where
      by : (p g : Bool) → is point_letter t.value ≡ p → is go_letter t.value ≡ g → (above had : Bool) → (had ≡ true → word_at (row_after since) k ≡ 1)
          → Led since t.value
          (cond p (cond above (Some (record { after_point = above; settings = had })) None)
          (cond g (cond had (Some beginning) None) (Some (record { after_point = is manifold_letter t.value; settings = had || is settings_letter t.value }))))
      by true g p q false had h = tt
      by true g p q true had h =
          (λ r. absurd (true≢false (sym r ∙ other_letter point_letter go_letter t.value p refl)), λ r o. row_named since xs t had e h (ap (λ (b : Bool). b || is settings_letter t.value) o))
      by false true p q above true h = (λ r. (h refl, refl), λ r. absurd (true≢false (sym q ∙ r)))
      by false true p q above false h = tt
      by false false p q above had h = (λ r. absurd (true≢false (sym r ∙ q)), λ r o. row_named since xs t had e h o)

  entries_named : (most : ℕ) (c : Context) (xs : List ℕ) (since : List Line) → (c.settings ≡ true → word_at (row_after since) k ≡ 1) → Named k (entries_from since (read_lines most c xs).lines)
  unfolding read_lines at_end entries_from
  entries_named zero c xs since h = tt
  entries_named (suc most) c [] since h = tt
  entries_named (suc most) c (x ∷ xs) since h = read (read_line (x ∷ xs)) refl (entries_named most)
    where
      followed : (t : Taken Line) (o : Option Context) → Led since t.value o
          → ((d : Context) (ys : List ℕ) (ls : List Line) → (d.settings ≡ true → word_at (row_after ls) k ≡ 1) → Named k (entries_from ls (read_lines most d ys).lines))
          → Named k (entries_from since (or_unreadable o (λ d. begins t.value (read_lines most d t.rest))).lines)
      followed t None a rec = tt
      followed t (Some d) a rec =
          entry_named since t.value (read_lines most d t.rest).lines (λ g. let b = a.0 g in (b.0, rec d t.rest [] (λ r. absurd (true≢false (sym r ∙ b.1)))))
          (λ g. rec d t.rest (since ++ t.value ∷ []) (a.1 g))

      read : (o : Option (Taken Line)) → read_line (x ∷ xs) ≡ o
          → ((d : Context) (ys : List ℕ) (ls : List Line) → (d.settings ≡ true → word_at (row_after ls) k ≡ 1) → Named k (entries_from ls (read_lines most d ys).lines))
          → Named k (entries_from since (or_unreadable o (λ t. or_unreadable (follow c t.value) (λ d. begins t.value (read_lines most d t.rest)))).lines)
      read None e rec = tt
      read (Some t) e rec = followed t (follow c t.value) (line_leads c since (x ∷ xs) t e h) rec

-- ---- the matching setting

matching_shape : ShapeNamed settings_matching (shape settings_letter)
unfolding shape items_width
matching_shape = items_named fixed_shape []

-- of every T of a trace
pub readable_named : (trace : List ℕ) (xs : List Line) (l : Line) (rest : List Line) → (reading trace).lines ≡ xs ++ l ∷ rest → is settings_letter l ≡ true → word_of l settings_matching ≡ 1
readable_named = readable_line_lem (λ l. is settings_letter l ≡ true → word_of l settings_matching ≡ 1) (line_named settings_matching (omega arith) matching_shape)

-- and so of every step
pub steps_named : (trace : List ℕ) → Named settings_matching (entries (reading trace).lines)
unfolding reading entries
steps_named trace = entries_named settings_matching (omega arith) matching_shape (length trace) beginning trace [] (λ e. absurd (true≢false (sym e)))
