-- Items in turn, and a whole line. Assumes nothing.
use Rattle.std.specs.Prelude.{◌≡◌, refl, ℕ, ◌+◌, ◌≤◌, ◌<◌, Bool, true, false, ◌&&◌, length, get_or, Option, None, Some}
use Rattle.std.proofs.Math.Path.{sym, ap, ap₂}
use Rattle.std.proofs.Common.{subst, ◌∙◌, zero-add, add-one, length-append, drop_of_length-le, drop-cons}
use native.Mathlib.Omega.{arith}
use mathlib.Core.List.{List, [], ◌∷◌, ◌++◌, append_assoc, append-nil}
use Rattle.std.specs.Prelude.{take}
use Rattle.std.proofs.Math.ListN.{drop}
use Rattle.rows.specs.Rows.{put}
use Rattle.rows.specs.Laws.{length_put, put_next}
use Rattle.text.specs.Text.{Taken, after, expect, line_feed}
use Rattle.text.specs.Answers.{Stands, ByteRead}
use Rattle.text.specs.TextLaws.{expect_read, expect_not}
use Rattle.trace_rules.specs.Fields.{Item, Fields, no_fields, joined, joined_taken, read_item, read_items, shape, read_line}
use Rattle.trace_lines.specs.Items.{item_of, items_of, letter_of}
use Rattle.trace_lines.specs.Widths.{item_width, items_width}
use Rattle.trace_lines.specs.Answers.{ValueAt, ExtentAt}
use Rattle.trace_lines.specs.Promises.{LineIs}
use Rattle.trace_lines.specs.ItemLaws.{and_true}
use Rattle.trace_lines.specs.WidthLaws.{Sized, item_sized, shape_narrow}
use Rattle.trace_lines.specs.declared.shapes.Item as coded
use Rattle.trace_lines.specs.declared.fields.Checked.{Checked}
use Rattle.trace_lines.specs.declared.line_kind.LineKind.{LineKind}

-- ---- fields one after another

and_assoc : (a b c : Bool) → ((a && b) && c) ≡ (a && (b && c))
and_assoc true b c = refl
and_assoc false b c = refl

joined_assoc : (a b c : Fields) → joined a (joined b c) ≡ joined (joined a b) c
joined_assoc a b c = ap₂ (λ (ws : List ℕ) (t : Bool). record { words = ws; fits = t }) (sym (append_assoc a.words b.words c.words)) (sym (and_assoc a.fits b.fits c.fits))

after_joined : (a b : Fields) (o : Option (Taken Fields)) → after (after o (joined_taken b)) (joined_taken a) ≡ after o (joined_taken (joined a b))
after_joined a b None = refl
after_joined a b (Some t) = ap (λ (f : Fields). Some (record { value = f; rest = t.rest })) (joined_assoc a b t.value)

after_none : (o : Option (Taken Fields)) → after o (joined_taken no_fields) ≡ o
after_none None = refl
after_none (Some t) = refl

pub items_append : (is js : List Item) (xs : List ℕ) → read_items (is ++ js) xs ≡ after (read_items is xs) (λ t. after (read_items js t.rest) (joined_taken t.value))
unfolding read_items
items_append [] js xs = sym (after_none (read_items js xs))
items_append (i ∷ is) js xs = first (read_item i xs) (items_append is js)
  where
    others : (a : Fields) (o : Option (Taken Fields))
        → after (after o (λ t. after (read_items js t.rest) (joined_taken t.value))) (joined_taken a) ≡ after (after o (joined_taken a)) (λ t. after (read_items js t.rest) (joined_taken t.value))
    others a None = refl
    others a (Some t) = after_joined a t.value (read_items js t.rest)

    first : (o : Option (Taken Fields)) → ((ys : List ℕ) → read_items (is ++ js) ys ≡ after (read_items is ys) (λ t. after (read_items js t.rest) (joined_taken t.value)))
        → after o (λ t. after (read_items (is ++ js) t.rest) (joined_taken t.value))
        ≡ after (after o (λ t. after (read_items is t.rest) (joined_taken t.value))) (λ t. after (read_items js t.rest) (joined_taken t.value))
    first None h = refl
    first (Some t) h = ap (λ (o : Option (Taken Fields)). after o (joined_taken t.value)) (h t.rest) ∙ others t.value (read_items is t.rest)

-- ---- k items are read: their fields, and what is left to read

-- the items that are left
abbrev left : List coded.Item → ℕ → List Item
left items k = items_of (drop k items)

pub record ItemsTo (items : List coded.Item) (xs : List ℕ) (at : ℕ) (row row' : List ℕ) (next n : ℕ) (fits : Bool) (k : ℕ) : Type 0 where
  pub room : n + items_width (left items k) ≤ length row
  pub fields : Fields
  pub read : read_items (items_of items) (drop at xs) ≡ after (read_items (left items k) (drop next xs)) (joined_taken fields)
  pub stored : row' ≡ put row 0 fields.words
  pub counted : n ≡ length fields.words
  pub all_fit : fits ≡ fields.fits
  pub past : at ≤ next
  pub inside : next ≤ length xs

module _ (items : List coded.Item) (xs : List ℕ) (at : ℕ) (row : List ℕ) where
  pub items_begin : at ≤ length xs → items_width (items_of items) ≤ length row → ItemsTo items xs at row row at 0 true 0
  unfolding put
  items_begin h r =
      record {
        room = omega (arith, r);
        fields = no_fields;
        read = sym (after_none (read_items (items_of items) (drop at xs)));
        stored = refl;
        counted = refl;
        all_fit = refl;
        past = omega arith;
        inside = h;
      }

  module _ (row' : List ℕ) (next n : ℕ) (fits : Bool) (k : ℕ) (w : ItemsTo items xs at row row' next n fits k) where
    pub items_length : length row' ≡ length row
    items_length = ap length w.stored ∙ length_put row 0 w.fields.words

    module _ (none : coded.Item) (h : k < length items) where
      -- the next item
      abbrev item : coded.Item
      item = get_or items k none

      left_next : left items k ≡ item_of item ∷ left items (k + 1)
      left_next = rw (drop-cons items k none h, add-one)

      item_read : read_items (items_of items) (drop at xs)
          ≡ after (after (read_item (item_of item) (drop next xs)) (λ t. after (read_items (left items (k + 1)) t.rest) (joined_taken t.value))) (joined_taken w.fields)
      unfolding read_items
      item_read = w.read ∙ ap (λ (is : List Item). after (read_items is (drop next xs)) (joined_taken w.fields)) left_next

      pub items_stop : read_item (item_of item) (drop next xs) ≡ None → read_items (items_of items) (drop at xs) ≡ None
      items_stop r = item_read ∙ rw r

      -- its words have room
      widths_left : items_width (left items k) ≡ item_width (item_of item) + items_width (left items (k + 1))
      unfolding items_width
      widths_left = ap items_width left_next

      pub item_room : n + item_width (item_of item) ≤ length row'
      item_room = omega (arith, w.room, widths_left, items_length)

      pub items_next : (row'' : List ℕ) (v : Checked (List ℕ)) → ValueAt (read_item (item_of item)) (item_width (item_of item)) xs next v
          → row'' ≡ put row' n (take (item_width (item_of item)) v.value) → ItemsTo items xs at row row'' v.next (n + item_width (item_of item)) (fits && v.fits) (k + 1)
      items_next row'' v r s =
          let ws = take (item_width (item_of item)) v.value in
          let size : length ws ≡ item_width (item_of item) = subst (Sized (item_width (item_of item))) r.read (item_sized (item_of item) (drop next xs)) in
          record {
            room = omega (arith, w.room, widths_left);
            fields = joined w.fields (record { words = ws; fits = v.fits });
            read = item_read ∙ rw r.read (after_joined w.fields (record { words = ws; fits = v.fits }) (read_items (left items (k + 1)) (drop v.next xs)));
            stored =
                s ∙ ap₂ (λ (u : List ℕ) (m : ℕ). put u m ws) w.stored (w.counted ∙ sym (zero-add (length w.fields.words)))
                ∙ put_next row 0 w.fields.words ws (length w.fields.words) refl;
            counted = ap₂ (λ (a b : ℕ). a + b) w.counted (sym size) ∙ sym (length-append w.fields.words ws);
            all_fit = ap (λ (b : Bool). b && v.fits) w.all_fit;
            past = omega (arith, w.past, r.past);
            inside = r.inside;
          }

    pub items_end : length items ≤ k → ExtentAt (read_items (items_of items)) xs at row row' (record { value = tt; next = next; fits = fits })
    unfolding read_items
    items_end h =
        record {
          fields = w.fields;
          read =
              w.read ∙ ap (λ (is : List coded.Item). after (read_items (items_of is) (drop next xs)) (joined_taken w.fields)) (drop_of_length-le items h)
              ∙ ap₂ (λ (ws : List ℕ) (t : Bool). Some (record { value = record { words = ws; fits = t }; rest = drop next xs })) (append-nil w.fields.words) (and_true w.fields.fits);
          stored = w.stored;
          fits = w.all_fit;
          past = w.past;
          inside = w.inside;
        }

-- ---- a line

pub line_past : (xs : List ℕ) (at : ℕ) → length xs ≤ at → read_line (drop at xs) ≡ None
unfolding read_line
line_past xs at h = rw (drop_of_length-le xs h)

module _ (xs : List ℕ) (at letter : ℕ) (h : at < length xs) (is-letter : letter ≡ get_or xs at 0) where
  line_at : read_line (drop at xs)
      ≡ after (shape letter) (λ is. after (read_items is (drop (at + 1) xs)) (λ t.
      after (expect line_feed Some t.rest) (λ rest. Some (record { value = record { letter = letter; words = t.value.words; fits = t.value.fits }; rest = rest }))))
  unfolding read_line
  line_at = rw (drop-cons xs at 0 h, is-letter, add-one)

  pub no_letter : shape letter ≡ None → read_line (drop at xs) ≡ None
  no_letter e = line_at ∙ rw e

  module _ (is : List Item) (shaped : shape letter ≡ Some is) where
    pub no_items : read_items is (drop (at + 1) xs) ≡ None → read_line (drop at xs) ≡ None
    no_items e = line_at ∙ rw (shaped, e)

    module _ (row row' : List ℕ) (x : Checked (Unit {0})) (r : ExtentAt (read_items is) xs (at + 1) row row' x) where
      pub no_feed : (Stands xs x.next 10 → ⊥) → read_line (drop at xs) ≡ None
      no_feed f = line_at ∙ rw (shaped, r.read, expect_not 10 Some xs x.next f)

      pub line_read : (kind : LineKind) (next : ℕ) → letter ≡ letter_of kind → ByteRead xs x.next 10 (Some next) → LineIs xs at row row' (record { kind = kind; next = next; fits = x.fits })
      line_read kind next k f =
          record {
            fields = r.fields.words;
            read = line_at ∙ rw (shaped, r.read, expect_read 10 Some xs x.next next f, ← r.fits, ← k);
            stored = r.stored;
            past = omega (arith, r.past, f.1);
            inside = omega (arith, f.0.0, f.1);
          }

-- ---- for the search

pub ruleset items_laws = (items_begin, items_length, items_stop, item_room, items_next, items_end)

pub ruleset line_laws = (line_past, no_letter, no_items, no_feed, line_read, shape_narrow)
