-- A line's words are below 2 ^ 32. Assumes nothing.
use Rattle.std.specs.Prelude.{◌≡◌, ℕ, zero, suc, ◌<◌, List, [], ◌∷◌, ◌++◌, Option, None, Some}
use Rattle.std.proofs.Common.{subst, not-suc-le-zero, le_of_suc-le-suc, arith}
use Rattle.rows.specs.Slots.{AllBelow}
use Rattle.text.specs.Text.{Taken, after, expect, line_feed, word, decimal}
use Rattle.text.proofs.BoundLaws.{Under, under_expect, word_under, decimal_under}
use Rattle.trace_rules.specs.Fields.{Kind, float, number, collider, body, mark, rule, read_kind, Item, plain, optional, setting, Fields, joined_taken, one_field, read_kinds, present, zeros_for, absent, unsaid, dash_read, end_read, default_or, dash_or, read_item, read_items, shape, Line, read_line}

kind_under : (k : Kind) (xs : List ℕ) → Under 4294967296 (read_kind k xs)
unfolding read_kind
kind_under float xs = under_expect 4294967296 9 word xs word_under
kind_under number xs = under_expect 4294967296 9 decimal xs decimal_under
kind_under collider xs = under_expect 4294967296 9 decimal xs decimal_under
kind_under body xs = under_expect 4294967296 9 decimal xs decimal_under
kind_under mark xs = under_expect 4294967296 9 decimal xs decimal_under
kind_under rule xs = under_expect 4294967296 9 decimal xs decimal_under

-- each word
abbrev Words : List ℕ → Type 0
Words [] = Unit {0}
Words (w ∷ ws) = (w < 4294967296) × Words ws

words_append : (us ws : List ℕ) → Words us → Words ws → Words (us ++ ws)
words_append [] ws u w = w
words_append (x ∷ us) ws u w = (u.0, words_append us ws u.1 w)

words_below : (ws : List ℕ) → Words ws → AllBelow 4294967296 ws
words_below [] u k h = absurd (not-suc-le-zero h)
words_below (w ∷ ws) u zero h = u.0
words_below (w ∷ ws) u (suc k) h = words_below ws u.1 k (le_of_suc-le-suc h)

abbrev Read : Option (Taken Fields) → Type 0
Read None = Unit {0}
Read (Some t) = Words t.value.words

joined_read : (a : Fields) (o : Option (Taken Fields)) → Words a.words → Read o → Read (after o (joined_taken a))
joined_read a None u r = tt
joined_read a (Some t) u r = words_append a.words t.value.words u r

kinds_read : (ks : List Kind) (xs : List ℕ) → Read (read_kinds ks xs)
unfolding read_kinds
kinds_read [] xs = tt
kinds_read (k ∷ ks) xs = first_read (read_kind k xs) (kind_under k xs) (kinds_read ks)
  where
    first_read : (o : Option (Taken ℕ)) → Under 4294967296 o → ((ys : List ℕ) → Read (read_kinds ks ys)) → Read (after o (λ v. after (read_kinds ks v.rest) (joined_taken (one_field k v.value))))
    first_read None u h = tt
    first_read (Some v) u h = joined_read (one_field k v.value) (read_kinds ks v.rest) (u, tt) (h v.rest)

zeros_words : (ks : List Kind) → Words (zeros_for ks)
unfolding zeros_for
zeros_words [] = tt
zeros_words (k ∷ ks) = (omega arith, zeros_words ks)

default_read : (default : Fields) (d : Option (List ℕ)) (o : Option (Taken Fields)) → Words default.words → Read o → Read (default_or default d o)
default_read default None o u r = r
default_read default (Some rest) o u r = u

dash_read_lem : (default : Fields) (ks : List Kind) (xs : List ℕ) → Words default.words → Read (dash_or default ks xs)
dash_read_lem default ks xs u =
    default_read default (dash_read xs) (after (read_kinds ks xs) (joined_taken present)) u (joined_read present (read_kinds ks xs) (omega arith, tt) (kinds_read ks xs))

item_read : (i : Item) (xs : List ℕ) → Read (read_item i xs)
unfolding read_item
item_read (plain k) xs = kinds_read (k ∷ []) xs
item_read (optional ks) xs = dash_read_lem (absent ks) ks xs (omega arith, zeros_words ks)
item_read setting xs =
    let u : Words unsaid.words = (omega arith, (omega arith, tt)) in
    default_read unsaid (end_read xs) (dash_or unsaid (mark ∷ []) xs) u (dash_read_lem unsaid (mark ∷ []) xs u)

items_read : (is : List Item) (xs : List ℕ) → Read (read_items is xs)
unfolding read_items
items_read [] xs = tt
items_read (i ∷ is) xs = first_read (read_item i xs) (item_read i xs) (items_read is)
  where
    first_read : (o : Option (Taken Fields)) → Read o → ((ys : List ℕ) → Read (read_items is ys)) → Read (after o (λ t. after (read_items is t.rest) (joined_taken t.value)))
    first_read None r h = tt
    first_read (Some t) r h = joined_read t.value (read_items is t.rest) r (h t.rest)

abbrev LineWords : Option (Taken Line) → Type 0
LineWords None = Unit {0}
LineWords (Some t) = Words t.value.words

line_words : (xs : List ℕ) → LineWords (read_line xs)
unfolding read_line
line_words [] = tt
line_words (l ∷ xs) = shaped (shape l)
  where
    ended : (t : Fields) (o : Option (List ℕ)) → Words t.words → LineWords (after o (λ rest. Some (record { value = record { letter = l; words = t.words; fits = t.fits }; rest = rest })))
    ended t None r = tt
    ended t (Some rest) r = r

    read : (o : Option (Taken Fields)) → Read o
        → LineWords (after o (λ t. after (expect line_feed Some t.rest) (λ rest. Some (record { value = record { letter = l; words = t.value.words; fits = t.value.fits }; rest = rest }))))
    read None r = tt
    read (Some t) r = ended t.value (expect line_feed Some t.rest) r

    shaped : (o : Option (List Item))
        → LineWords (after o (λ is. after (read_items is xs) (λ t. after (expect line_feed Some t.rest) (λ rest. Some (record { value = record { letter = l; words = t.value.words; fits = t.value.fits }; rest = rest })))))
    shaped None = tt
    shaped (Some is) = read (read_items is xs) (items_read is xs)

pub line_below : (xs : List ℕ) (t : Taken Line) → read_line xs ≡ Some t → AllBelow 4294967296 t.value.words
line_below xs t e = words_below t.value.words (subst LineWords e (line_words xs))
