-- A line has as many words as its letter's record. Assumes nothing.
use Rattle.std.specs.Prelude.{◌≡◌, refl, ℕ, suc, ◌+◌, ◌≤◌, Bool, true, false, cond, List, [], ◌∷◌, eqb, length, Option, None, Some}
use Rattle.std.proofs.Common.{ap, ap₂, subst, ◌∙◌, arith, length-append}
use Rattle.layout.specs.Body.{body_size}
use Rattle.layout.specs.Collider.{collider_size}
use Rattle.layout.specs.Proposal.{proposed_point_size}
use Rattle.layout.specs.Request.{request_length}
use Rattle.layout.specs.Settings.{settings_length}
use Rattle.text.specs.Text.{Taken, after, expect, line_feed}
use Rattle.trace_rules.specs.Fields.{Kind, read_kind, Item, plain, optional, setting, mark, Fields, joined_taken, one_field, read_kinds, present, zeros_for, absent, unsaid, dash_read, end_read, default_or, dash_or, read_item, read_items, shape, addition_shape, settings_shape, collider_shape, body_shape, hook_shape, manifold_shape, point_shape, addition_letter, settings_letter, collider_letter, body_letter, hook_letter, manifold_letter, point_letter, go_letter, Line, read_line}
use Rattle.trace_lines.specs.Widths.{item_width, items_width, width_of}

-- what was read, if anything, has n words
abbrev pub Sized : ℕ → Option (Taken Fields) → Type 0
Sized n None = Unit {0}
Sized n (Some t) = length t.value.words ≡ n

kinds_sized : (ks : List Kind) (xs : List ℕ) → Sized (length ks) (read_kinds ks xs)
unfolding read_kinds
kinds_sized [] xs = refl
kinds_sized (k ∷ ks) xs = first_sized (read_kind k xs) (kinds_sized ks)
  where
    others_sized : (v : ℕ) (o : Option (Taken Fields)) → Sized (length ks) o → Sized (suc (length ks)) (after o (joined_taken (one_field k v)))
    others_sized v None s = tt
    others_sized v (Some t) s = ap suc s

    first_sized : (o : Option (Taken ℕ)) → ((ys : List ℕ) → Sized (length ks) (read_kinds ks ys))
        → Sized (suc (length ks)) (after o (λ v. after (read_kinds ks v.rest) (joined_taken (one_field k v.value))))
    first_sized None h = tt
    first_sized (Some v) h = others_sized v.value (read_kinds ks v.rest) (h v.rest)

zeros_sized : (ks : List Kind) → length (zeros_for ks) ≡ length ks
unfolding zeros_for
zeros_sized [] = refl
zeros_sized (k ∷ ks) = ap suc (zeros_sized ks)

default_sized : (n : ℕ) (default : Fields) (d : Option (List ℕ)) (o : Option (Taken Fields)) → length default.words ≡ n → Sized n o → Sized n (default_or default d o)
default_sized n default None o e s = s
default_sized n default (Some rest) o e s = e

dash_sized : (default : Fields) (ks : List Kind) (xs : List ℕ) → length default.words ≡ suc (length ks) → Sized (suc (length ks)) (dash_or default ks xs)
dash_sized default ks xs e =
    default_sized (suc (length ks)) default (dash_read xs) (after (read_kinds ks xs) (joined_taken present)) e (marked (read_kinds ks xs) (kinds_sized ks xs))
  where
    marked : (o : Option (Taken Fields)) → Sized (length ks) o → Sized (suc (length ks)) (after o (joined_taken present))
    marked None s = tt
    marked (Some t) s = ap suc s

pub item_sized : (i : Item) (xs : List ℕ) → Sized (item_width i) (read_item i xs)
unfolding read_item
item_sized (plain k) xs = kinds_sized (k ∷ []) xs
item_sized (optional ks) xs = dash_sized (absent ks) ks xs (ap suc (zeros_sized ks))
item_sized setting xs = default_sized 2 unsaid (end_read xs) (dash_or unsaid (mark ∷ []) xs) refl (dash_sized unsaid (mark ∷ []) xs refl)

pub items_sized : (is : List Item) (xs : List ℕ) → Sized (items_width is) (read_items is xs)
unfolding read_items items_width
items_sized [] xs = refl
items_sized (i ∷ is) xs = first_sized (read_item i xs) (item_sized i xs) (items_sized is)
  where
    others_sized : (a : Fields) (o : Option (Taken Fields)) → length a.words ≡ item_width i → Sized (items_width is) o → Sized (item_width i + items_width is) (after o (joined_taken a))
    others_sized a None h s = tt
    others_sized a (Some t) h s = length-append a.words t.value.words ∙ ap₂ (λ (m n : ℕ). m + n) h s

    first_sized : (o : Option (Taken Fields)) → Sized (item_width i) o → ((ys : List ℕ) → Sized (items_width is) (read_items is ys))
        → Sized (item_width i + items_width is) (after o (λ t. after (read_items is t.rest) (joined_taken t.value)))
    first_sized None s h = tt
    first_sized (Some t) s h = others_sized t.value (read_items is t.rest) s (h t.rest)

-- ---- by the letter

abbrev ShapeSized : ℕ → Option (List Item) → Type 0
ShapeSized n None = Unit {0}
ShapeSized n (Some is) = items_width is ≡ n

shape_sized : (l : ℕ) → ShapeSized (width_of l) (shape l)
unfolding shape width_of items_width
shape_sized l =
    by_letter (eqb l addition_letter) (eqb l settings_letter) (eqb l collider_letter) (eqb l body_letter) (eqb l hook_letter) (eqb l manifold_letter) (eqb l point_letter) (eqb l go_letter)
  where
    by_letter : (a t c b h m p g : Bool)
        → ShapeSized (cond a request_length (cond t settings_length (cond c collider_size (cond b body_size (cond h 3 (cond m 5 (cond p proposed_point_size 0)))))))
        (cond a (Some addition_shape) (cond t (Some settings_shape) (cond c (Some collider_shape) (cond b (Some body_shape) (cond h (Some hook_shape) (cond m (Some manifold_shape) (cond p (Some point_shape) (cond g (Some []) None))))))))
    by_letter true t c b h m p g = refl
    by_letter false true c b h m p g = refl
    by_letter false false true b h m p g = refl
    by_letter false false false true h m p g = refl
    by_letter false false false false true m p g = refl
    by_letter false false false false false true p g = refl
    by_letter false false false false false false true g = refl
    by_letter false false false false false false false true = refl
    by_letter false false false false false false false false = tt

abbrev LineSized : Option (Taken Line) → Type 0
LineSized None = Unit {0}
LineSized (Some t) = length t.value.words ≡ width_of t.value.letter

line_sized : (xs : List ℕ) → LineSized (read_line xs)
unfolding read_line
line_sized [] = tt
line_sized (l ∷ xs) = shaped (shape l) (shape_sized l)
  where
    ended : (t : Fields) (o : Option (List ℕ)) → length t.words ≡ width_of l → LineSized (after o (λ rest. Some (record { value = record { letter = l; words = t.words; fits = t.fits }; rest = rest })))
    ended t None s = tt
    ended t (Some rest) s = s

    read : (o : Option (Taken Fields)) → Sized (width_of l) o
        → LineSized (after o (λ t. after (expect line_feed Some t.rest) (λ rest. Some (record { value = record { letter = l; words = t.value.words; fits = t.value.fits }; rest = rest }))))
    read None s = tt
    read (Some t) s = ended t.value (expect line_feed Some t.rest) s

    shaped : (o : Option (List Item)) → ShapeSized (width_of l) o
        → LineSized (after o (λ is. after (read_items is xs) (λ t. after (expect line_feed Some t.rest) (λ rest. Some (record { value = record { letter = l; words = t.value.words; fits = t.value.fits }; rest = rest })))))
    shaped None s = tt
    shaped (Some is) s = read (read_items is xs) (subst (λ (n : ℕ). Sized n (read_items is xs)) s (items_sized is xs))

pub line_width : (xs : List ℕ) (t : Taken Line) → read_line xs ≡ Some t → length t.value.words ≡ width_of t.value.letter
line_width xs t e = subst LineSized e (line_sized xs)

-- ---- the widest record is a body's

width_narrow : (l : ℕ) → width_of l ≤ body_size
unfolding width_of
width_narrow l = by_letter (eqb l addition_letter) (eqb l settings_letter) (eqb l collider_letter) (eqb l body_letter) (eqb l hook_letter) (eqb l manifold_letter) (eqb l point_letter)
  where
    by_letter : (a t c b h m p : Bool)
        → cond a request_length (cond t settings_length (cond c collider_size (cond b body_size (cond h 3 (cond m 5 (cond p proposed_point_size 0)))))) ≤ body_size
    by_letter true t c b h m p = omega arith
    by_letter false true c b h m p = omega arith
    by_letter false false true b h m p = omega arith
    by_letter false false false true h m p = omega arith
    by_letter false false false false true m p = omega arith
    by_letter false false false false false true p = omega arith
    by_letter false false false false false false true = omega arith
    by_letter false false false false false false false = omega arith

pub shape_narrow : (l : ℕ) (is : List Item) → shape l ≡ Some is → items_width is ≤ body_size
shape_narrow l is e = rw (← subst (ShapeSized (width_of l)) e (shape_sized l)) at (width_narrow l)
