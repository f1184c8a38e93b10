-- What is left after a line that is read is an end of the text, and shorter. Assumes nothing.
use Rattle.std.specs.Prelude.{ℕ, zero, suc, ◌+◌, ◌-◌, ◌*◌, ◌<◌, ◌≡◌, refl, Bool, true, false, cond, List, [], ◌∷◌, ◌++◌, eqb, leb, length, Option, None, Some}
use Rattle.std.proofs.Common.{arith, sym, ap, subst, ◌∙◌, append_assoc, length-append}
use Rattle.text.specs.Text.{Taken, after, expect, within, tab, line_feed, hex_digit, digits, word, decimal_from, decimal, largest_number}
use Rattle.trace_rules.specs.Fields.{Kind, float, number, collider, body, mark, rule, Item, plain, optional, setting, Fields, joined_taken, one_field, present, absent, unsaid, dash, dash_read, end_read, default_or, dash_or, read_kind, read_kinds, read_item, read_items, shape, Line, read_line}

-- ys is what follows some bytes of xs
abbrev EndOf : List ℕ → List ℕ → Type 0
EndOf xs ys = (front : List ℕ) × (xs ≡ front ++ ys)

end_cons : (x : ℕ) (xs ys : List ℕ) → EndOf xs ys → EndOf (x ∷ xs) ys
end_cons x xs ys e = (x ∷ e.0, ap (λ (zs : List ℕ). x ∷ zs) e.1)

end_end : (xs ys zs : List ℕ) → EndOf xs ys → EndOf ys zs → EndOf xs zs
end_end xs ys zs e f = (e.0 ++ f.0, e.1 ∙ ap (λ (ws : List ℕ). e.0 ++ ws) f.1 ∙ sym (append_assoc e.0 f.0 zs))

abbrev Ends : {A : Type 0} → List ℕ → Option (Taken A) → Type 0
Ends xs None = Unit {0}
Ends xs (Some t) = EndOf xs t.rest

abbrev EndsOf : List ℕ → Option (List ℕ) → Type 0
EndsOf xs None = Unit {0}
EndsOf xs (Some rest) = EndOf xs rest

ends_cons : {A : Type 0} (x : ℕ) (xs : List ℕ) (o : Option (Taken A)) → Ends xs o → Ends (x ∷ xs) o
ends_cons x xs None e = tt
ends_cons x xs (Some t) e = end_cons x xs t.rest e

ends_ends : {A : Type 0} (xs ys : List ℕ) (o : Option (Taken A)) → EndOf xs ys → Ends ys o → Ends xs o
ends_ends xs ys None e f = tt
ends_ends xs ys (Some t) e f = end_end xs ys t.rest e f

ends_after : {A B : Type 0} (o : Option (Taken A)) (f : Taken A → Option (Taken B)) (xs : List ℕ) → Ends xs o → ((t : Taken A) → Ends t.rest (f t)) → Ends xs (after o f)
ends_after None f xs e g = tt
ends_after (Some t) f xs e g = ends_ends xs t.rest (f t) e (g t)

ends_after_any : {A B : Type 0} (o : Option A) (f : A → Option (Taken B)) (xs : List ℕ) → ((a : A) → Ends xs (f a)) → Ends xs (after o f)
ends_after_any None f xs g = tt
ends_after_any (Some a) f xs g = g a

ends_cond : {A : Type 0} (b : Bool) (p q : Option (Taken A)) (xs : List ℕ) → Ends xs p → Ends xs q → Ends xs (cond b p q)
ends_cond true p q xs h l = h
ends_cond false p q xs h l = l

ends_expect : {A : Type 0} (b : ℕ) (f : List ℕ → Option (Taken A)) (xs : List ℕ) → ((ys : List ℕ) → Ends ys (f ys)) → Ends xs (expect b f xs)
unfolding expect
ends_expect b f [] g = tt
ends_expect b f (x ∷ xs) g = ends_cond (eqb x b) (f xs) None (x ∷ xs) (ends_cons x xs (f xs) (g xs)) tt

-- ---- words and numbers
ends_digits : (n v : ℕ) (xs : List ℕ) → Ends xs (digits n v xs)
unfolding digits
ends_digits zero v xs = ([], refl)
ends_digits (suc n) v [] = tt
ends_digits (suc n) v (x ∷ xs) = ends_after_any (hex_digit x) (λ d. digits n (v * 16 + d) xs) (x ∷ xs) (λ d. ends_cons x xs (digits n (v * 16 + d) xs) (ends_digits n (v * 16 + d) xs))

ends_word : (xs : List ℕ) → Ends xs (word xs)
unfolding word
ends_word xs = ends_digits 8 0 xs

ends_decimal_from : (any : Bool) (v : ℕ) (xs : List ℕ) → Ends xs (decimal_from any v xs)
unfolding decimal_from
ends_decimal_from any v [] = ends_cond any (Some (record { value = v; rest = [] })) None [] ([], refl) tt
ends_decimal_from any v (x ∷ xs) =
    let next = v * 10 + (x - 48) in
    ends_cond (within 48 57 x) (cond (leb next largest_number) (decimal_from true next xs) None) (cond any (Some (record { value = v; rest = x ∷ xs })) None) (x ∷ xs)
    (ends_cond (leb next largest_number) (decimal_from true next xs) None (x ∷ xs) (ends_cons x xs (decimal_from true next xs) (ends_decimal_from true next xs)) tt)
    (ends_cond any (Some (record { value = v; rest = x ∷ xs })) None (x ∷ xs) ([], refl) tt)

ends_decimal : (xs : List ℕ) → Ends xs (decimal xs)
unfolding decimal
ends_decimal xs = ends_decimal_from false 0 xs

-- ---- fields
ends_kind : (k : Kind) (xs : List ℕ) → Ends xs (read_kind k xs)
unfolding read_kind
ends_kind float xs = ends_expect tab word xs ends_word
ends_kind number xs = ends_expect tab decimal xs ends_decimal
ends_kind collider xs = ends_expect tab decimal xs ends_decimal
ends_kind body xs = ends_expect tab decimal xs ends_decimal
ends_kind mark xs = ends_expect tab decimal xs ends_decimal
ends_kind rule xs = ends_expect tab decimal xs ends_decimal

ends_kinds : (ks : List Kind) (xs : List ℕ) → Ends xs (read_kinds ks xs)
unfolding read_kinds
ends_kinds [] xs = ([], refl)
ends_kinds (k ∷ ks) xs =
    ends_after (read_kind k xs) (λ v. after (read_kinds ks v.rest) (joined_taken (one_field k v.value))) xs (ends_kind k xs)
    (λ v. ends_after (read_kinds ks v.rest) (joined_taken (one_field k v.value)) v.rest (ends_kinds ks v.rest) (λ t. ([], refl)))

ends_dash : (xs : List ℕ) → EndsOf xs (dash_read xs)
unfolding dash_read expect
ends_dash [] = tt
ends_dash (x ∷ []) = pick (eqb x tab)
  where
    pick : (b : Bool) → EndsOf (x ∷ []) (cond b None None)
    pick true = tt
    pick false = tt
ends_dash (x ∷ y ∷ xs) = pick (eqb x tab) (eqb y dash)
  where
    pick : (b c : Bool) → EndsOf (x ∷ y ∷ xs) (cond b (cond c (Some xs) None) None)
    pick true true = (x ∷ y ∷ [], refl)
    pick true false = tt
    pick false c = tt

ends_end : (xs : List ℕ) → EndsOf xs (end_read xs)
unfolding end_read expect
ends_end [] = tt
ends_end (x ∷ xs) = pick (eqb x line_feed)
  where
    pick : (b : Bool) → EndsOf (x ∷ xs) (cond b (Some (x ∷ xs)) None)
    pick true = ([], refl)
    pick false = tt

ends_default : (default : Fields) (d : Option (List ℕ)) (other : Option (Taken Fields)) (xs : List ℕ) → EndsOf xs d → Ends xs other → Ends xs (default_or default d other)
ends_default default None other xs h l = l
ends_default default (Some rest) other xs h l = h

ends_dash_or : (default : Fields) (ks : List Kind) (xs : List ℕ) → Ends xs (dash_or default ks xs)
ends_dash_or default ks xs =
    ends_default default (dash_read xs) (after (read_kinds ks xs) (joined_taken present)) xs (ends_dash xs)
    (ends_after (read_kinds ks xs) (joined_taken present) xs (ends_kinds ks xs) (λ t. ([], refl)))

ends_item : (i : Item) (xs : List ℕ) → Ends xs (read_item i xs)
unfolding read_item
ends_item (plain k) xs = ends_kinds (k ∷ []) xs
ends_item (optional ks) xs = ends_dash_or (absent ks) ks xs
ends_item setting xs = ends_default unsaid (end_read xs) (dash_or unsaid (mark ∷ []) xs) xs (ends_end xs) (ends_dash_or unsaid (mark ∷ []) xs)

ends_items : (is : List Item) (xs : List ℕ) → Ends xs (read_items is xs)
unfolding read_items
ends_items [] xs = ([], refl)
ends_items (i ∷ is) xs =
    ends_after (read_item i xs) (λ t. after (read_items is t.rest) (joined_taken t.value)) xs (ends_item i xs)
    (λ t. ends_after (read_items is t.rest) (joined_taken t.value) t.rest (ends_items is t.rest) (λ u. ([], refl)))

-- ---- a line
ends_feed : {A : Type 0} (xs : List ℕ) (value : A) → Ends xs (after (expect line_feed Some xs) (λ rest. Some (record { value = value; rest = rest })))
unfolding expect
ends_feed [] value = tt
ends_feed {A} (x ∷ xs) value = pick (eqb x line_feed)
  where
    pick : (b : Bool) → Ends {A = A} (x ∷ xs) (after (cond b (Some xs) None) (λ rest. Some (record { value = value; rest = rest })))
    pick true = (x ∷ [], refl)
    pick false = tt

ends_line : (l : ℕ) (xs : List ℕ) → Ends xs (read_line (l ∷ xs))
unfolding read_line
ends_line l xs =
    ends_after_any (shape l)
    (λ is. after (read_items is xs) (λ t. after (expect line_feed Some t.rest) (λ rest. Some (record { value = record { letter = l; words = t.value.words; fits = t.value.fits }; rest = rest }))))
    xs
    (λ is. ends_after (read_items is xs) (λ t. after (expect line_feed Some t.rest) (λ rest. Some (record { value = record { letter = l; words = t.value.words; fits = t.value.fits }; rest = rest })))
    xs (ends_items is xs) (λ t. ends_feed t.rest (record { letter = l; words = t.value.words; fits = t.value.fits })))

-- the letter, then the end
pub line_ends : (xs : List ℕ) (t : Taken Line) → read_line xs ≡ Some t → (front : List ℕ) × (0 < length front) × (xs ≡ front ++ t.rest)
unfolding read_line
line_ends [] t e = let z : ◌≡◌ {A = ℕ} 0 1 = cc in absurd (omega arith)
line_ends (l ∷ xs) t e =
    let f : Ends xs (Some t) = subst (Ends xs) e (ends_line l xs) in
    (l ∷ f.0, omega arith, ap (λ (ys : List ℕ). l ∷ ys) f.1)

-- what is left is shorter
pub line_shorter : (xs : List ℕ) (t : Taken Line) → read_line xs ≡ Some t → length t.rest < length xs
line_shorter xs t e =
    let f = line_ends xs t e in
    let l : length xs ≡ length (f.0 ++ t.rest) = ap length f.2 in
    let m = length-append f.0 t.rest in
    omega (arith, l, m, f.1)
