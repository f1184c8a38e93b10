-- Words at a place of a row: that a row holds them there, and that two rows have the same. Assumes nothing.
use Rattle.std.specs.Prelude.{◌≡◌, ℕ, zero, suc, ◌+◌, ◌*◌, ◌≤◌, ◌<◌, ◌⊎◌, List, [], ◌∷◌, ◌++◌, T, ltb, length, get_or}
use Rattle.std.proofs.Common.{sym, ap, ◌∙◌, subst, add-zero, zero-add, add_assoc, suc-mul, zero-mul, not-suc-le-zero, le_of_suc-le-suc, arith, inl, inr, ltb→lt, length-append, get_or-append-add}
use Rattle.std.proofs.Math.ListN.{get_or-append}
use Rattle.rows.specs.Rows.{part, put, each, Apart}
use Rattle.rows.specs.Laws.{get_d_put, get_d_part, get_d_put_apart}
use Rattle.words.specs.Words.{word_at}

-- from that place the row has these words
pub record Holds (xs : List ℕ) (at : ℕ) (ws : List ℕ) : Type 0 where
  pub each : (i : ℕ) → i < length ws → word_at xs (at + i) ≡ get_or ws i 0

-- the n words of one row from place a are those of another from place b
pub record Same (xs : List ℕ) (a : ℕ) (ys : List ℕ) (b n : ℕ) : Type 0 where
  pub each : (i : ℕ) → i < n → word_at ys (b + i) ≡ word_at xs (a + i)

-- ---- held

pub put_holds : (xs : List ℕ) (at : ℕ) (ws : List ℕ) → at + length ws ≤ length xs → Holds (put xs at ws) at ws
put_holds xs at ws f = record { each = λ i h. get_d_put xs at ws i 0 h (omega arith) }

pub holds_at : {xs : List ℕ} {a b : ℕ} {ws : List ℕ} → a ≡ b → Holds xs a ws → Holds xs b ws
holds_at {xs} {ws = ws} e h = subst (λ (k : ℕ). Holds xs k ws) e h

pub holds_left : {xs : List ℕ} {at : ℕ} (us vs : List ℕ) → Holds xs at (us ++ vs) → Holds xs at us
holds_left us vs h = record { each = λ i l. h.each i (simp length-append (omega arith)) ∙ get_or-append us vs 0 i l }

pub holds_right : {xs : List ℕ} {at : ℕ} (us vs : List ℕ) (n : ℕ) → length us ≡ n → Holds xs at (us ++ vs) → Holds xs (at + n) vs
holds_right {xs} {at} us vs n e h = record { each = go }
  where
    go : (i : ℕ) → i < length vs → word_at xs (at + n + i) ≡ get_or vs i 0
    go i l =
        ap (λ (k : ℕ). word_at xs (at + k + i)) (sym e) ∙ ap (word_at xs) (add_assoc at (length us) i)
        ∙ h.each (length us + i) (simp length-append (omega arith)) ∙ get_or-append-add us vs i 0

pub word_held : {xs : List ℕ} {at : ℕ} {ws : List ℕ} → Holds xs at ws → (i : ℕ) → T (ltb i (length ws)) → word_at xs (at + i) ≡ get_or ws i 0
word_held {ws = ws} h i t = h.each i (ltb→lt i (length ws) t)

pub first_held : {xs : List ℕ} {at w : ℕ} {ws : List ℕ} → Holds xs at (w ∷ ws) → word_at xs at ≡ w
first_held {xs} {at} h = ap (word_at xs) (sym (add-zero at)) ∙ h.each 0 (omega arith)

-- the words of an array's structs, n for each: those of struct k
pub holds_each {ℓ} : {A : Type ℓ} (f : A → List ℕ) (n : ℕ) (size : (a : A) → length (f a) ≡ n) {xs : List ℕ} (at : ℕ) (us : List A) (k : ℕ) (d : A) → k < length us
    → Holds xs at (each f us) → Holds xs (at + k * n) (f (get_or us k d))
holds_each f n size at [] k d l h = absurd (not-suc-le-zero l)
holds_each f n size at (u ∷ us) zero d l h = holds_at (sym (ap (λ (m : ℕ). at + m) (zero-mul n) ∙ add-zero at)) (holds_left (f u) (each f us) h)
holds_each f n size at (u ∷ us) (suc k) d l h =
    let e : at + n + k * n ≡ at + suc k * n = omega (arith, suc-mul k n) in
    holds_at e (holds_each f n size (at + n) us k d (le_of_suc-le-suc l) (holds_right (f u) (each f us) n (size u) h))

-- ---- the same

pub same_in : {xs ys : List ℕ} {a b n : ℕ} → Same xs a ys b n → (k m : ℕ) → k + m ≤ n → Same xs (a + k) ys (b + k) m
same_in {xs} {ys} {a} {b} s k m f = record { each = λ i h. ap (word_at ys) (add_assoc b k i) ∙ s.each (k + i) (omega arith) ∙ ap (word_at xs) (sym (add_assoc a k i)) }

pub word_same : {xs ys : List ℕ} {a b n : ℕ} → Same xs a ys b n → (i : ℕ) → T (ltb i n) → word_at ys (b + i) ≡ word_at xs (a + i)
word_same {n = n} s i t = s.each i (ltb→lt i n t)

pub first_same : {xs ys : List ℕ} {a b n : ℕ} → Same xs a ys b n → T (ltb 0 n) → word_at ys b ≡ word_at xs a
first_same {xs} {ys} {a} {b} s t = ap (word_at ys) (sym (add-zero b)) ∙ word_same s 0 t ∙ ap (word_at xs) (add-zero a)

-- a store apart from the place
pub same_put : (xs : List ℕ) (b : ℕ) (ws : List ℕ) (at n : ℕ) → Apart at n b (length ws) → Same xs at (put xs b ws) at n
same_put xs b ws at n s = record { each = λ i h. get_d_put_apart xs b ws (at + i) 0 (go i h s) }
  where
    go : (i : ℕ) → i < n → Apart at n b (length ws) → (at + i < b) ⊎ (b + length ws ≤ at + i)
    go i h (inl l) = inl (omega arith)
    go i h (inr l) = inr (omega arith)

-- a part of a row has the row's words
pub part_same : (xs : List ℕ) (at n : ℕ) → Same xs at (part xs at n) 0 n
part_same xs at n = record { each = λ i l. ap (word_at (part xs at n)) (zero-add i) ∙ get_d_part xs at n i 0 l }

pub same_back : {xs ys : List ℕ} {a b n : ℕ} → Same xs a ys b n → Same ys b xs a n
same_back s = record { each = λ i l. sym (s.each i l) }
