-- The laws of `numbers_with`: the numbers of a range that a test holds of, ascending. Assumes nothing.
use Rattle.std.specs.Prelude.{◌≡◌, refl, ◌⊎◌, ℕ, zero, suc, ◌+◌, ◌≤◌, ◌<◌, Bool, true, false, cond, List, [], ◌∷◌, ◌++◌, length, get_or}
use Rattle.std.proofs.Common.{sym, ap, ap₂, ◌∙◌, inl, inr, ⊎_elim, zero-add, add-zero, suc-add, add-suc, eq-or-lt_of_le, arith}
use Rattle.rows.specs.Slots.{Listed}
use Rattle.rows.specs.SlotLaws.{listed_head, listed_tail}
use Rattle.data_structures.specs.BitVec.{numbers_with}

-- each number is below those after it
abbrev pub Ascending : List ℕ → Type 0
Ascending ids = (j k : ℕ) → j < k → k < length ids → get_or ids j 0 < get_or ids k 0

-- ---- one number more at the front, where b says so: a step of `numbers_with`

abbrev pub kept : Bool → ℕ → List ℕ → List ℕ
kept b n ns = cond b (n ∷ ns) ns

kept_append : (b : Bool) (n : ℕ) (ns ms : List ℕ) → kept b n (ns ++ ms) ≡ kept b n ns ++ ms
kept_append true n ns ms = refl
kept_append false n ns ms = refl

kept_length : (b : Bool) (n k : ℕ) (ns : List ℕ) → length ns ≤ k → length (kept b n ns) ≤ suc k
kept_length true n k ns h = omega arith
kept_length false n k ns h = omega arith

kept_listed : (b : Bool) (n : ℕ) (ns : List ℕ) {i : ℕ} → Listed ns i → Listed (kept b n ns) i
kept_listed true n ns m = listed_tail n ns m
kept_listed false n ns m = m

kept_cases : (b : Bool) (n : ℕ) (ns : List ℕ) {i : ℕ} → Listed (kept b n ns) i → ((b ≡ true) × (n ≡ i)) ⊎ Listed ns i
kept_cases true n ns (zero, h, e) = inl (refl, e)
kept_cases true n ns (suc j, h, e) = inr (j, omega arith, e)
kept_cases false n ns m = inr m

kept_ascending : (b : Bool) (n : ℕ) (ns : List ℕ) → ((i : ℕ) → Listed ns i → n < i) → Ascending ns → Ascending (kept b n ns)
kept_ascending true n ns l a i zero h u = absurd (omega arith)
kept_ascending true n ns l a zero (suc j) h u = l (get_or ns j 0) (j, omega arith, refl)
kept_ascending true n ns l a (suc i) (suc j) h u = a i j (omega arith) (omega arith)
kept_ascending false n ns l a i j h u = a i j h u

-- ---- the range

-- tests that agree on the range
pub numbers_same : (f g : ℕ → Bool) (from k : ℕ) → ((n : ℕ) → from ≤ n → n < from + k → f n ≡ g n) → numbers_with f from k ≡ numbers_with g from k
unfolding numbers_with
numbers_same f g from zero h = refl
numbers_same f g from (suc k) h =
    ap₂ (λ (b : Bool) (ns : List ℕ). kept b from ns) (h from (omega arith) (omega arith))
    (numbers_same f g (suc from) k (λ n l u. h n (omega arith) (omega arith)))

-- a range as two
pub numbers_append : (f : ℕ → Bool) (from k m : ℕ) → numbers_with f from (k + m) ≡ numbers_with f from k ++ numbers_with f (from + k) m
unfolding numbers_with
numbers_append f from zero m = ap₂ (numbers_with f) (sym (add-zero from)) (zero-add m)
numbers_append f from (suc k) m =
    ap (numbers_with f from) (suc-add k m) ∙ ap (kept (f from) from) (numbers_append f (suc from) k m)
    ∙ ap (λ (n : ℕ). kept (f from) from (numbers_with f (suc from) k ++ numbers_with f n m)) (suc-add from k ∙ sym (add-suc from k))
    ∙ kept_append (f from) from (numbers_with f (suc from) k) (numbers_with f (from + suc k) m)

pub numbers_length : (f : ℕ → Bool) (from k : ℕ) → length (numbers_with f from k) ≤ k
unfolding numbers_with
numbers_length f from zero = omega arith
numbers_length f from (suc k) = kept_length (f from) from k (numbers_with f (suc from) k) (numbers_length f (suc from) k)

-- no number passes
pub numbers_none : (f : ℕ → Bool) (from k : ℕ) → ((n : ℕ) → f n ≡ false) → numbers_with f from k ≡ []
unfolding numbers_with
numbers_none f from zero h = refl
numbers_none f from (suc k) h = rw (h from) (numbers_none f (suc from) k h)

-- what is in the list passes the test, and lies in the range
pub numbers_pass : (f : ℕ → Bool) (from k n : ℕ) → Listed (numbers_with f from k) n → (f n ≡ true) × (from ≤ n) × (n < from + k)
unfolding numbers_with
numbers_pass f from zero n m = absurd (omega (arith, m.1))
numbers_pass f from (suc k) n m =
    ⊎_elim
    (λ (s : (f from ≡ true) × (from ≡ n)). (ap f (sym s.1) ∙ s.0, omega (arith, s.1), omega (arith, s.1)))
    (λ (t : Listed (numbers_with f (suc from) k) n). let p = numbers_pass f (suc from) k n t in (p.0, omega arith, omega arith))
    (kept_cases (f from) from (numbers_with f (suc from) k) m)

-- and what passes the test and lies in the range is in the list
pub numbers_listed : (f : ℕ → Bool) (from k n : ℕ) → f n ≡ true → from ≤ n → n < from + k → Listed (numbers_with f from k) n
unfolding numbers_with
numbers_listed f from zero n t l u = absurd (omega arith)
numbers_listed f from (suc k) n t l u =
    let ns = numbers_with f (suc from) k in
    ⊎_elim
    (λ (e : from ≡ n). rw (e, t) (listed_head n (numbers_with f (suc n) k)))
    (λ (h : from < n). kept_listed (f from) from ns (numbers_listed f (suc from) k n t h (omega arith)))
    (eq-or-lt_of_le l)

pub numbers_ascending : (f : ℕ → Bool) (from k : ℕ) → Ascending (numbers_with f from k)
unfolding numbers_with
numbers_ascending f from zero i j h l = absurd (omega arith)
numbers_ascending f from (suc k) i j h l =
    kept_ascending (f from) from (numbers_with f (suc from) k) (λ n m. (numbers_pass f (suc from) k n m).1) (numbers_ascending f (suc from) k) i j h l
