-- Counting in two ways: how often each number of one row stands in another, added up, is how often each of the other stands in the first. Assumes nothing.
use Prim.Native.Nat.{ℕ, zero, suc, ◌+◌, ◌≤◌, ◌<◌}
use Rattle.std.proofs.Common.{arith, sym, ap, ◌∙◌, inl, inr, eq-eqb, ne_eqb, eqb-true}
use Rattle.std.specs.Prelude.{◌≡◌, Bool, true, false, cond, ◌⊎◌, eqb}
use Rattle.std.proofs.Math.Path.{refl}
use Rattle.std.proofs.lemmas.Bool.{eqb-false}
use Rattle.shares.specs.Shares.{times}

abbrev one : Bool → ℕ
one b = cond b 1 0

-- the sum of f below n
unfoldable pub sum : (ℕ → ℕ) → ℕ → ℕ
sum f zero = 0
sum f (suc n) = sum f n + f n

sum_same : (f h : ℕ → ℕ) (n : ℕ) → ((k : ℕ) → k < n → f k ≡ h k) → sum f n ≡ sum h n
unfolding sum
sum_same f h zero e = refl
sum_same f h (suc n) e = λ i. sum_same f h n (λ k l. e k (omega arith)) i + e n (omega arith) i

sum_plus : (f h : ℕ → ℕ) (n : ℕ) → sum (λ k. f k + h k) n ≡ sum f n + sum h n
unfolding sum
sum_plus f h zero = refl
sum_plus f h (suc n) = let e = sum_plus f h n in omega arith

sum_zero : (n : ℕ) → sum (λ k. 0) n ≡ 0
unfolding sum
sum_zero zero = refl
sum_zero (suc n) = let e = sum_zero n in omega arith

pub sum_ones : (f : ℕ → ℕ) (n : ℕ) → ((k : ℕ) → k < n → f k ≡ 1) → sum f n ≡ n
unfolding sum
sum_ones f zero e = refl
sum_ones f (suc n) e = let a = sum_ones f n (λ k l. e k (omega arith)) in let b = e n (omega arith) in omega arith

-- at most 1 each, and all that can be: 1 each
sum_most : (f : ℕ → ℕ) (n : ℕ) → ((k : ℕ) → k < n → f k ≤ 1) → sum f n ≤ n
unfolding sum
sum_most f zero l = omega arith
sum_most f (suc n) l = let a = sum_most f n (λ k b. l k (omega arith)) in let b = l n (omega arith) in omega arith

pub all_ones : (f : ℕ → ℕ) (n : ℕ) → ((k : ℕ) → k < n → f k ≤ 1) → sum f n ≡ n → (k : ℕ) → k < n → f k ≡ 1
unfolding sum
all_ones f zero l e k b = absurd (omega arith)
all_ones f (suc n) l e k b =
    let m = sum_most f n (λ j c. l j (omega arith)) in
    let t = l n (omega arith) in
    elim (below_or_last k n b) [
      | inl c ↦ all_ones f n (λ j d. l j (omega arith)) (omega arith) k c
      | inr c ↦ ap f c ∙ (let z : f n ≡ 1 = omega arith in z)
    ]
  where
    below_or_last : (k n : ℕ) → k < suc n → (k < n) ⊎ (k ≡ n)
    below_or_last zero zero b = inr refl
    below_or_last zero (suc n) b = inl (omega arith)
    below_or_last (suc k) zero b = absurd (omega arith)
    below_or_last (suc k) (suc n) b = elim (below_or_last k n (omega arith)) [ inl c ↦ inl (omega arith) | inr c ↦ inr (ap suc c) ]

eqb_turned : (a b : ℕ) → eqb a b ≡ eqb b a
eqb_turned a b = go (eqb a b) refl
  where
    go : (t : Bool) → eqb a b ≡ t → t ≡ eqb b a
    go true e = sym (eq-eqb b a (sym (eqb-true a b e)))
    go false e = sym (ne_eqb b a (λ z. eqb-false a b e (sym z)))

-- ---- two rows
module _ (e l : ℕ → ℕ) where
  turned : (n j : ℕ) → sum (λ p. one (eqb (e j) (l p))) n ≡ times l (e j) n
  unfolding sum times
  turned zero j = refl
  turned (suc n) j = λ i. turned n j i + one (eqb_turned (e j) (l n) i)

  pub counted_twice : (n m : ℕ) → sum (λ p. times e (l p) n) m ≡ sum (λ j. times l (e j) m) n
  unfolding sum times
  counted_twice zero m = sum_zero m
  counted_twice (suc n) m = sum_plus (λ p. times e (l p) n) (λ p. one (eqb (e n) (l p))) m ∙ (λ i. counted_twice n m i + turned m n i)
