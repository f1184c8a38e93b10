-- Each active pair is listed once exactly if no entry stands twice and there are as many entries as active pairs, where every entry is active. Assumes nothing.
use Prim.Native.Nat.{ℕ, zero, suc, ◌+◌, ◌≤◌, ◌<◌}
use Rattle.std.proofs.Common.{eq-or-lt_of_le, ◌∙◌}
use native.Mathlib.Omega.{arith}
use Rattle.std.specs.Prelude.{◌≡◌, Bool, ◌&&◌, List, ltb}
use Rattle.std.proofs.Math.Path.{refl, sym, ap}
use Rattle.std.proofs.Math.Logic.{inl, inr}
use Rattle.std.proofs.Math.Bool.{true, false, cond, not, and-false, and_assoc}
use borrow.Author.Tests.{eq-eqb, ne_eqb, eqb-true, eqb-false, lt-ltb, le-ltb, le-leb, lt-leb, not-true, not-false}
use Rattle.std.proofs.Math.Dec.{eqb, leb}
use Rattle.rules.specs.Numbers.{every}
use Rattle.rule_laws.specs.NumberLaws.{every_at, every_all}
use Rattle.contact_range.specs.Checked.{Checked}
use Rattle.contact_range.specs.Range.{stands}
use Rattle.contact_range.specs.RangeLaws.{first_of_lem, rest_of, stands_found, listed_once}
use Rattle.contact_range.specs.Recorded.{capacity_of, listed_count, listed_at}
use Rattle.shares.specs.CountingLaws.{sum_ones, all_ones, counted_twice}
use Rattle.shares.specs.Shares.{workers_of, start_of, total_of, entry_at, times, counts_fit, entries_stand, active_once, entries_once, shares_fit}
use Rattle.rules.specs.Limits.{most_workers}

-- ---- how often a number stands in a row
module _ (f : ℕ → ℕ) (x : ℕ) where
  times_none : (n : ℕ) → ((k : ℕ) → k < n → f k ≡ x → ⊥) → times f x n ≡ 0
  unfolding times
  times_none zero d = refl
  times_none (suc n) d = let e = ne_eqb (f n) x (d n (omega arith)) in let z = times_none n (λ k l. d k (omega arith)) in ap (λ (b : Bool). times f x n + cond b 1 0) e ∙ omega arith

  times_found : (n k : ℕ) → k < n → f k ≡ x → 1 ≤ times f x n
  unfolding times
  times_found zero k l e = absurd (omega arith)
  times_found (suc n) k l e = go (eqb (f n) x) refl (λ c. times_found n k c e)
    where
      go : (b : Bool) → eqb (f n) x ≡ b → (k < n → 1 ≤ times f x n) → 1 ≤ times f x n + cond b 1 0
      go true t below = omega arith
      go false t below =
          elim (eq-or-lt_of_le (let z : k ≤ n = omega arith in z)) [
            | inl c ↦ absurd (eqb-false (f n) x t (ap f (sym c) ∙ e))
            | inr c ↦ omega (arith, below c)
          ]

pub times_most : (f : ℕ → ℕ) (x n : ℕ) → ((j k : ℕ) → j < k → k < n → f j ≡ f k → ⊥) → times f x n ≤ 1
unfolding times
times_most f x zero d = omega arith
times_most f x (suc n) d = go (eqb (f n) x) refl (times_most f x n (λ j k a b. d j k a (omega arith)))
  where
    go : (b : Bool) → eqb (f n) x ≡ b → times f x n ≤ 1 → times f x n + cond b 1 0 ≤ 1
    go true t l = let z = times_none f x n (λ k b e. d k n b (omega arith) (e ∙ sym (eqb-true (f n) x t))) in omega arith
    go false t l = omega arith

times_twice : (f : ℕ → ℕ) (x n j k : ℕ) → j < k → k < n → f j ≡ x → f k ≡ x → 2 ≤ times f x n
unfolding times
times_twice f x zero j k a b c d = absurd (omega arith)
times_twice f x (suc n) j k a b c d =
    elim (eq-or-lt_of_le (let z : k ≤ n = omega arith in z)) [
      | inl e ↦ let m = times_found f x n j (omega arith) c in let t = ap (λ (b : Bool). times f x n + cond b 1 0) (eq-eqb (f n) x (ap f (sym e) ∙ d)) in omega arith
      | inr l ↦ let m = times_twice f x n j k a l c d in omega arith
    ]

-- ---- a truth value that follows from another, and back
same_truth : (a b : Bool) → (a ≡ true → b ≡ true) → (b ≡ true → a ≡ true) → a ≡ b
same_truth true b f h = sym (f refl)
same_truth false true f h = h refl
same_truth false false f h = refl

module _ (xs g : List ℕ) (c : Checked g) (st : entries_stand xs g ≡ true) where
  abbrev e : ℕ → ℕ
  e = entry_at xs

  abbrev l : ℕ → ℕ
  l = listed_at g

  abbrev n : ℕ
  n = total_of xs

  abbrev m : ℕ
  m = listed_count g

  standing : (j : ℕ) → j < n → stands g (e j) ≡ true
  unfolding entries_stand
  standing j b = every_at (λ k. stands g (e k)) n j st b

  listed_apart : (p q : ℕ) → p < q → q < m → l p ≡ l q → ⊥
  listed_apart p q a b z = let s = listed_once c.range p q (omega arith) b z in omega arith

  -- each entry is one active pair
  listed_times : (j : ℕ) → j < n → times l (e j) m ≡ 1
  listed_times j b =
      let f = stands_found g (e j) (standing j b) in
      let most = times_most l (e j) m listed_apart in
      let found = times_found l (e j) m f.0 f.1 f.2 in
      omega arith

  once_number : active_once xs g ≡ true → n ≡ m
  unfolding active_once
  once_number a =
      let each : (p : ℕ) → p < m → times e (l p) n ≡ 1 = λ p b. eqb-true (times e (l p) n) 1 (every_at (λ k. eqb (times e (l k) n) 1) m p a b) in
      sym (sum_ones (λ j. times l (e j) m) n listed_times) ∙ sym (counted_twice e l n m) ∙ sum_ones (λ p. times e (l p) n) m each

  once_apart : active_once xs g ≡ true → (j k : ℕ) → j < k → k < n → e j ≡ e k → ⊥
  unfolding active_once
  once_apart a j k b d z =
      let f = stands_found g (e k) (standing k d) in
      let o = eqb-true (times e (l f.0) n) 1 (every_at (λ p. eqb (times e (l p) n) 1) m f.0 a f.1) in
      let t = times_twice e (l f.0) n j k b d (z ∙ sym f.2) (sym f.2) in
      omega arith

  apart_once : ((j k : ℕ) → j < k → k < n → e j ≡ e k → ⊥) → n ≡ m → active_once xs g ≡ true
  unfolding active_once
  apart_once d z =
      let total = counted_twice e l n m ∙ sum_ones (λ j. times l (e j) m) n listed_times ∙ z in
      every_all (λ p. eqb (times e (l p) n) 1) m (λ p b. eq-eqb (times e (l p) n) 1 (all_ones (λ q. times e (l q) n) m (λ q h. times_most e (l q) n d) total p b))

  once_all : ((j k : ℕ) → j < k → k < n → e j ≡ e k → ⊥) → entries_once xs ≡ true
  unfolding entries_once
  once_all d =
      every_all (λ k. every (λ j. not (eqb (e j) (e k))) k) n
      (λ k b. every_all (λ j. not (eqb (e j) (e k))) k (λ j h. ap not (ne_eqb (e j) (e k) (d j k h b))))

  all_apart : entries_once xs ≡ true → (j k : ℕ) → j < k → k < n → e j ≡ e k → ⊥
  unfolding entries_once
  all_apart o j k b d z =
      let t = every_at (λ i. not (eqb (e i) (e k))) k j (every_at (λ i. every (λ h. not (eqb (e h) (e i))) i) n k o d) b in
      eqb-false (e j) (e k) (not-true (eqb (e j) (e k)) t) z

  pub active_linear : active_once xs g ≡ entries_once xs && eqb n m
  active_linear =
      same_truth (active_once xs g) (entries_once xs && eqb n m)
      (λ a. λ i. once_all (once_apart a) i && eq-eqb n m (once_number a) i)
      (λ b. apart_once (all_apart (first_of_lem (entries_once xs) (eqb n m) b)) (eqb-true n m (rest_of (entries_once xs) (eqb n m) b)))

-- what the code tests is the rule
pub shares_linear : (xs g : List ℕ) → Checked g → entries_stand xs g && active_once xs g ≡ entries_stand xs g && (entries_once xs && eqb (total_of xs) (listed_count g))
shares_linear xs g c = go (entries_stand xs g) refl
  where
    go : (b : Bool) → entries_stand xs g ≡ b → b && active_once xs g ≡ b && (entries_once xs && eqb (total_of xs) (listed_count g))
    go true s = active_linear xs g c s
    go false s = refl

-- ---- the tests in their turn
module _ (xs g : List ℕ) where
  -- the rule, as the code goes through it
  in_turn : Checked g → shares_fit xs g ≡ counts_fit xs g && ((entries_stand xs g && entries_once xs) && eqb (total_of xs) (listed_count g))
  unfolding shares_fit
  in_turn c = ap (λ (b : Bool). counts_fit xs g && b) (shares_linear xs g c ∙ sym (and_assoc (entries_stand xs g) (entries_once xs) (eqb (total_of xs) (listed_count g))))

  counts_unfit : counts_fit xs g ≡ false → false ≡ shares_fit xs g
  unfolding shares_fit
  counts_unfit e = rw e

  pub no_worker : {w : ℕ} → w ≡ workers_of xs → w ≡ 0 → false ≡ shares_fit xs g
  unfolding counts_fit
  no_worker e z = counts_unfit (let f = le-ltb 0 (workers_of xs) (omega arith) in rw f)

  pub many_workers : {w : ℕ} → w ≡ workers_of xs → most_workers < w → false ≡ shares_fit xs g
  unfolding counts_fit
  many_workers e l = counts_unfit (let f = lt-leb (workers_of xs) most_workers (omega arith) in rw (f, and-false (ltb 0 (workers_of xs))))

  pub many_entries : {w t n : ℕ} → w ≡ workers_of xs → t ≡ start_of xs w → n ≡ capacity_of g → n < t → false ≡ shares_fit xs g
  unfolding counts_fit
  many_entries {w} {t} e s c l =
      let same : t ≡ total_of xs = s ∙ ap (start_of xs) e in
      let f = lt-leb (total_of xs) (capacity_of g) (omega arith) in
      counts_unfit (rw (f, and-false (ltb 0 (workers_of xs) && leb (workers_of xs) most_workers)))

  pub entries_unfit : Checked g → {r : Bool} → r ≡ entries_stand xs g && entries_once xs → not r ≡ true → false ≡ shares_fit xs g
  entries_unfit c {r} e n =
      let f : entries_stand xs g && entries_once xs ≡ false = sym e ∙ not-true r n in
      sym (in_turn c ∙ ap (λ (b : Bool). counts_fit xs g && (b && eqb (total_of xs) (listed_count g))) f ∙ and-false (counts_fit xs g))

  pub number_unfit : Checked g → {w t n m : ℕ} {r : Bool} → w ≡ workers_of xs → (w ≡ 0 → ⊥) → w ≤ most_workers → t ≡ start_of xs w → n ≡ capacity_of g → t ≤ n
      → r ≡ entries_stand xs g && entries_once xs → not r ≡ false → m ≡ listed_count g → eqb t m ≡ shares_fit xs g
  unfolding counts_fit
  number_unfit c {w} {t} {n} {m} {r} e z l s k h f p q =
      let same : t ≡ total_of xs = s ∙ ap (start_of xs) e in
      let a = lt-ltb 0 (workers_of xs) (omega (arith, z)) in
      let b = le-leb (workers_of xs) most_workers (omega arith) in
      let d = le-leb (total_of xs) (capacity_of g) (omega arith) in
      let counts : counts_fit xs g ≡ true = rw (a, b, d) in
      let held : entries_stand xs g && entries_once xs ≡ true = sym f ∙ not-false r p in
      (λ i. eqb (same i) (q i)) ∙ sym (in_turn c ∙ (λ i. counts i && (held i && eqb (total_of xs) (listed_count g))))
