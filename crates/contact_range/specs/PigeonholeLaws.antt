-- Rows of numbers, as functions of the place: one that has every number below m has at least m places,
-- and one without repetition whose numbers are below m has at most m. Assumes nothing.
use Rattle.std.specs.Prelude.{◌≡◌, refl, ℕ, zero, suc, ◌≤◌, ◌<◌, Bool, true, false, cond, eqb}
use Rattle.std.proofs.Common.{sym, ap, ◌∙◌, zero-le, not-suc-le-zero, eq-or-lt_of_le, arith, inl, inr, eqb-true, eq-eqb, ne_eqb}
use Rattle.std.proofs.lemmas.Bool.{eqb-false}

-- the number stands at one of the first n places
abbrev pub Has : (ℕ → ℕ) → ℕ → ℕ → Type 0
Has f n i = (k : ℕ) × (k < n) × (f k ≡ i)

-- the row with v at place k
abbrev moved : (ℕ → ℕ) → ℕ → ℕ → ℕ → ℕ
moved f k v j = cond (eqb j k) v (f j)

moved_here : (f : ℕ → ℕ) (k v : ℕ) → moved f k v k ≡ v
moved_here f k v = rw (eq-eqb k k refl)

moved_other : (f : ℕ → ℕ) (k v j : ℕ) → (j ≡ k → ⊥) → moved f k v j ≡ f j
moved_other f k v j n = rw (ne_eqb j k n)

-- the last place is given up, and what stood there moves to where m stood
fewer : (f : ℕ → ℕ) (m n k i : ℕ) → k < suc n → f k ≡ m → i < m → Has f (suc n) i → Has (moved f k (f n)) n i
fewer f m n k i l e h (j, u, w) =
    elim (eq-or-lt_of_le (let z : j ≤ n = omega arith in z)) [
      | inl q ↦
          let d : k ≡ n → ⊥ = λ r. omega (arith, ap f (q ∙ sym r)) in
          (k, omega arith, moved_here f k (f n) ∙ ap f (sym q) ∙ w)
      | inr s ↦ (j, s, moved_other f k (f n) j (λ r. omega (arith, ap f r)) ∙ w)
    ]

pub covers : (f : ℕ → ℕ) (m n : ℕ) → ((i : ℕ) → i < m → Has f n i) → m ≤ n
covers f zero n h = zero-le
covers f (suc m) zero h = absurd (omega (arith, (h m (omega arith)).1))
covers f (suc m) (suc n) h =
    let t = h m (omega arith) in
    let r = covers (moved f t.0 (f n)) m n (λ i l. fewer f m n t.0 i t.1 t.2 l (h i (omega arith))) in
    omega arith

-- the last of the first n places at which v stands
unfoldable place_of : (ℕ → ℕ) → ℕ → ℕ → ℕ
place_of f zero v = 0
place_of f (suc n) v = cond (eqb (f n) v) n (place_of f n v)

abbrev pub Injective : (ℕ → ℕ) → ℕ → Type 0
Injective f n = (j k : ℕ) → j < n → k < n → f j ≡ f k → j ≡ k

place_of_lem : (f : ℕ → ℕ) (n k : ℕ) → Injective f n → k < n → place_of f n (f k) ≡ k
unfolding place_of
place_of_lem f zero k d h = absurd (not-suc-le-zero h)
place_of_lem f (suc n) k d h = go (eqb (f n) (f k)) refl (λ s. place_of_lem f n k (λ i j p q. d i j (omega arith) (omega arith)) (omega arith))
  where
    go : (b : Bool) → eqb (f n) (f k) ≡ b → ((k ≡ n → ⊥) → place_of f n (f k) ≡ k) → cond b n (place_of f n (f k)) ≡ k
    go true e r = d n k (omega arith) h (eqb-true (f n) (f k) e)
    go false e r = r (λ q. eqb-false (f n) (f k) e (ap f (sym q)))

pub fits_below : (f : ℕ → ℕ) (n m : ℕ) → Injective f n → ((k : ℕ) → k < n → f k < m) → n ≤ m
fits_below f n m d b = covers (place_of f n) n m (λ k l. (f k, b k l, place_of_lem f n k d l))
