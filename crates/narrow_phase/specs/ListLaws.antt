-- An array with a count, seen as the list of its first elements, and lists that are filtered from the left. Assumes nothing.
use Rattle.std.specs.Prelude.{◌≡◌, refl, ℕ, zero, suc, ◌+◌, ◌≤◌, ◌<◌, Bool, true, false, cond, List, [], ◌∷◌, ◌++◌, map, length, get_or, set, take}
use Rattle.std.proofs.Common.{sym, ap, ◌∙◌, add-zero, le_of_suc-le-suc, not-suc-le-zero, add-one, arith, append-nil, length-take, take-suc-set}
use Rattle.std.proofs.lemmas.List.{map-append, length-map}
use Rattle.rows.specs.Slots.{AllBelow}

-- a store past the first n
take_set_at {ℓ} : {A : Type ℓ} (n : ℕ) (xs : List A) (q : A) → take n (set xs n q) ≡ take n xs
take_set_at zero xs q = refl
take_set_at (suc n) [] q = refl
take_set_at (suc n) (x ∷ xs) q = ap (λ ys. x ∷ ys) (take_set_at n xs q)

module _ {A : Type 0} {B : Type 0} (g : A → B) where
  -- element k of the first n
  pub view_at : (n : ℕ) (xs : List A) (k : ℕ) (e : B) (d : A) → k < n → n ≤ length xs → get_or (map g (take n xs)) k e ≡ g (get_or xs k d)
  view_at zero xs k e d h l = absurd (not-suc-le-zero h)
  view_at (suc n) [] k e d h l = absurd (not-suc-le-zero l)
  view_at (suc n) (x ∷ xs) zero e d h l = refl
  view_at (suc n) (x ∷ xs) (suc k) e d h l = view_at n xs k e d (le_of_suc-le-suc h) (le_of_suc-le-suc l)

  pub length_view : (n : ℕ) (xs : List A) → n ≤ length xs → length (map g (take n xs)) ≡ n
  length_view n xs h = simp (length-map, length-take) (omega arith)

  -- one more element after the first n
  pub view_next : (n : ℕ) (xs : List A) {q : A} {v : B} → g q ≡ v → n < length xs → map g (take (n + 1) (set xs n q)) ≡ map g (take n xs) ++ v ∷ []
  view_next n xs {q} e l =
      ap (λ (m : ℕ). map g (take m (set xs n q))) (add-one n) ∙ ap (map g) (take-suc-set xs n q l) ∙ map-append g (take n xs) (q ∷ []) ∙ ap (λ v. map g (take n xs) ++ v ∷ []) e

  -- one more element, if it counts
  pub view_step : (n : ℕ) (xs : List A) (b : Bool) {one : ℕ} {q : A} {v : B} → g q ≡ v → one ≡ cond b 1 0 → n < length xs
      → map g (take (n + one) (set xs n q)) ≡ map g (take n xs) ++ cond b (v ∷ []) []
  view_step n xs true {one} {q} e o l = ap (λ (m : ℕ). map g (take (n + m) (set xs n q))) o ∙ view_next n xs e l
  view_step n xs false {one} {q} e o l =
      ap (λ (m : ℕ). map g (take (n + m) (set xs n q))) o ∙ ap (λ (m : ℕ). map g (take m (set xs n q))) (add-zero n) ∙ ap (map g) (take_set_at n xs q) ∙ sym (append-nil (map g (take n xs)))

-- what is in range does not go by the default
pub in_range_lem {ℓ} : {A : Type ℓ} (xs : List A) (k : ℕ) (d e : A) → k < length xs → get_or xs k d ≡ get_or xs k e
in_range_lem [] k d e h = absurd (not-suc-le-zero h)
in_range_lem (x ∷ xs) zero d e h = refl
in_range_lem (x ∷ xs) (suc k) d e h = in_range_lem xs k d e (le_of_suc-le-suc h)

-- the first four elements, by their numbers
pub four_first {ℓ} : {A : Type ℓ} (n : ℕ) (xs : List A) (d : A) → n ≤ 4 → 4 ≤ length xs → take n (get_or xs 0 d ∷ get_or xs 1 d ∷ get_or xs 2 d ∷ get_or xs 3 d ∷ []) ≡ take n xs
four_first n [] d h l = absurd (not-suc-le-zero l)
four_first n (a ∷ []) d h l = absurd (not-suc-le-zero (le_of_suc-le-suc l))
four_first n (a ∷ b ∷ []) d h l = absurd (not-suc-le-zero (le_of_suc-le-suc (le_of_suc-le-suc l)))
four_first n (a ∷ b ∷ c ∷ []) d h l = absurd (not-suc-le-zero (le_of_suc-le-suc (le_of_suc-le-suc (le_of_suc-le-suc l))))
four_first zero (a ∷ b ∷ c ∷ e ∷ xs) d h l = refl
four_first (suc zero) (a ∷ b ∷ c ∷ e ∷ xs) d h l = refl
four_first (suc (suc zero)) (a ∷ b ∷ c ∷ e ∷ xs) d h l = refl
four_first (suc (suc (suc zero))) (a ∷ b ∷ c ∷ e ∷ xs) d h l = refl
four_first (suc (suc (suc (suc zero)))) (a ∷ b ∷ c ∷ e ∷ xs) d h l = refl
four_first (suc (suc (suc (suc (suc n))))) (a ∷ b ∷ c ∷ e ∷ xs) d h l = absurd (omega arith)

pub one_most : {n : ℕ} (b : Bool) → n ≡ cond b 1 0 → n ≤ 1
one_most true e = omega arith
one_most false e = omega arith

-- ---- numbers that are all below n
pub none_below : (n : ℕ) → AllBelow n []
none_below n k h = absurd (not-suc-le-zero h)

pub one_below : (n x : ℕ) (xs : List ℕ) → x < n → AllBelow n xs → AllBelow n (x ∷ xs)
one_below n x xs h t zero l = h
one_below n x xs h t (suc k) l = t k (le_of_suc-le-suc l)
