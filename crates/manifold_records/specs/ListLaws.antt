-- Lists that a loop fills from the front, and words filled up with zeros. Assumes nothing.
use Rattle.std.specs.Prelude.{◌≡◌, get_or, take, replicate}
use Rattle.std.proofs.Math.Path.{refl, sym, ap}
use Rattle.std.proofs.Common.{◌∙◌, not-suc-le-zero, le_of_suc-le-suc, add-one, arith, length-append, length-take}
use Prim.Native.Nat.{ℕ, zero, suc, ◌+◌, ◌-◌, ◌≤◌, ◌<◌}
use Rattle.std.proofs.Math.Nat.{min-eq_left}
use mathlib.Core.List.{List, [], ◌∷◌, ◌++◌, map, map-append}
use Rattle.std.proofs.Math.ListN.{length}
use Rattle.std.proofs.lemmas.List.{length-map}
use Rattle.std.proofs.Math.Seq.{take-append-add, ext_get_or}
use Rattle.rows.specs.Slots.{upto}
use Rattle.rows.specs.SlotLaws.{length_upto, get_d_upto}
use Rattle.manifold_records.specs.Written.{zeros, padded}

-- ---- what stands at each number below n
module _ {ℓ} {A : Type ℓ} where
  pub map_upto_next : (f : ℕ → A) (n : ℕ) → map f (upto (n + 1)) ≡ map f (upto n) ++ f n ∷ []
  unfolding upto
  map_upto_next f n = ap (λ (m : ℕ). map f (upto m)) (add-one n) ∙ map-append f (upto n) (n ∷ [])

  get_d_map : (f : ℕ → A) (l : List ℕ) (k : ℕ) (d : A) → k < length l → get_or (map f l) k d ≡ f (get_or l k 0)
  get_d_map f [] k d h = absurd (not-suc-le-zero h)
  get_d_map f (x ∷ l) zero d h = refl
  get_d_map f (x ∷ l) (suc k) d h = get_d_map f l k d (le_of_suc-le-suc h)

  pub get_d_map_upto : (f : ℕ → A) (n k : ℕ) (d : A) → k < n → get_or (map f (upto n)) k d ≡ f k
  get_d_map_upto f n k d h = get_d_map f (upto n) k d (rw (length_upto n) h) ∙ ap f (get_d_upto n k h)

  pub length_map_upto : (f : ℕ → A) (n : ℕ) → length (map f (upto n)) ≡ n
  length_map_upto f n = length-map (upto n) f ∙ length_upto n

  pub map_upto_is : (f : ℕ → A) (us : List A) → ((k : ℕ) (d : A) → k < length us → f k ≡ get_or us k d) → map f (upto (length us)) ≡ us
  unfolding upto
  map_upto_is f [] e = refl
  map_upto_is f (u ∷ us) e =
      ext_get_or u (map f (upto (length (u ∷ us)))) (u ∷ us) (length_map_upto f (length (u ∷ us)))
      (λ k h. let l : k < length (u ∷ us) = rw (length_map_upto f (length (u ∷ us))) at h in get_d_map_upto f (length (u ∷ us)) k u l ∙ e k u l)

  pub map_upto_same : (f g : ℕ → A) (n : ℕ) → ((k : ℕ) → k < n → f k ≡ g k) → map f (upto n) ≡ map g (upto n)
  unfolding upto
  map_upto_same f g zero e = refl
  map_upto_same f g (suc n) e =
      map-append f (upto n) (n ∷ []) ∙ (λ i. map_upto_same f g n (λ k h. e k (omega arith)) i ++ e n (omega arith) i ∷ []) ∙ sym (map-append g (upto n) (n ∷ []))

-- ---- zeros

pub zeros_replicate : (n : ℕ) → replicate n 0 ≡ zeros n
unfolding zeros
zeros_replicate zero = refl
zeros_replicate (suc n) = ap (λ (ws : List ℕ). 0 ∷ ws) (zeros_replicate n)

pub length_zeros : (n : ℕ) → length (zeros n) ≡ n
unfolding zeros
length_zeros zero = refl
length_zeros (suc n) = ap suc (length_zeros n)

pub zeros_next : (n : ℕ) → zeros n ++ 0 ∷ [] ≡ zeros (n + 1)
unfolding zeros
zeros_next n = go n ∙ ap zeros (sym (add-one n))
  where
    go : (n : ℕ) → zeros n ++ 0 ∷ [] ≡ zeros (suc n)
    go zero = refl
    go (suc n) = ap (λ (r : List ℕ). 0 ∷ r) (go n)

take_zeros : (n m : ℕ) → n ≤ m → take n (zeros m) ≡ zeros n
unfolding zeros
take_zeros zero m h = refl
take_zeros (suc n) zero h = absurd (not-suc-le-zero h)
take_zeros (suc n) (suc m) h = ap (λ (r : List ℕ). 0 ∷ r) (take_zeros n m (le_of_suc-le-suc h))

-- ---- filled up

pub length_padded : (n : ℕ) (ws : List ℕ) → length (padded n ws) ≡ n
unfolding padded
length_padded n ws = length-take n (ws ++ zeros n) ∙ min-eq_left (simp (length-append, length_zeros) (omega arith))

pub padded_is : (n : ℕ) (ws : List ℕ) → length ws ≤ n → padded n ws ≡ ws ++ zeros (n - length ws)
unfolding padded
padded_is n ws h =
    let e : length ws + (n - length ws) ≡ n = omega arith in
    ap (λ (m : ℕ). take m (ws ++ zeros n)) (sym e) ∙ take-append-add ws (zeros n) (n - length ws) ∙ ap (λ (r : List ℕ). ws ++ r) (take_zeros (n - length ws) n (omega arith))
