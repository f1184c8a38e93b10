-- The ids of a graph in range: each that was given is listed or free, once, so an addition finds one. Assumes nothing.
use Rattle.std.specs.Prelude.{◌≡◌, refl, ℕ, ◌+◌, ◌-◌, ◌≤◌, ◌<◌, Bool, true, false, cond, List, ◌⊎◌, ltb, eqb}
use Rattle.std.proofs.Common.{sym, ap, ◌∙◌, arith, true≢false, inl, inr, ltb-true, ltb-false, lt-ltb, le-ltb, eqb-true}
use Rattle.std.proofs.lemmas.Bool.{eqb-false}
use Rattle.contact_range.specs.Recorded.{capacity_of, given_of, listed_count, free_count, listed_at, free_at}
use Rattle.contact_range.specs.Range.{stands, InRange}
use Rattle.contact_range.specs.RangeLaws.{stands_at, stands_found, free_found, listed_given_lem, listed_once, free_given_lem, free_below, free_once_lem, free_not_standing, given_known_lem, never_given}
use Rattle.contact_range.specs.PigeonholeLaws.{Has, Injective, covers, fits_below}

-- the listed ids, and the free ones after them
id_at : List ℕ → ℕ → ℕ
id_at g k = cond (ltb k (listed_count g)) (listed_at g k) (free_at g (k - listed_count g))

id_listed : (g : List ℕ) (k : ℕ) → k < listed_count g → id_at g k ≡ listed_at g k
unfolding id_at
id_listed g k h = rw (lt-ltb k (listed_count g) h)

id_free : (g : List ℕ) (k : ℕ) → listed_count g ≤ k → id_at g k ≡ free_at g (k - listed_count g)
unfolding id_at
id_free g k h = rw (le-ltb k (listed_count g) h)

-- a place of that row is one of the list or one of the free ids
place_cases : (g : List ℕ) (k : ℕ) → (k < listed_count g) ⊎ (listed_count g ≤ k)
place_cases g k = go (ltb k (listed_count g)) refl
  where
    go : (b : Bool) → ltb k (listed_count g) ≡ b → (k < listed_count g) ⊎ (listed_count g ≤ k)
    go true e = inl (ltb-true k (listed_count g) e)
    go false e = inr (ltb-false k (listed_count g) e)

-- the id of an addition: the one freed last, else the lowest never given
abbrev pub new_id_at : List ℕ → ℕ
new_id_at g = cond (eqb (free_count g) 0) (given_of g) (free_at g (free_count g - 1))

module _ {g : List ℕ} (r : InRange g) where
  id_found : (id : ℕ) → id < given_of g → Has (id_at g) (listed_count g + free_count g) id
  id_found id h =
      elim (given_known_lem r id h) [
        | inl s ↦ let f = stands_found g id s in (f.0, omega (arith, f.1), id_listed g f.0 f.1 ∙ f.2)
        | inr s ↦
            let f = free_found g id s in
            let e : listed_count g + f.0 - listed_count g ≡ f.0 = omega arith in
            (listed_count g + f.0, omega (arith, f.1), id_free g (listed_count g + f.0) (omega arith) ∙ ap (free_at g) e ∙ f.2)
      ]

  id_given : (k : ℕ) → k < listed_count g + free_count g → id_at g k < given_of g
  id_given k h =
      elim (place_cases g k) [
        | inl l ↦ omega (arith, id_listed g k l, listed_given_lem r k l)
        | inr l ↦ omega (arith, id_free g k l, free_given_lem r (k - listed_count g) (omega arith))
      ]

  -- a listed id is not free
  pub listed_not_free : (p k : ℕ) → p < listed_count g → k < free_count g → listed_at g p ≡ free_at g k → ⊥
  listed_not_free p k h l e = true≢false (sym (stands_at g p h) ∙ ap (stands g) e ∙ free_not_standing r k l)

  id_once : Injective (id_at g) (listed_count g + free_count g)
  id_once j k h l e =
      let n = listed_count g in
      elim (place_cases g j) [
        | inl a ↦
            elim (place_cases g k) [
              | inl b ↦ listed_once r j k a b (sym (id_listed g j a) ∙ e ∙ id_listed g k b)
              | inr b ↦ absurd (listed_not_free j (k - n) a (omega arith) (sym (id_listed g j a) ∙ e ∙ id_free g k b))
            ]
        | inr a ↦
            elim (place_cases g k) [
              | inl b ↦ absurd (listed_not_free k (j - n) b (omega arith) (sym (id_listed g k b) ∙ sym e ∙ id_free g j a))
              | inr b ↦ let s = free_once_lem r (j - n) (k - n) (omega arith) (omega arith) (sym (id_free g j a) ∙ e ∙ id_free g k b) in omega arith
            ]
      ]

  -- as many ids were given as are listed and free
  pub given_sum : given_of g ≡ listed_count g + free_count g
  given_sum = omega (arith, covers (id_at g) (given_of g) (listed_count g + free_count g) id_found, fits_below (id_at g) (listed_count g + free_count g) (given_of g) id_once id_given)

  -- ---- where the graph is not full, an addition finds an id that does not stand
  pub new_freed : 0 < free_count g → (free_at g (free_count g - 1) < capacity_of g) × (stands g (free_at g (free_count g - 1)) ≡ false)
  new_freed h = (free_below r (free_count g - 1) (omega arith), free_not_standing r (free_count g - 1) (omega arith))

  pub new_given_lem : free_count g ≡ 0 → listed_count g < capacity_of g → (given_of g < capacity_of g) × (stands g (given_of g) ≡ false)
  new_given_lem e h = (omega (arith, given_sum), never_given r (given_of g) (omega arith))

  pub new_id_lem : listed_count g < capacity_of g → (new_id_at g < capacity_of g) × (stands g (new_id_at g) ≡ false)
  new_id_lem h = go (eqb (free_count g) 0) refl
    where
      go : (b : Bool) → eqb (free_count g) 0 ≡ b → (cond b (given_of g) (free_at g (free_count g - 1)) < capacity_of g) × (stands g (cond b (given_of g) (free_at g (free_count g - 1))) ≡ false)
      go true e = new_given_lem (eqb-true (free_count g) 0 e) h
      go false e = let n = eqb-false (free_count g) 0 e in new_freed (omega arith)
