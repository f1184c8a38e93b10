-- The laws of `key_of` and `ids_of`: a key tells which pair it is of, and not the order. Assumes nothing.
use Rattle.std.specs.Prelude.{◌≡◌, refl, ◌⊎◌, ℕ, ◌+◌, ◌*◌, ◌^◌, ◌<◌, min, max, Bool, true, false, cond, ltb, eqb}
use Rattle.std.proofs.Common.{sym, ap, ap₂, ◌∙◌, inl, inr, arith, ltb-true, ltb-false, eqb-true}
use Rattle.std.proofs.Math.Nat.{min_comm, max_comm}
use Rattle.std.proofs.lemmas.Bool.{eqb-false}
use Rattle.std.proofs.Math.Pow.{high, low}
use Rattle.data_structures.specs.declared.pair_key.PairIds.{PairIds}
use Rattle.data_structures.specs.PairKey.{key_of, ids_of}

pub key_is : (a b : ℕ) → key_of a b ≡ min a b * 2 ^ 32 + max a b
unfolding key_of
key_is a b = go (ltb a b) refl
  where
    go : (t : Bool) → ltb a b ≡ t → cond t (a * 2 ^ 32 + b) (b * 2 ^ 32 + a) ≡ min a b * 2 ^ 32 + max a b
    go true e = let h = ltb-true a b e in omega arith
    go false e = let h = ltb-false a b e in omega arith

larger : (a b : ℕ) → a < 2 ^ 32 → b < 2 ^ 32 → max a b < 2 ^ 32
larger a b h l = omega arith

-- the order of the two does not matter
pub key_order : (a b : ℕ) → key_of a b ≡ key_of b a
key_order a b = key_is a b ∙ ap₂ (λ (x y : ℕ). x * 2 ^ 32 + y) (min_comm a b) (max_comm a b) ∙ sym (key_is b a)

-- `get` of `new` gives the smaller and the larger
pub ids_of_key : (a b : ℕ) → a < 2 ^ 32 → b < 2 ^ 32 → ids_of (key_of a b) ≡ record { lower = min a b; higher = max a b }
unfolding ids_of
ids_of_key a b h l = let k = key_is a b in rw (k, high (min a b) 32 (larger a b h l), low (min a b) 32 (larger a b h l))

-- two keys are equal for the same pair alone
pub key_same : (a b c d : ℕ) → a < 2 ^ 32 → b < 2 ^ 32 → c < 2 ^ 32 → d < 2 ^ 32 → key_of a b ≡ key_of c d → ((a ≡ c) × (b ≡ d)) ⊎ ((a ≡ d) × (b ≡ c))
key_same a b c d ha hb hc hd e =
    let i : ids_of (key_of a b) ≡ ids_of (key_of c d) = ap ids_of e in
    let p = sym (ids_of_key a b ha hb) ∙ i ∙ ids_of_key c d hc hd in
    go (eqb a c) refl (ap (λ (x : PairIds). x.lower) p) (ap (λ (x : PairIds). x.higher) p)
  where
    go : (t : Bool) → eqb a c ≡ t → min a b ≡ min c d → max a b ≡ max c d → ((a ≡ c) × (b ≡ d)) ⊎ ((a ≡ d) × (b ≡ c))
    go true t l h = let s = eqb-true a c t in inl (s, omega arith)
    go false t l h = let n = eqb-false a c t in inr (omega arith, omega arith)
