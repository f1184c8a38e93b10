-- The manifold count change as a signed number of 32 bits. Assumes nothing.
use Rattle.std.specs.Prelude.{◌≡◌, refl, ℕ, zero, suc, ◌+◌, ◌-◌, ◌≤◌, ◌<◌, Bool, true, false, cond, not, eqb, ltb, ℤ, pos, negsuc, ◌-ℤ◌}
use Rattle.std.proofs.Common.{sym, ap, subst, ◌∙◌, arith, true≢false, ne_eqb, SFits, to_z, of_z}
use Rattle.std.specs.Int.{w32}
use Rattle.std.proofs.lemmas.Int.{to_z_pos, to_z-of_z}
use Rattle.rules.specs.Update.{non_zero}

pub change_fit : (n m : ℕ) → n ≤ 6 → m ≤ 6 → SFits w32 (pos n -ℤ pos m)
change_fit n zero h l = record { sfits = let z : n + 0 < 2147483648 = omega arith in z }
change_fit n (suc m) h l = go (ltb n (suc m))
  where
    go : (t : Bool) → SFits w32 (cond t (negsuc (suc m - suc n)) (pos (n - suc m)))
    go true = record { sfits = let z : suc m - suc n < 2147483648 = omega arith in z }
    go false = record { sfits = let z : n - suc m < 2147483648 = omega arith in z }

module _ (n m : ℕ) (h : n ≤ 6) (l : m ≤ 6) where
  -- the two counts, as the code reads them
  counts_read : to_z w32 n -ℤ to_z w32 m ≡ pos n -ℤ pos m
  counts_read = let a : n < 2147483648 = omega arith in let b : m < 2147483648 = omega arith in λ j. to_z_pos w32 n a j -ℤ to_z_pos w32 m b j

  pub change_held : SFits w32 (to_z w32 n -ℤ to_z w32 m)
  change_held = subst (SFits w32) (sym counts_read) (change_fit n m h l)

  pub change_is : to_z w32 (of_z w32 (to_z w32 n -ℤ to_z w32 m)) ≡ pos n -ℤ pos m
  change_is = to_z-of_z w32 (to_z w32 n -ℤ to_z w32 m) change_held ∙ counts_read

-- a number's word is 0 where the number is
pub zero_word : (z : ℤ) → SFits w32 z → not (eqb (of_z w32 z) 0) ≡ non_zero z
zero_word z f = go z refl
  where
    none : non_zero z ≡ true → of_z w32 z ≡ 0 → ⊥
    none t e = true≢false (sym t ∙ ap non_zero (sym (to_z-of_z w32 z f) ∙ ap (to_z w32) e))

    go : (y : ℤ) → z ≡ y → not (eqb (of_z w32 z) 0) ≡ non_zero z
    go (pos zero) e = rw e
    go (pos (suc k)) e = let t = ap non_zero e in ap not (ne_eqb (of_z w32 z) 0 (none t)) ∙ sym t
    go (negsuc k) e = let t = ap non_zero e in ap not (ne_eqb (of_z w32 z) 0 (none t)) ∙ sym t
