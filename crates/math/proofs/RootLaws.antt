-- `root` is IEEE 754's squareRoot (`root_ieee`), and on binary32 whatever is that is `root` (`root_ieee_only`). Assumes nothing.
use Rattle.std.proofs.Common.{◌≡◌, ℕ, zero, suc, ◌+◌, ◌*◌, ◌^◌, Bool, true, false, T, ℤ, pos, negsuc, sym, refl, ◌∙◌, subst, zero-lt-suc, mul-pos, one-mul, mul-one, arith, eqb→eq, lt→ltb, pow_pos, lt-ltb}
use native.Mathlib.Nat.{two-pow-succ}
use lib.Ieee.{Float, nan, inf, fin, binary32, up, down, lt, fits}
use lib.Ieee.Fits.{up_pos}
use Rattle.math.specs.Root.{root, root_of}
use Rattle.math.specs.Rooted.{plus_zero, RootIs}
use Rattle.math.proofs.CaseLaws.{of_negative}
use Rattle.math.proofs.NearestLaws.{root_nearest, root_only}

pub root_ieee : RootIs root
unfolding root root_of
root_ieee =
    record {
      of_nan = refl;
      of_plus_zero = refl;
      of_minus_zero = refl;
      of_negative = λ x e. of_negative binary32 x e;
      of_infinity = refl;
      of_positive = λ x fx px. root_nearest binary32 x fx px;
    }

-- ---- a zero of the format has the exponent 0
no_power : (k : ℕ) → 2 ^ suc k ≡ 1 → ⊥
no_power k e = let d = two-pow-succ k in let p = pow_pos k in omega arith

zero_exponent : (s : Bool) (e : ℤ) → T (fits binary32 (fin s zero e)) → e ≡ pos 0
unfolding fits
zero_exponent s (pos zero) t = refl
zero_exponent s (pos (suc k)) t = absurd (no_power k (sym (mul-one (2 ^ suc k)) ∙ eqb→eq (2 ^ suc k * 1) 1 t))
zero_exponent s (negsuc k) t = absurd (no_power k (sym (one-mul (2 ^ suc k)) ∙ eqb→eq (1 * 2 ^ suc k) 1 t))

-- ---- the clauses cover every value
below_zero : (m : ℕ) (e : ℤ) → lt (fin true (suc m) e) plus_zero ≡ true
unfolding lt
below_zero m e = let p = mul-pos (zero-lt-suc m) (up_pos e) in lt-ltb 0 (suc m * up e * 1 + 0 * down e) (omega arith)

infinity_below : lt (inf true) plus_zero ≡ true
unfolding lt
infinity_below = refl

module _ (g : Float → Float) (is : RootIs g) where
  zeros : (s : Bool) → g (fin s 0 (pos 0)) ≡ fin s 0 (pos 0)
  zeros true = is.of_minus_zero
  zeros false = is.of_plus_zero

  pub root_ieee_only : (x : Float) → T (fits binary32 x) → g x ≡ root x
  unfolding root root_of
  root_ieee_only nan t = is.of_nan
  root_ieee_only (inf true) t = is.of_negative (inf true) infinity_below
  root_ieee_only (inf false) t = is.of_infinity
  root_ieee_only (fin s zero e) t = subst (λ (d : ℤ). g (fin s zero d) ≡ fin s zero d) (sym (zero_exponent s e t)) (zeros s)
  root_ieee_only (fin true (suc m) e) t = is.of_negative (fin true (suc m) e) (below_zero m e)
  root_ieee_only (fin false (suc m) e) t =
      let p = lt→ltb 0 (suc m) (zero-lt-suc m) in
      root_only binary32 (fin false (suc m) e) (g (fin false (suc m) e)) t p (is.of_positive (fin false (suc m) e) t p)
