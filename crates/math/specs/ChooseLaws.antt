-- `maximum` and `minimum` are one of their operands: which where one is a NaN and where the two are equal, and what a floor on the right ensures. Assumes nothing.
use Rattle.std.specs.Prelude.{◌≡◌, ℕ, ◌+◌, ◌*◌, ◌<◌, Bool, true, false, cond, not, T, ◌⊎◌, ℤ, refl, Float}
use Rattle.std.proofs.Common.{sym, subst, inl, inr, mul-pos, lt_of_lt_of_le, arith, ltb→lt, lt→ltb, nltb→le}
use Rattle.std.specs.Float.{nan, inf, fin}
use Rattle.std.specs.Float.Ieee.{of_bits, is_nan, lt, eq, up, down}
use Rattle.std.specs.Float.Ieee.Fits.{up_pos, down_pos}
use Rattle.std.specs.Float.Ieee.Positive.{positive, above, first_pos}
use Rattle.math.specs.Constants.{bits, tiny}
use Rattle.math.specs.Choose.{maximum, minimum}
use Rattle.math.specs.Laws.{lt_itself, eq_number, eq_not_lt}

-- ---- a choice is one of its operands
chosen_one : (a b : Float) (p q : Bool) → (cond p b (cond q b a) ≡ a) ⊎ (cond p b (cond q b a) ≡ b)
chosen_one a b true q = inr refl
chosen_one a b false true = inr refl
chosen_one a b false false = inl refl

pub maximum_one : (a b : Float) → (maximum a b ≡ a) ⊎ (maximum a b ≡ b)
unfolding maximum
maximum_one a b = chosen_one a b (is_nan a) (lt a b)

pub minimum_one : (a b : Float) → (minimum a b ≡ a) ⊎ (minimum a b ≡ b)
unfolding minimum
minimum_one a b = chosen_one a b (is_nan a) (lt b a)

-- ---- one NaN is ignored
pub maximum_of_nan : (b : Float) → maximum nan b ≡ b
unfolding maximum is_nan
maximum_of_nan b = refl

pub maximum_nan : (a : Float) → maximum a nan ≡ a
unfolding maximum is_nan lt
maximum_nan nan = refl
maximum_nan (inf s) = refl
maximum_nan (fin s m e) = refl

pub minimum_of_nan : (b : Float) → minimum nan b ≡ b
unfolding minimum is_nan
minimum_of_nan b = refl

pub minimum_nan : (a : Float) → minimum a nan ≡ a
unfolding minimum is_nan lt
minimum_nan nan = refl
minimum_nan (inf s) = refl
minimum_nan (fin s m e) = refl

-- ---- on equal operands the left is taken: of -0 and +0 whichever it is
pub maximum_equal : (a b : Float) → eq a b ≡ true → maximum a b ≡ a
unfolding maximum
maximum_equal a b e = rw (eq_number a b e, (eq_not_lt a b e).0)

pub minimum_equal : (a b : Float) → eq a b ≡ true → minimum a b ≡ a
unfolding minimum
minimum_equal a b e = rw (eq_number a b e, (eq_not_lt a b e).1)

pub maximum_zeros : (maximum (bits 0x8000_0000) (bits 0) ≡ bits 0x8000_0000) × (maximum (bits 0) (bits 0x8000_0000) ≡ bits 0)
unfolding maximum is_nan lt of_bits
maximum_zeros = (refl, refl)

pub minimum_zeros : (minimum (bits 0x8000_0000) (bits 0) ≡ bits 0x8000_0000) × (minimum (bits 0) (bits 0x8000_0000) ≡ bits 0)
unfolding minimum is_nan lt of_bits
minimum_zeros = (refl, refl)

-- ---- a floor: the maximum with a number b is a number, and not below b
chosen_number : (a b : Float) (p q : Bool) → is_nan a ≡ p → is_nan b ≡ false → is_nan (cond p b (cond q b a)) ≡ false
chosen_number a b true q e h = h
chosen_number a b false true e h = h
chosen_number a b false false e h = e

pub maximum_number : (a b : Float) → is_nan b ≡ false → is_nan (maximum a b) ≡ false
unfolding maximum
maximum_number a b h = chosen_number a b (is_nan a) (lt a b) refl h

chosen_not_below : (a b : Float) (p q : Bool) → lt a b ≡ q → lt (cond p b (cond q b a)) b ≡ false
chosen_not_below a b true q e = lt_itself b
chosen_not_below a b false true e = lt_itself b
chosen_not_below a b false false e = e

pub maximum_not_below : (a b : Float) → lt (maximum a b) b ≡ false
unfolding maximum
maximum_not_below a b = chosen_not_below a b (is_nan a) (lt a b) refl

-- with a floor above zero it is above zero, whatever a is
cross_pos : (n : ℕ) (d e : ℤ) → 0 < n → 0 < n * up d * down e
cross_pos n d e h = mul-pos (mul-pos h (up_pos d)) (down_pos e)

chosen_above : (b : Float) (s : Bool) (m : ℕ) (e : ℤ) (q : Bool) → T (positive b) → lt (fin s m e) b ≡ q → T (above (cond q b (fin s m e)))
unfolding lt
chosen_above nan s m e q p h = absurd p
chosen_above (inf t) s m e q p h = absurd p
chosen_above (fin true n d) s m e q p h = absurd p
chosen_above (fin false n d) s m e true p h = p
chosen_above (fin false n d) true m e false p h =
    let z = cross_pos n d e (ltb→lt 0 n p) in
    absurd (subst T h (lt→ltb 0 (m * up e * down d + n * up d * down e) (omega arith)))
chosen_above (fin false n d) false m e false p h =
    let z = cross_pos n d e (ltb→lt 0 n p) in
    let k = nltb→le (m * up e * down d) (n * up d * down e) (subst (λ (x : Bool). T (not x)) (sym h) tt) in
    lt→ltb 0 m (first_pos m (up e) (first_pos (m * up e) (down d) (lt_of_lt_of_le z k)))

positive_above : (b : Float) → T (positive b) → T (above b)
positive_above nan p = absurd p
positive_above (inf t) p = absurd p
positive_above (fin true n d) p = absurd p
positive_above (fin false n d) p = p

under_floor : (b : Float) → T (positive b) → lt (inf true) b ≡ true
unfolding lt
under_floor nan p = absurd p
under_floor (inf t) p = absurd p
under_floor (fin s n d) p = refl

over_floor : (b : Float) → T (positive b) → lt (inf false) b ≡ false
unfolding lt
over_floor nan p = absurd p
over_floor (inf t) p = absurd p
over_floor (fin s n d) p = refl

pub maximum_above : (a b : Float) → T (positive b) → T (above (maximum a b))
unfolding maximum is_nan
maximum_above nan b p = positive_above b p
maximum_above (inf true) b p = rw (under_floor b p) (positive_above b p)
maximum_above (inf false) b p = rw (over_floor b p) tt
maximum_above (fin s m e) b p = chosen_above b s m e (lt (fin s m e) b) p refl

-- at the least factor of a weight
pub tiny_positive : T (positive tiny)
unfolding of_bits
tiny_positive = tt

pub maximum_tiny : (a : Float) → T (above (maximum a tiny))
maximum_tiny a = maximum_above a tiny tiny_positive
