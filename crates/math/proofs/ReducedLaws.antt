-- The reduction of a root to the root of a whole number of 47 digits or 48, and of a subnormal number to a normal one. Assumes nothing.
use Rattle.std.proofs.Common.{◌≡◌, ℕ, suc, ◌+◌, ◌-◌, ◌*◌, ◌/◌, ◌%◌, ◌^◌, ◌<◌, ◌≤◌, sym, ap, ◌∙◌, le_trans, le_of_eq, lt_of_lt_of_le, lt_of_le_of_lt, mul-le-mul_right, mod-eq_of_lt, mul_assoc, mul_comm, lt_of_not-le, not-le_of_lt, arith, pow_mono, pow-add, shl_lt}
use lib.Count.{count_leading_zeros, leading_top}
use lib.Ieee.{binary32, of_bits}
use Rattle.math.specs.Root.{IsNearest, floor_root, nearest_root}
use Rattle.math.specs.Estimate.{IsNormal, leading, squared}
use Rattle.math.proofs.RootedLaws.{sq_lt, below_next, floor_root_is}
use Rattle.math.proofs.CorrectedLaws.{nearest_half}
use Rattle.math.proofs.RoundedLaws.{root_bits}

-- 24 digits, moved up by 23 places or 24
module _ (c s : ℕ) (lo : 2 ^ 23 ≤ c) (hi : c < 2 ^ 24) (few : 23 ≤ s) (most : s ≤ 24) where
  moved_lt : c * 2 ^ s < 2 ^ 48
  moved_lt = lt_of_lt_of_le (shl_lt 24 s hi) (pow_mono {i = 24 + s} {j = 48} (omega arith))

  moved_ge : 2 ^ 46 ≤ c * 2 ^ s
  moved_ge = le_trans (pow_mono {i = 46} {j = 23 + s} (omega arith)) (le_trans (le_of_eq (pow-add 2 23 s)) (mul-le-mul_right (2 ^ s) lo))

  -- nothing is lost
  moved_is : c * 2 ^ s % 2 ^ 64 ≡ c * 2 ^ s
  moved_is = mod-eq_of_lt (lt_of_lt_of_le moved_lt (pow_mono {i = 48} {j = 64} (omega arith)))

  module _ (q : ℕ) (near : IsNearest (c * 2 ^ s) q) where
    abbrev whole : ℕ
    whole = floor_root (4 * (c * 2 ^ s))

    whole_lt : whole < 2 ^ 25
    whole_lt = let h = moved_lt in sq_lt whole (2 ^ 25) (lt_of_le_of_lt (floor_root_is (4 * (c * 2 ^ s))).0 (omega arith))

    whole_ge : 2 ^ 24 ≤ whole
    whole_ge = let h = moved_ge in below_next (4 * (c * 2 ^ s)) (2 ^ 24) whole (omega arith) (floor_root_is (4 * (c * 2 ^ s))).1

    half_is : (whole + 1) / 2 ≡ q
    half_is = nearest_half (c * 2 ^ s) q whole near (floor_root_is (4 * (c * 2 ^ s)))

    digits_le : q ≤ 2 ^ 24
    digits_le = let h = whole_lt in let e = half_is in omega arith

    reduced : (t : ℕ) → t ≤ 200 → nearest_root binary32 (c * 2 ^ (s + 2 + (t + t))) ≡ of_bits binary32 ((t + 1) * 2 ^ 23 + q)
    reduced t T =
        ap (nearest_root binary32) (sym spread)
        ∙ root_bits (4 * (c * 2 ^ s)) t whole (omega arith) (floor_root_is (4 * (c * 2 ^ s))) whole_ge whole_lt T
        ∙ ap (λ (z : ℕ). of_bits binary32 ((t + 1) * 2 ^ 23 + z)) half_is
      where
        spread : 4 * (c * 2 ^ s) * (2 ^ t * 2 ^ t) ≡ c * 2 ^ (s + 2 + (t + t))
        spread =
            ap (λ (z : ℕ). z * (2 ^ t * 2 ^ t)) (mul_comm 4 (c * 2 ^ s) ∙ mul_assoc c (2 ^ s) 4 ∙ ap (λ (z : ℕ). c * z) (sym (pow-add 2 s 2)))
            ∙ mul_assoc c (2 ^ (s + 2)) (2 ^ t * 2 ^ t)
            ∙ ap (λ (z : ℕ). c * (2 ^ (s + 2) * z)) (sym (pow-add 2 t t))
            ∙ ap (λ (z : ℕ). c * z) (sym (pow-add 2 (s + 2) (t + t)))

-- ---- the digits of a normal number with pattern b, and those of its root
module _ (b : ℕ) where
  few : leading b < 2 ^ 24
  few = omega arith

  abbrev places : ℕ
  places = 24 - b / 2 ^ 23 % 2

  pub squared_whole : squared b % 2 ^ 64 ≡ squared b
  squared_whole = moved_is (leading b) places (omega arith) few (omega arith) (omega arith)

  pub squared_lt : squared b < 2 ^ 48
  squared_lt = moved_lt (leading b) places (omega arith) few (omega arith) (omega arith)

  pub squared_pos : 0 < squared b
  squared_pos = lt_of_lt_of_le (omega arith) (moved_ge (leading b) places (omega arith) few (omega arith) (omega arith))

  module _ (q : ℕ) (near : IsNearest (squared b) q) where
    pub root_digits_le : q ≤ 2 ^ 24
    root_digits_le = digits_le (leading b) places (omega arith) few (omega arith) (omega arith) q near

    -- at i = 62 the root of the number itself, and at i = 50 that of a number 2 ^ 24 times smaller
    pub digits_bits : (i : ℕ) → IsNormal b → i ≤ 62
        → nearest_root binary32 (leading b * 2 ^ (b / 2 ^ 23 - 1) * 2 ^ (i + i + 25)) ≡ of_bits binary32 ((b / 2 ^ 23 + (i + i + 1)) / 2 * 2 ^ 23 + q)
    digits_bits i normal most =
        let f = b / 2 ^ 23 in
        let F : (0 < f) × (f < 255) = (omega (arith, normal.0), omega (arith, normal.1)) in
        let t = (f + (i + i + 1)) / 2 - 1 in
        let next : t + 1 ≡ (f + (i + i + 1)) / 2 = omega (arith, F.0) in
        let even : f - 1 + (i + i + 25) ≡ places + 2 + (t + t) = omega (arith, F.0) in
        ap (nearest_root binary32) (mul_assoc (leading b) (2 ^ (f - 1)) (2 ^ (i + i + 25)) ∙ ap (λ (z : ℕ). leading b * z) (sym (pow-add 2 (f - 1) (i + i + 25)) ∙ ap (λ (z : ℕ). 2 ^ z) even))
        ∙ reduced (leading b) places (omega arith) few (omega arith) (omega arith) q near t (omega (arith, F.1))
        ∙ ap (λ (z : ℕ). of_bits binary32 (z * 2 ^ 23 + q)) next

-- ---- a number of fewer digits, moved up to 24
module _ (m : ℕ) (P : 0 < m) (S : m < 2 ^ 23) where
  abbrev at : (j : ℕ) × (count_leading_zeros 32 m + suc j ≡ 32) × (2 ^ j ≤ m) × (m < 2 ^ suc j)
  at = leading_top 32 m P (lt_of_lt_of_le S (pow_mono {i = 23} {j = 32} (omega arith)))

  abbrev pub up : ℕ
  up = count_leading_zeros 32 m - 8

  short : at.0 < 23
  short = lt_of_not-le (λ (h : 23 ≤ at.0). not-le_of_lt S (le_trans (pow_mono h) at.2))

  pub zeros_ge : 8 ≤ count_leading_zeros 32 m
  zeros_ge = let e = at.1 in let s = short in omega arith

  pub up_le : up ≤ 24
  up_le = let e = at.1 in omega arith

  up_is : at.0 + up ≡ 23
  up_is = let e = at.1 in let s = short in omega arith

  digits_lt : m * 2 ^ up < 2 ^ 24
  digits_lt = let e = up_is in lt_of_lt_of_le (shl_lt (suc at.0) up at.3) (pow_mono {i = suc at.0 + up} {j = 24} (omega arith))

  digits_min : 2 ^ 23 ≤ m * 2 ^ up
  digits_min = let e = up_is in le_trans (pow_mono {i = 23} {j = at.0 + up} (omega arith)) (le_trans (le_of_eq (pow-add 2 at.0 up)) (mul-le-mul_right (2 ^ up) at.2))

  pub up_whole : m * 2 ^ up % 2 ^ 32 ≡ m * 2 ^ up
  up_whole = mod-eq_of_lt (lt_of_lt_of_le digits_lt (pow_mono {i = 24} {j = 32} (omega arith)))

  abbrev pattern : ℕ
  pattern = (24 - up) * 2 ^ 23 + m * 2 ^ up

  pub up_normal : IsNormal pattern
  up_normal = let lo = digits_min in let hi = digits_lt in let u = up_le in (omega arith, omega arith)

  pub up_value : leading pattern * 2 ^ (pattern / 2 ^ 23 - 1) ≡ m * 2 ^ 24
  up_value =
      let lo = digits_min in
      let hi = digits_lt in
      let u = up_le in
      let a : leading pattern ≡ m * 2 ^ up = omega arith in
      let b : pattern / 2 ^ 23 - 1 ≡ 24 - up = omega arith in
      let e : up + (24 - up) ≡ 24 = omega arith in
      ap (λ (z : ℕ). z * 2 ^ (pattern / 2 ^ 23 - 1)) a
      ∙ ap (λ (z : ℕ). m * 2 ^ up * 2 ^ z) b
      ∙ mul_assoc m (2 ^ up) (2 ^ (24 - up))
      ∙ ap (λ (z : ℕ). m * z) (sym (pow-add 2 up (24 - up)) ∙ ap (λ (z : ℕ). 2 ^ z) e)
