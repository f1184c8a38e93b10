-- What `nearest_root` gives, in units of the format's smallest value (`nearest_units`), and for a root of one digit more than binary32 keeps, its bit pattern (`root_bits`). Assumes nothing.
use Rattle.std.proofs.Common.{◌≡◌, ℕ, zero, suc, ◌+◌, ◌-◌, ◌*◌, ◌/◌, ◌%◌, ◌^◌, ◌<◌, ◌≤◌, Bool, true, false, cond, not, T, eqb, ℤ, sym, refl, ap, ◌∙◌, subst, inl, inr, true≢false, le_trans, le_of_eq, lt_of_lt_of_le, lt_of_le_of_lt, mul-le-mul_right, mod-lt, zero-lt-suc, mul_assoc, lt-suc_self, div-lt_iff_lt-mul, add-mul, suc-add, eq-or-lt_of_le, mul-pos, one-mul, pow-suc, lt_of_not-le, div-add-mod', le-div_iff_mul-le, zero-add, mul-one, mul-add, not-le_of_lt, mul-div_cancel, mul_left_comm, add-one, arith, lit≤, eqb→eq, leb→le, pow_pos, pow_mono, pow-add, shl_lt}
use Prim.Native.Nat.{compare, Ordering}
use native.Mathlib.Nat.{eq_of_mul-eq-mul_right, mul-mul-mul_comm, two-pow-succ}
use lib.Dec.{is_le, compare_is_eq, nleb→lt}
use lib.Arith.{digits_div, digits_mod}
use lib.Pow.{pow-lt, shl-shr}
use lib.Ieee.{Float, nan, inf, fin, Format, binary32, prec, low, up, down, size, nearest, units, round, fits, to_bits, of_bits}
use lib.Ieee.Digits.{size-lt, size-le}
use lib.Ieee.Fits.{round_is, round-fits, down_pos, eq→eqb}
use lib.Ieee.Bits.{of_bits-to_bits}
use lib.Ieee.Exact.{HasValue, units_val}
use lib.Ieee.Nearest.{closest, closest_same, div_same}
use Rattle.math.specs.Root.{IsRoot, sticky, floor_root, nearest_root}
use Rattle.math.proofs.RootedLaws.{floor_root_is, root_scaled}

-- ---- a fraction with a whole part h and a rest r / u, rounded to the nearest whole number
compare_lt : (a b : ℕ) → a < b → compare a b ≡ Ordering.lt
compare_lt a b h = go (compare a b) (nleb→lt a b) (eqb→eq a b)
  where
    clash : b < a → a < b → ⊥
    clash p q = omega arith

    same : a ≡ b → a < b → ⊥
    same p q = omega arith

    go : (o : Ordering) → (T (not (is_le o)) → b < a) → (T (compare_is_eq o) → a ≡ b) → o ≡ Ordering.lt
    go Ordering.lt k e = refl
    go Ordering.eq k e = absurd (same (e tt) h)
    go Ordering.gt k e = absurd (clash (k tt) h)

compare_gt : (a b : ℕ) → b < a → compare a b ≡ Ordering.gt
compare_gt a b h = go (compare a b) (leb→le a b)
  where
    clash : a ≤ b → b < a → ⊥
    clash p q = omega arith

    go : (o : Ordering) → (T (is_le o) → a ≤ b) → o ≡ Ordering.gt
    go Ordering.lt k = absurd (clash (k tt) h)
    go Ordering.eq k = absurd (clash (k tt) h)
    go Ordering.gt k = refl

module _ (h u r : ℕ) (R : r < u) where
  pub closest_at : closest (h * u + r) u ≡ nearest h (compare (r * 2) u)
  closest_at =
      ap (λ (z : ℕ). nearest z (compare ((h * u + r) % u * 2) u)) (digits_div h R)
      ∙ ap (λ (z : ℕ). nearest h (compare (z * 2) u)) (digits_mod h R)

  pub closest_down : r * 2 < u → closest (h * u + r) u ≡ h
  closest_down p = closest_at ∙ ap (nearest h) (compare_lt (r * 2) u p)

  pub closest_up : u < r * 2 → closest (h * u + r) u ≡ suc h
  closest_up p = closest_at ∙ ap (nearest h) (compare_gt (r * 2) u p)

-- ---- `nearest_root` in units
pub sticky_le : (n r : ℕ) → sticky n r ≤ 1
sticky_le n r = go (eqb (r * r) n)
  where
    go : (b : Bool) → cond b 0 1 ≤ 1
    go true = lit≤ tt
    go false = lit≤ tt

pub sticky_none : (n r : ℕ) → sticky n r ≡ 0 → r * r ≡ n
sticky_none n r = go (eqb (r * r) n) (eqb→eq (r * r) n)
  where
    go : (b : Bool) → (T b → r * r ≡ n) → ◌≡◌ {A = ℕ} (cond b 0 1) 0 → r * r ≡ n
    go true h e = h tt
    go false h e = absurd (one_not e)
      where
        one_not : ◌≡◌ {A = ℕ} 1 0 → ⊥
        one_not z = omega arith

pub sticky_some : (n r k : ℕ) → r * r ≤ n → sticky n r ≡ suc k → r * r < n
sticky_some n r k h = go (eqb (r * r) n) (eq→eqb)
  where
    less : (r * r ≡ n → ⊥) → r * r < n
    less f = let g = f in omega arith

    clash : ◌≡◌ {A = ℕ} 0 (suc k) → ⊥
    clash e = omega arith

    go : (b : Bool) → (r * r ≡ n → T b) → ◌≡◌ {A = ℕ} (cond b 0 1) (suc k) → r * r < n
    go true t e = absurd (clash e)
    go false t e = less t

half_of : (r s : ℕ) → s ≤ 1 → (2 * r + s) / 2 ≡ r
half_of r s h = omega arith

nearest_is : (f : Format) (n : ℕ) → nearest_root f n ≡ round f false (2 * floor_root n + sticky n (floor_root n)) (2 ^ suc (low f))
unfolding nearest_root
nearest_is f n = refl

-- how many of the root's digits the format drops, and the digits that it keeps
abbrev pub dropped : Format → ℕ → ℕ
dropped f n = size (floor_root n) - prec f

abbrev pub kept_root : ℕ → ℕ → ℕ
kept_root n k = closest (2 * floor_root n + sticky n (floor_root n)) (2 * 2 ^ k)

pub nearest_units : (f : Format) (n : ℕ) → nearest_root f n ≡ units f false (kept_root n (dropped f n)) (dropped f n)
nearest_units f n =
    let N = floor_root n in
    let a = 2 * N + sticky n N in
    let l = 2 ^ low f in
    let d = 2 ^ suc (low f) in
    let D : 0 < d = pow_pos (suc (low f)) in
    let two : 0 < 2 = zero-lt-suc 1 in
    let e : a * l * 2 ≡ a * d = mul_assoc a l 2 ∙ ap (λ (z : ℕ). a * z) (sym (pow-suc 2 (low f))) in
    let w : a * l / d ≡ N = div_same (a * l) d a 2 D two e ∙ half_of N (sticky n N) (sticky_le n N) in
    let k = dropped f n in
    let y : a * l * (2 * 2 ^ k) ≡ a * (d * 2 ^ k) = sym (mul_assoc (a * l) 2 (2 ^ k)) ∙ ap (λ (z : ℕ). z * 2 ^ k) e ∙ mul_assoc a d (2 ^ k) in
    nearest_is f n
    ∙ round_is f false a d
    ∙ ap (λ (z : ℕ). units f false (closest (a * l) (d * 2 ^ (size z - prec f))) (size z - prec f)) w
    ∙ ap (λ (z : ℕ). units f false z k) (closest_same (a * l) (d * 2 ^ k) a (2 * 2 ^ k) (mul-pos D (pow_pos k)) (mul-pos two (pow_pos k)) y)

pub nearest_fits : (f : Format) (n : ℕ) → T (fits f (nearest_root f n))
nearest_fits f n = subst (λ (z : Float). T (fits f z)) (sym (nearest_is f n)) (round-fits f false (2 * floor_root n + sticky n (floor_root n)) (2 ^ suc (low f)))

-- ---- a number's digits
pub size_gt : (n j : ℕ) → 2 ^ j ≤ n → j < size n
size_gt n j h = lt_of_not-le (λ (g : size n ≤ j). not-le_of_lt (lt_of_lt_of_le (size-lt n) (pow_mono g)) h)

pub size_is : (n j : ℕ) → 2 ^ j ≤ n → n < 2 ^ suc j → size n ≡ suc j
size_is n j lo hi = let a = size_gt n j lo in let b = size-le n (suc j) hi in omega arith

-- ---- 4 * c units, and a number of them that is q * c and r, doubled, and s: q / 2 of them is the nearest whole number below or above, by whether q is odd
doubled : (h c : ℕ) → h * (2 * (c + c)) ≡ 4 * (h * c)
doubled h c = let e : h * (2 * (c + c)) ≡ 2 * (h * c + h * c) = mul_left_comm h 2 (c + c) ∙ ap (λ (z : ℕ). 2 * z) (mul-add h c c) in omega arith

half_even : (q c r s : ℕ) → q % 2 ≡ 0 → r < c → s ≤ 1 → closest (2 * (q * c + r) + s) (2 * (c + c)) ≡ (q + 1) / 2
half_even q c r s o R S =
    let h = q / 2 in
    let d : q ≡ 2 * h = omega arith in
    let e : q * c ≡ 2 * (h * c) = ap (λ (z : ℕ). z * c) d ∙ mul_assoc 2 h c in
    let w = doubled h c in
    let a : 2 * (q * c + r) + s ≡ h * (2 * (c + c)) + (2 * r + s) = omega arith in
    let z : h ≡ (q + 1) / 2 = omega arith in
    ap (λ (x : ℕ). closest x (2 * (c + c))) a ∙ closest_down h (2 * (c + c)) (2 * r + s) (omega arith) (omega arith) ∙ z

half_odd : (q c r s : ℕ) → q % 2 ≡ 1 → r < c → s ≤ 1 → 0 < 2 * r + s → closest (2 * (q * c + r) + s) (2 * (c + c)) ≡ (q + 1) / 2
half_odd q c r s o R S P =
    let h = q / 2 in
    let d : q ≡ 2 * h + 1 = omega arith in
    let e : q * c ≡ 2 * (h * c) + c = ap (λ (z : ℕ). z * c) d ∙ add-mul (2 * h) 1 c ∙ ap (λ (z : ℕ). z + 1 * c) (mul_assoc 2 h c) ∙ ap (λ (z : ℕ). 2 * (h * c) + z) (one-mul c) in
    let w = doubled h c in
    let a : 2 * (q * c + r) + s ≡ h * (2 * (c + c)) + (2 * c + (2 * r + s)) = omega arith in
    let z : suc h ≡ (q + 1) / 2 = omega arith in
    ap (λ (x : ℕ). closest x (2 * (c + c))) a ∙ closest_up h (2 * (c + c)) (2 * c + (2 * r + s)) (omega arith) (omega arith) ∙ z

-- ---- M * 4 ^ t for an even M whose root q has one digit more than the format keeps: the root is q * 2 ^ t and a rest below 2 ^ t, and the format keeps half of q
module _ (M t q : ℕ) (even : M % 2 ≡ 0) (root : IsRoot M q) where
  abbrev whole : ℕ
  whole = M * (2 ^ t * 2 ^ t)

  shifted : floor_root whole / 2 ^ t ≡ q
  shifted = root_scaled M (2 ^ t) q (floor_root whole) (pow_pos t) root (floor_root_is whole)

  apart : q * 2 ^ t + floor_root whole % 2 ^ t ≡ floor_root whole
  apart = ap (λ (z : ℕ). z * 2 ^ t + floor_root whole % 2 ^ t) (sym shifted) ∙ div-add-mod' (floor_root whole) (2 ^ t)

  odd_square : q % 2 ≡ 1 → q * q ≡ M → ⊥
  odd_square o e = odd_even (q / 2) (q * q) (sym (square_odd q o)) (ap (λ (z : ℕ). z % 2) e ∙ even)
    where
      square_odd : (q : ℕ) → q % 2 ≡ 1 → q * q ≡ 2 * (q * (q / 2)) + q
      square_odd q o =
          let d : 2 * (q / 2) + 1 ≡ q = omega arith in
          ap (λ (z : ℕ). q * z) (sym d) ∙ mul-add q (2 * (q / 2)) 1 ∙ ap (λ (z : ℕ). z + q * 1) (mul_left_comm q 2 (q / 2)) ∙ ap (λ (z : ℕ). 2 * (q * (q / 2)) + z) (mul-one q)

      odd_even : (h s : ℕ) → 2 * (q * h) + q ≡ s → s % 2 ≡ 0 → ⊥
      odd_even h s a b = omega arith

  -- nothing is left only where q is even
  rest_pos : q % 2 ≡ 1 → 0 < 2 * (floor_root whole % 2 ^ t) + sticky whole (floor_root whole)
  rest_pos o = lt_of_not-le no
    where
      no : 2 * (floor_root whole % 2 ^ t) + sticky whole (floor_root whole) ≤ 0 → ⊥
      no h =
          let N = floor_root whole in
          let r = N % 2 ^ t in
          let none : sticky whole N ≡ 0 = omega arith in
          let exact : r ≡ 0 = omega arith in
          let at : q * 2 ^ t ≡ N = sym (trailing (q * 2 ^ t) r exact) ∙ apart in
          let s : q * q * (2 ^ t * 2 ^ t) ≡ M * (2 ^ t * 2 ^ t) = sym (mul-mul-mul_comm q (2 ^ t) q (2 ^ t)) ∙ ap (λ (z : ℕ). z * z) at ∙ sticky_none whole N none in
          odd_square o (eq_of_mul-eq-mul_right (2 ^ t * 2 ^ t) (mul-pos (pow_pos t) (pow_pos t)) (q * q) M s)
        where
          trailing : (a r : ℕ) → r ≡ 0 → a + r ≡ a
          trailing a r e = omega arith

  pub kept_half : kept_root whole (suc t) ≡ (q + 1) / 2
  kept_half =
      let N = floor_root whole in
      let r = N % 2 ^ t in
      let s = sticky whole N in
      ap (λ (z : ℕ). closest (2 * z + s) (2 * 2 ^ suc t)) (sym apart)
      ∙ ap (λ (z : ℕ). closest (2 * (q * 2 ^ t + r) + s) (2 * z)) (two-pow-succ t)
      ∙ parity (q % 2) refl (mod-lt q (zero-lt-suc 1))
    where
      parity : (o : ℕ) → q % 2 ≡ o → o < 2 → closest (2 * (q * 2 ^ t + floor_root whole % 2 ^ t) + sticky whole (floor_root whole)) (2 * (2 ^ t + 2 ^ t)) ≡ (q + 1) / 2
      parity zero e l = half_even q (2 ^ t) (floor_root whole % 2 ^ t) (sticky whole (floor_root whole)) e (mod-lt (floor_root whole) (pow_pos t)) (sticky_le whole (floor_root whole))
      parity (suc zero) e l = half_odd q (2 ^ t) (floor_root whole % 2 ^ t) (sticky whole (floor_root whole)) e (mod-lt (floor_root whole) (pow_pos t)) (sticky_le whole (floor_root whole)) (rest_pos e)
      parity (suc (suc o)) e l = absurd (not-le_of_lt l (lit≤' o))
        where
          lit≤' : (o : ℕ) → 2 ≤ suc (suc o)
          lit≤' o = omega arith

  -- the root has t digits more than q
  size_whole : (j : ℕ) → 2 ^ j ≤ q → q < 2 ^ suc j → size (floor_root whole) ≡ suc (j + t)
  size_whole j lo hi =
      let N = floor_root whole in
      let a : 2 ^ j * 2 ^ t ≤ N = (le-div_iff_mul-le (pow_pos t)).0 (le_trans lo (le_of_eq (sym shifted))) in
      let b : N < 2 ^ suc j * 2 ^ t = (div-lt_iff_lt-mul (pow_pos t)).0 (lt_of_le_of_lt (le_of_eq shifted) hi) in
      size_is N (j + t) (le_trans (le_of_eq (pow-add 2 j t)) a) (lt_of_lt_of_le b (le_of_eq (sym (pow-add 2 (suc j) t) ∙ ap (λ (z : ℕ). 2 ^ z) (suc-add j t))))

-- ---- the pattern of a value of c * 2 ^ k units, for a c of 24 digits or the number after those
-- the pattern, with n for the magnitude in units
bits_at : (s : Bool) (m : ℕ) (e : ℤ) (n : ℕ) → m * up e * 2 ^ 149 / down e ≡ n → to_bits binary32 (fin false m e) ≡ (size n - 24) * 2 ^ 23 + n / 2 ^ (size n - 24)
unfolding to_bits
bits_at s m e n h = ap (λ (z : ℕ). 0 + (size z - 24) * 2 ^ 23 + z / 2 ^ (size z - 24)) h ∙ ap (λ (z : ℕ). z + n / 2 ^ (size n - 24)) (zero-add ((size n - 24) * 2 ^ 23))

-- n as c * 2 ^ k units, where as many digits as k are dropped
bits_from : (c k n : ℕ) → n ≡ c * 2 ^ k → 2 ^ 23 ≤ c → c ≤ 2 ^ 24 → (size n - 24) * 2 ^ 23 + n / 2 ^ (size n - 24) ≡ k * 2 ^ 23 + c
bits_from c k n e lo hi = elim (eq-or-lt_of_le hi) [
  | inl z ↦
      let at : n ≡ 2 ^ (24 + k) = e ∙ ap (λ (x : ℕ). x * 2 ^ k) z ∙ sym (pow-add 2 24 k) in
      let d : size n ≡ suc (24 + k) = size_is n (24 + k) (le_of_eq (sym at)) (lt_of_le_of_lt (le_of_eq at) (pow-lt (lt-suc_self (24 + k)))) in
      let dr : size n - 24 ≡ suc k = omega arith in
      let w : n ≡ 2 ^ 23 * 2 ^ suc k = at ∙ ap (λ (x : ℕ). 2 ^ x) (one_less k) ∙ pow-add 2 23 (suc k) in
      let v : n / 2 ^ suc k ≡ 2 ^ 23 = ap (λ (x : ℕ). x / 2 ^ suc k) w ∙ shl-shr (2 ^ 23) (suc k) in
      ap (λ (x : ℕ). x * 2 ^ 23 + n / 2 ^ x) dr ∙ ap (λ (x : ℕ). suc k * 2 ^ 23 + x) v ∙ carried k c z
  | inr l ↦
      let a : 2 ^ (23 + k) ≤ n = le_trans (le_of_eq (pow-add 2 23 k)) (le_trans (mul-le-mul_right (2 ^ k) lo) (le_of_eq (sym e))) in
      let b : n < 2 ^ suc (23 + k) = lt_of_le_of_lt (le_of_eq e) (lt_of_lt_of_le (shl_lt 24 k l) (le_of_eq (ap (λ (x : ℕ). 2 ^ x) (suc-add 23 k)))) in
      let d : size n ≡ suc (23 + k) = size_is n (23 + k) a b in
      let dr : size n - 24 ≡ k = omega arith in
      let v : n / 2 ^ k ≡ c = ap (λ (x : ℕ). x / 2 ^ k) e ∙ shl-shr c k in
      ap (λ (x : ℕ). x * 2 ^ 23 + n / 2 ^ x) dr ∙ ap (λ (x : ℕ). k * 2 ^ 23 + x) v
]
  where
    one_less : (k : ℕ) → 24 + k ≡ 23 + suc k
    one_less k = omega arith

    carried : (k c : ℕ) → c ≡ 2 ^ 24 → suc k * 2 ^ 23 + 2 ^ 23 ≡ k * 2 ^ 23 + c
    carried k c z = omega arith

pub bits_of_value : (x : Float) (c k : ℕ) → HasValue x false (c * 2 ^ k) (2 ^ 149) → 2 ^ 23 ≤ c → c ≤ 2 ^ 24 → to_bits binary32 x ≡ k * 2 ^ 23 + c
bits_of_value nan c k v lo hi = absurd v
bits_of_value (inf s) c k v lo hi = absurd v
bits_of_value (fin true m e) c k v lo hi = absurd (true≢false v.0)
bits_of_value (fin false m e) c k v lo hi =
    let n = m * up e * 2 ^ 149 / down e in
    let h : n ≡ c * 2 ^ k = ap (λ (z : ℕ). z / down e) v.1 ∙ mul-div_cancel (c * 2 ^ k) (down_pos e) in
    bits_at false m e n refl ∙ bits_from c k n h lo hi

-- ---- the bits of the root
pub root_bits : (M t q : ℕ) → M % 2 ≡ 0 → IsRoot M q → 2 ^ 24 ≤ q → q < 2 ^ 25 → t ≤ 200 → nearest_root binary32 (M * (2 ^ t * 2 ^ t)) ≡ of_bits binary32 ((t + 1) * 2 ^ 23 + (q + 1) / 2)
root_bits M t q even root lo hi small =
    let n = M * (2 ^ t * 2 ^ t) in
    let x = nearest_root binary32 n in
    let c = (q + 1) / 2 in
    let d : dropped binary32 n ≡ suc t = let z = size_whole M t q even root 24 lo hi in omega arith in
    let is : x ≡ units binary32 false c (suc t) = nearest_units binary32 n ∙ ap (λ (k : ℕ). units binary32 false (kept_root n k) k) d ∙ ap (λ (y : ℕ). units binary32 false y (suc t)) (kept_half M t q even root) in
    let clo : 2 ^ 23 ≤ c = omega arith in
    let chi : c ≤ 2 ^ 24 = omega arith in
    let under : c * 2 ^ suc t < 2 ^ 277 = lt_of_le_of_lt (le_trans (mul-le-mul_right (2 ^ suc t) chi) (le_of_eq (sym (pow-add 2 24 (suc t))))) (pow-lt {j = 277} (omega arith)) in
    let v : HasValue x false (c * 2 ^ suc t) (2 ^ 149) = subst (λ (y : Float). HasValue y false (c * 2 ^ suc t) (2 ^ 149)) (sym is) (units_val binary32 false c (suc t) under) in
    sym (of_bits-to_bits binary32 x (nearest_fits binary32 n))
    ∙ ap (of_bits binary32) (bits_of_value x c (suc t) v clo chi ∙ ap (λ (y : ℕ). y * 2 ^ 23 + c) (sym (add-one t)))
