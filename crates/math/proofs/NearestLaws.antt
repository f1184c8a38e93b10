-- The root that `root_of` gives is the correctly rounded one: every other value of the format is farther from the root (`root_nearest`). Assumes nothing.
use Rattle.std.proofs.Common.{◌≡◌, ℕ, zero, suc, ◌+◌, ◌-◌, ◌*◌, ◌/◌, ◌%◌, ◌^◌, ◌<◌, ◌≤◌, Bool, true, false, not, ◌&&◌, T, eqb, ltb, leb, ◌⊎◌, ℤ, pos, negsuc, sym, refl, ap, ◌∙◌, subst, inl, inr, ⊎_elim, true≢false, le_trans, le_of_eq, lt_of_lt_of_le, lt_of_le_of_lt, le_of_lt, lt_irrefl, mul-le-mul_right, mod-lt, mul_assoc, suc-mul, mul_comm, add-mul, add_comm, lt_of_mul-lt-mul_right, mul-le-mul_left, mul-lt-mul_of_pos_right, mul-pos, one-mul, lt_of_not-le, div-add-mod', le-div_iff_mul-le, zero-mul, mul-one, mul-add, mul_right_comm, not-le_of_lt, mul_left_comm, arith, lit≤, eqb→eq, ltb→lt, leb→le, pow_pos, pow_mono, pow-add, shl_lt}
use Prim.Native.Nat.{compare, Ordering}
use native.Mathlib.Nat.{mul-mul-mul_comm, pow-succ', two-pow-succ, eq_of_mul-eq-mul_right}
use native.Mathlib.Decide.{dec_le}
use lib.Dec.{is_le, compare_is_eq, nleb→lt}
use lib.Pow.{pow-lt}
use lib.Bits.{shifted_even}
use lib.Ieee.{Float, nan, inf, fin, Format, binary32, binary64, prec, emax, low, up, down, size, nearest, fits, hid, to_bits, of_bits}
use lib.Ieee.Digits.{size_reaches}
use lib.Ieee.Fits.{two, and_l, and_r, down_pos}
use lib.Ieee.Exact.{HasValue, units_val}
use lib.Ieee.Bits.{of_bits-to_bits}
use lib.Ieee.Nearest.{closest, div_same}
use lib.Ieee.Positive.{num, den, positive, value→cross, den_pos, value_pos}
use Rattle.math.specs.Root.{IsRoot, sticky, floor_root, nearest_root, root_of}
use Rattle.math.specs.Rooted.{unsigned, Beyond, Nearest}
use Rattle.math.proofs.RootedLaws.{sq_mono, sq_lt, sq_lt_mono, below_next, floor_root_is}
use Rattle.math.proofs.RoundedLaws.{closest_at, sticky_le, sticky_none, sticky_some, dropped, kept_root, nearest_units, nearest_fits, size_gt}
use Rattle.math.proofs.CaseLaws.{of_value}

-- ---- the kept number q of a root N that is h * c and a rest r, in units of c: it is h or the next, by the rest and the sticky digit s
abbrev Kept : ℕ → ℕ → ℕ → ℕ → ℕ → Type 0
Kept q h r s c = ((q ≡ h) × (2 * r + s ≤ c)) ⊎ ((q ≡ suc h) × (c ≤ 2 * r + s))

nearest_cases : (h r s c : ℕ) → Kept (nearest h (compare ((2 * r + s) * 2) (2 * c))) h r s c
nearest_cases h r s c = go (compare ((2 * r + s) * 2) (2 * c)) (leb→le ((2 * r + s) * 2) (2 * c)) (nleb→lt ((2 * r + s) * 2) (2 * c)) (eqb→eq ((2 * r + s) * 2) (2 * c))
  where
    le : (2 * r + s) * 2 ≤ 2 * c → 2 * r + s ≤ c
    le h = omega arith

    ge : 2 * c ≤ (2 * r + s) * 2 → c ≤ 2 * r + s
    ge h = omega arith

    tie : (o : ℕ) → h % 2 ≡ o → o < 2 → (2 * r + s) * 2 ≡ 2 * c → Kept (h + h % 2) h r s c
    tie zero e l t = inl (let z : h + h % 2 ≡ h = omega arith in z, le (le_of_eq t))
    tie (suc o) e l t = inr (let z : h + h % 2 ≡ suc h = omega arith in z, ge (le_of_eq (sym t)))

    go : (o : Ordering) → (T (is_le o) → (2 * r + s) * 2 ≤ 2 * c) → (T (not (is_le o)) → 2 * c < (2 * r + s) * 2) → (T (compare_is_eq o) → (2 * r + s) * 2 ≡ 2 * c) → Kept (nearest h o) h r s c
    go Ordering.lt a b e = inl (refl, le (a tt))
    go Ordering.eq a b e = tie (h % 2) refl (mod-lt h (zero_lt 1)) (e tt)
      where
        zero_lt : (n : ℕ) → 0 < suc n
        zero_lt n = omega arith
    go Ordering.gt a b e = inr (refl, ge (le_of_lt (b tt)))

pub kept_cases : (N s c : ℕ) → 0 < c → s ≤ 1 → Kept (closest (2 * N + s) (2 * c)) (N / c) (N % c) s c
kept_cases N s c C S =
    let h = N / c in
    let r = N % c in
    let R = mod-lt N C in
    let d : h * c + r ≡ N = div-add-mod' N c in
    let w : h * (2 * c) ≡ 2 * (h * c) = mul_left_comm h 2 c in
    let a : h * (2 * c) + (2 * r + s) ≡ 2 * N + s = omega arith in
    subst (λ (z : ℕ). Kept z h r s c) (sym (closest_at h (2 * c) (2 * r + s) (omega arith)) ∙ ap (λ (z : ℕ). closest z (2 * c)) a) (nearest_cases h r s c)

-- ---- no tie: an odd square is no m * 2 ^ b with an m below it, so the rest is not half of c
never : (o m a b : ℕ) → o % 2 ≡ 1 → m < o → o * 2 ^ a ≡ m * 2 ^ b → ⊥
never o m a b odd less e = either (dec_le b a)
  where
    whole : (x y : ℕ) → y ≤ x → x - y + y ≡ x
    whole x y l = omega arith

    split : (x y : ℕ) → y ≤ x → (z : ℕ) → z * 2 ^ x ≡ z * 2 ^ (x - y) * 2 ^ y
    split x y l z = ap (λ (t : ℕ). z * 2 ^ t) (sym (whole x y l)) ∙ ap (λ (t : ℕ). z * t) (pow-add 2 (x - y) y) ∙ sym (mul_assoc z (2 ^ (x - y)) (2 ^ y))

    large : o ≤ m → ⊥
    large h = omega arith

    even : (x y : ℕ) → y < x → m * 2 ^ (x - y) % 2 ≡ 0
    even x y l = ap (λ (t : ℕ). m * 2 ^ t % 2) (let z : x - y ≡ suc (x - suc y) = omega arith in z) ∙ shifted_even m (x - suc y)

    clash : (x : ℕ) → x % 2 ≡ 0 → o ≡ x → ⊥
    clash x h g = omega arith

    either : Dec (b ≤ a) → ⊥
    either (yes l) =
        let g : o * 2 ^ (a - b) ≡ m = eq_of_mul-eq-mul_right (2 ^ b) (pow_pos b) (o * 2 ^ (a - b)) m (sym (split a b l o) ∙ e) in
        large (le_trans (le_of_eq (sym (mul-one o))) (le_trans (mul-le-mul_left o (pow_pos (a - b))) (le_of_eq g)))
    either (no f) =
        let l : a < b = lt_of_not-le f in
        let g : o ≡ m * 2 ^ (b - a) = eq_of_mul-eq-mul_right (2 ^ a) (pow_pos a) o (m * 2 ^ (b - a)) (e ∙ split b a (le_of_lt l) m) in
        clash (m * 2 ^ (b - a)) (even b a l) g

-- N is h * 2 ^ k and half of 2 ^ k, so it is (2 * h + 1) * 2 ^ (k - 1)
no_half : (p n N m b k h r : ℕ) → N * N ≡ n → n ≡ m * 2 ^ b → m < 2 ^ p → 0 < p → 2 ^ (p - 1) ≤ h → k ≡ suc (k - 1) → h * 2 ^ k + r ≡ N → 2 * r ≡ 2 ^ k → ⊥
no_half p n N m b k h r sq is small P H K apart half =
    let i = k - 1 in
    let o = 2 * h + 1 in
    let c : 2 ^ k ≡ 2 ^ i + 2 ^ i = ap (λ (z : ℕ). 2 ^ z) K ∙ two-pow-succ i in
    let e : h * 2 ^ k ≡ 2 * (h * 2 ^ i) = ap (λ (z : ℕ). h * z) c ∙ mul-add h (2 ^ i) (2 ^ i) ∙ double (h * 2 ^ i) in
    let w : o * 2 ^ i ≡ 2 * (h * 2 ^ i) + 2 ^ i = add-mul (2 * h) 1 (2 ^ i) ∙ ap (λ (z : ℕ). z + 1 * 2 ^ i) (mul_assoc 2 h (2 ^ i)) ∙ ap (λ (z : ℕ). 2 * (h * 2 ^ i) + z) (one-mul (2 ^ i)) in
    let N-is : o * 2 ^ i ≡ N = omega arith in
    let s : o * o * 2 ^ (i + i) ≡ m * 2 ^ b = ap (λ (z : ℕ). o * o * z) (pow-add 2 i i) ∙ sym (mul-mul-mul_comm o (2 ^ i) o (2 ^ i)) ∙ ap (λ (z : ℕ). z * z) N-is ∙ sq ∙ is in
    let q : o * o ≡ 2 * (h * o) + o = add-mul (2 * h) 1 o ∙ ap (λ (z : ℕ). z + 1 * o) (mul_assoc 2 h o) ∙ ap (λ (z : ℕ). 2 * (h * o) + z) (one-mul o) in
    let d : 2 ^ p ≡ 2 ^ (p - 1) + 2 ^ (p - 1) = ap (λ (z : ℕ). 2 ^ z) (let z : p ≡ suc (p - 1) = omega arith in z) ∙ two-pow-succ (p - 1) in
    never (o * o) m (i + i) b (omega arith) (omega arith) s
  where
    double : (x : ℕ) → x + x ≡ 2 * x
    double x = omega arith

-- ---- q * c, between the numbers halfway to its neighbours, (q + h) * c or less, and (2 * q + 1) * c. Where nothing is left, N is the root itself, and no tie occurs.
module _ (n N s c q h : ℕ) (root : IsRoot n N) (S : s ≤ 1) (none : s ≡ 0 → N * N ≡ n) (some : (t : ℕ) → s ≡ suc t → N * N < n) (even : c % 2 ≡ 0) (C : 0 < c) (r : ℕ) (R : r < c)
    (apart : h * c + r ≡ N) (no_tie : s ≡ 0 → 2 * r ≡ c → ⊥) (kept : Kept q h r s c) where
  four : (a : ℕ) → 2 * a * (2 * a) ≡ 4 * (a * a)
  four a = mul-mul-mul_comm 2 a 2 a

  same_product : q ≡ h → q * c ≡ h * c
  same_product e = ap (λ (z : ℕ). z * c) e

  next_product : q ≡ suc h → q * c ≡ h * c + c
  next_product e = ap (λ (z : ℕ). z * c) e ∙ suc-mul h c

  -- the result and what is at most h * c make 2 * N at most
  pub kept_low : q * c + h * c ≤ 2 * N
  kept_low = ⊎_elim
      (λ k. let e = same_product k.0 in omega arith)
      (λ k. let e = next_product k.0 in let g = k.1 in omega arith)
      kept

  pub halfway_below : (y : ℕ) → y < q * c → y ≤ h * c → (q * c + y) * (q * c + y) < 4 * n
  halfway_below y l m = by s refl
    where
      by : (t : ℕ) → s ≡ t → (q * c + y) * (q * c + y) < 4 * n
      by zero e = lt_of_lt_of_le (sq_lt_mono less) (le_of_eq (four N ∙ ap (λ (z : ℕ). 4 * z) (none e)))
        where
          less : q * c + y < 2 * N
          less = ⊎_elim
              (λ k. let w = same_product k.0 in omega arith)
              (λ k. let w = next_product k.0 in let g = k.1 in let t = no_tie e in omega arith)
              kept
      by (suc t) e =
          lt_of_le_of_lt (sq_mono (let w = kept_low in let z : q * c + y ≤ 2 * N = omega arith in z))
          (lt_of_le_of_lt (le_of_eq (four N)) (let g = some t e in let z : 4 * (N * N) < 4 * n = omega arith in z))

  pub halfway_above : (y : ℕ) → q * c + c ≤ y → 4 * n < (q * c + y) * (q * c + y)
  halfway_above y l = by s refl
    where
      by : (t : ℕ) → s ≡ t → 4 * n < (q * c + y) * (q * c + y)
      by zero e = lt_of_le_of_lt (le_of_eq (ap (λ (z : ℕ). 4 * z) (sym (none e)) ∙ sym (four N))) (sq_lt_mono less)
        where
          less : 2 * N < q * c + y
          less = ⊎_elim
              (λ k. let w = same_product k.0 in let g = k.1 in let t = no_tie e in omega arith)
              (λ k. let w = next_product k.0 in omega arith)
              kept
      by (suc t) e = lt_of_lt_of_le (let g = root.1 in let z : 4 * n < 4 * ((N + 1) * (N + 1)) = omega arith in z) (le_trans (le_of_eq (sym (four (N + 1)))) (sq_mono enough))
        where
          enough : 2 * (N + 1) ≤ q * c + y
          enough = ⊎_elim
              (λ k. let w = same_product k.0 in let g = k.1 in omega arith)
              (λ k. let w = next_product k.0 in omega arith)
              kept

-- ---- a value y of the format, m * 2 ^ j units with m below 2 ^ p, beside q * 2 ^ k where h, or q, has p digits
module _ (p k q h m j : ℕ) (P : 0 < p) (H : 2 ^ (p - 1) ≤ h) (Q : h ≤ q) (Q' : q ≤ suc h) (M : m < 2 ^ p) where
  -- either y is a multiple of 2 ^ k, or below h of them
  place : ((w : ℕ) × (m * 2 ^ j ≡ w * 2 ^ k)) ⊎ (m * 2 ^ j < h * 2 ^ k)
  place = either (dec_le k j)
    where
      exponent : j < k → p + j ≤ p - 1 + k
      exponent l = omega arith

      whole : k ≤ j → j - k + k ≡ j
      whole l = omega arith

      either : Dec (k ≤ j) → ((w : ℕ) × (m * 2 ^ j ≡ w * 2 ^ k)) ⊎ (m * 2 ^ j < h * 2 ^ k)
      either (yes l) = inl (m * 2 ^ (j - k), ap (λ (z : ℕ). m * 2 ^ z) (sym (whole l)) ∙ ap (λ (z : ℕ). m * z) (pow-add 2 (j - k) k) ∙ sym (mul_assoc m (2 ^ (j - k)) (2 ^ k)))
      either (no f) = inr (lt_of_lt_of_le (shl_lt p j M) (le_trans (pow_mono (exponent (lt_of_not-le f))) (le_trans (le_of_eq (pow-add 2 (p - 1) k)) (mul-le-mul_right (2 ^ k) H))))

  pub under : m * 2 ^ j < q * 2 ^ k → m * 2 ^ j ≤ h * 2 ^ k
  under l = ⊎_elim
      (λ d. let w : d.0 < q = lt_of_mul-lt-mul_right (2 ^ k) (lt_of_le_of_lt (le_of_eq (sym d.1)) l) in le_trans (le_of_eq d.1) (mul-le-mul_right (2 ^ k) (let z : d.0 ≤ h = omega arith in z)))
      le_of_lt
      place

  pub over : q * 2 ^ k < m * 2 ^ j → q * 2 ^ k + 2 ^ k ≤ m * 2 ^ j
  over l = ⊎_elim
      (λ d. let w : q < d.0 = lt_of_mul-lt-mul_right (2 ^ k) (lt_of_lt_of_le l (le_of_eq d.1)) in le_trans (le_of_eq (sym (suc-mul q (2 ^ k)))) (le_trans (mul-le-mul_right (2 ^ k) w) (le_of_eq (sym d.1))))
      (λ d. absurd (not-le_of_lt l (le_trans (le_of_lt d) (mul-le-mul_right (2 ^ k) Q))))
      place

-- ---- the law in units. n is v * 2 ^ b with a v of the format's digits, and large enough that its root has more digits than the format keeps
module _ (f : Format) (n v b : ℕ) (few : v < 2 ^ prec f) (n-is : n ≡ v * 2 ^ b) (large : 2 ^ prec f * 2 ^ prec f ≤ n) where
  abbrev N : ℕ
  N = floor_root n

  abbrev p : ℕ
  p = prec f

  abbrev k : ℕ
  k = dropped f n

  abbrev q : ℕ
  q = kept_root n k

  abbrev h : ℕ
  h = N / 2 ^ k

  P : 0 < p
  P = let t = two f in omega arith

  longer : p < size N
  longer = size_gt N p (below_next n (2 ^ p) N large (floor_root_is n).1)

  drops : k ≡ suc (k - 1)
  drops = let l = longer in omega arith

  even : 2 ^ k % 2 ≡ 0
  even = ap (λ (z : ℕ). 2 ^ z % 2) drops ∙ ap (λ (z : ℕ). z % 2) (sym (one-mul (2 ^ suc (k - 1)))) ∙ shifted_even 1 (k - 1)

  kept : Kept q h (N % 2 ^ k) (sticky n N) (2 ^ k)
  kept = kept_cases N (sticky n N) (2 ^ k) (pow_pos k) (sticky_le n N)

  first : h ≤ q
  first = ⊎_elim (λ d. le_of_eq (sym d.0)) (λ d. let e = d.0 in omega arith) kept

  last : q ≤ suc h
  last = ⊎_elim (λ d. let e = d.0 in omega arith) (λ d. le_of_eq d.0) kept

  digit : 2 ^ (p - 1) ≤ h
  digit = (le-div_iff_mul-le (pow_pos k)).1 (le_trans (le_of_eq (sym (pow-add 2 (p - 1) k))) (size_reaches N (p - 1 + k) (let l = longer in let t = two f in omega arith)))

  no_tie : sticky n N ≡ 0 → 2 * (N % 2 ^ k) ≡ 2 ^ k → ⊥
  no_tie e t = no_half p n N v b k h (N % 2 ^ k) (sticky_none n N e) n-is few P digit drops (div-add-mod' N (2 ^ k)) t

  -- the result, in units, is at most twice the root
  result_le : q * 2 ^ k ≤ 2 * N
  result_le =
      let w = kept_low n N (sticky n N) (2 ^ k) q h (floor_root_is n) (sticky_le n N) (sticky_none n N) (λ t. sticky_some n N t (floor_root_is n).0) even (pow_pos k) (N % 2 ^ k) (mod-lt N (pow_pos k)) (div-add-mod' N (2 ^ k)) no_tie kept in
      omega arith

  module _ (m j : ℕ) (M : m < 2 ^ p) where
    pub units_above : q * 2 ^ k < m * 2 ^ j → 4 * n < (q * 2 ^ k + m * 2 ^ j) * (q * 2 ^ k + m * 2 ^ j)
    units_above l =
        halfway_above n N (sticky n N) (2 ^ k) q h (floor_root_is n) (sticky_le n N) (sticky_none n N) (λ t. sticky_some n N t (floor_root_is n).0) even (pow_pos k) (N % 2 ^ k) (mod-lt N (pow_pos k)) (div-add-mod' N (2 ^ k)) no_tie kept
        (m * 2 ^ j) (over p k q h m j P digit first last M l)

    pub units_below : m * 2 ^ j < q * 2 ^ k → (q * 2 ^ k + m * 2 ^ j) * (q * 2 ^ k + m * 2 ^ j) < 4 * n
    units_below l =
        halfway_below n N (sticky n N) (2 ^ k) q h (floor_root_is n) (sticky_le n N) (sticky_none n N) (λ t. sticky_some n N t (floor_root_is n).0) even (pow_pos k) (N % 2 ^ k) (mod-lt N (pow_pos k)) (div-add-mod' N (2 ^ k)) no_tie kept
        (m * 2 ^ j) l (under p k q h m j P digit first last M l)

-- ---- from units to fractions
squares : (S Z d w L : ℕ) → S * L ≡ Z * d → S * S * w * (L * L) ≡ Z * Z * (d * d * w)
squares S Z d w L e = simp mul_assoc (simp (mul_assoc, mul_comm, mul_left_comm) at (ap (λ (z : ℕ). z * z * w) e))

fourfold : (v w X d L : ℕ) → v * L ≡ X * w → 4 * v * (d * d) * (L * L) ≡ 4 * (X * L) * (d * d * w)
fourfold v w X d L e = simp (mul_assoc, mul_comm, mul_left_comm) (simp (mul_assoc, mul_comm, mul_left_comm) at (ap (λ (z : ℕ). z * (L * (4 * (d * d)))) e))

order : (a b d L R Y : ℕ) → 0 < L → a * L ≡ R * d → b * L ≡ Y * d → a < b → R < Y
order a b d L R Y l p q h = lt_of_mul-lt-mul_right d (lt_of_le_of_lt (le_of_eq (sym p)) (lt_of_lt_of_le (mul-lt-mul_of_pos_right h l) (le_of_eq q)))

to_fractions : (v w a b d L X R Y : ℕ) → 0 < L → 0 < w → 0 < d → v * L ≡ X * w → a * L ≡ R * d → b * L ≡ Y * d
    → (R < Y → 4 * (X * L) < (R + Y) * (R + Y)) → (Y < R → (R + Y) * (R + Y) < 4 * (X * L)) → Beyond v w a b d
to_fractions v w a b d L X R Y l W D x p q up down =
    let e : (a + b) * L ≡ (R + Y) * d = add-mul a b L ∙ ap (λ (z : ℕ). z + b * L) p ∙ ap (λ (z : ℕ). R * d + z) q ∙ sym (add-mul R Y d) in
    let s = squares (a + b) (R + Y) d w L e in
    let t = fourfold v w X d L x in
    let K : 0 < d * d * w = mul-pos (mul-pos D D) W in (
      (λ h. lt_of_mul-lt-mul_right (L * L) (lt_of_le_of_lt (le_of_eq t) (lt_of_lt_of_le (mul-lt-mul_of_pos_right (up (order a b d L R Y l p q h)) K) (le_of_eq (sym s))))),
      (λ h. lt_of_mul-lt-mul_right (L * L) (lt_of_le_of_lt (le_of_eq s) (lt_of_lt_of_le (mul-lt-mul_of_pos_right (down (order b a d L Y R l q p h)) K) (le_of_eq (sym t))))),
    )

-- ---- a value of the format in units
in_units : (l m : ℕ) (e : ℤ) → down e ≤ 2 ^ l → (j : ℕ) × (m * up e * 2 ^ l ≡ m * 2 ^ j * down e)
in_units l m (pos a) h = (a + l, mul_assoc m (2 ^ a) (2 ^ l) ∙ ap (λ (z : ℕ). m * z) (sym (pow-add 2 a l)) ∙ sym (mul-one (m * 2 ^ (a + l))))
in_units l m (negsuc a) h =
    let g : suc a ≤ l = le_of_not_lt (λ (t : l < suc a). not-le_of_lt (pow-lt t) h) in
    let w : l - suc a + suc a ≡ l = omega arith in
    (l - suc a, ap (λ (z : ℕ). z * 2 ^ l) (mul-one m) ∙ ap (λ (z : ℕ). m * 2 ^ z) (sym w) ∙ ap (λ (z : ℕ). m * z) (pow-add 2 (l - suc a) (suc a)) ∙ sym (mul_assoc m (2 ^ (l - suc a)) (2 ^ suc a)))
  where
    le_of_not_lt : {x y : ℕ} → (y < x → ⊥) → x ≤ y
    le_of_not_lt {x} {y} f = let k = f in omega arith

-- what `fits` says, part by part
fits_parts : (f : Format) (s : Bool) (m : ℕ) (e : ℤ) → T (fits f (fin s (suc m) e)) → (suc m < 2 ^ prec f) × (down e ≤ 2 ^ low f) × (suc m * up e < 2 ^ suc (emax f) * down e)
unfolding fits
fits_parts f s m e t =
    let a = eqb (suc m % 2) 1 in
    let b = ltb (suc m) (2 ^ prec f) in
    let c = leb (down e) (2 ^ low f) in
    let d = ltb (suc m * up e) (2 ^ suc (emax f) * down e) in
    let abc = and_l (a && b && c) d t in
    (ltb→lt (suc m) (2 ^ prec f) (and_r a b (and_l (a && b) c abc)), leb→le (down e) (2 ^ low f) (and_r (a && b) c abc), ltb→lt (suc m * up e) (2 ^ suc (emax f) * down e) (and_r (a && b && c) d t))

-- m * 2 ^ j units, with m of the format's digits, and below the overflow
pub record InUnits (f : Format) (y : Float) : Type 0 where
  pub m : ℕ
  pub j : ℕ
  pub small : m < 2 ^ prec f
  pub bounded : m * 2 ^ j < 2 ^ suc (emax f) * 2 ^ low f
  pub value : HasValue y false (m * 2 ^ j) (2 ^ low f)

pub value_units : (f : Format) (y : Float) → T (fits f y) → T (unsigned y) → InUnits f y
value_units f nan t u = absurd u
value_units f (inf s) t u = absurd u
value_units f (fin true m e) t u = absurd u
value_units f (fin false zero e) t u = record { m = 0; j = 0; small = pow_pos (prec f); bounded = mul-pos (pow_pos (suc (emax f))) (pow_pos (low f)); value = (refl, none (up e) (2 ^ low f) (down e)) }
  where
    none : (a b c : ℕ) → 0 * a * b ≡ 0 * 1 * c
    none a b c = ap (λ (z : ℕ). z * b) (zero-mul a) ∙ zero-mul b ∙ sym (zero-mul c)
value_units f (fin false (suc m) e) t u =
    let p = fits_parts f false m e t in
    let z = in_units (low f) (suc m) e p.1 in
    let L = 2 ^ low f in
    let E = 2 ^ suc (emax f) in
    let b : suc m * 2 ^ z.0 * down e < E * L * down e = lt_of_le_of_lt (le_of_eq (sym z.1)) (lt_of_lt_of_le (mul-lt-mul_of_pos_right p.2 (pow_pos (low f))) (le_of_eq (mul_right_comm E (down e) L))) in
    record { m = suc m; j = z.0; small = p.0; bounded = lt_of_mul-lt-mul_right (down e) b; value = (refl, z.1) }

-- ---- the law
long : (f : Format) → prec f + prec f ≤ low f
long binary32 = lit≤ tt
long binary64 = lit≤ tt

wide_range : (f : Format) → 1 ≤ emax f
wide_range binary32 = lit≤ tt
wide_range binary64 = lit≤ tt

-- the root of a positive value is no infinity
in_range_lem : (f : Format) (X : ℕ) → X < 2 ^ suc (emax f) * 2 ^ low f → 2 * floor_root (X * 2 ^ low f) < 2 ^ (low f + suc (emax f))
in_range_lem f X b =
    let l = low f in
    let E = emax f in
    let n = X * 2 ^ l in
    let sq : n < 2 ^ (E + l) * 2 ^ (E + l) =
    lt_of_lt_of_le (mul-lt-mul_of_pos_right b (pow_pos l))
    (le_trans (le_of_eq (ap (λ (z : ℕ). z * 2 ^ l) (sym (pow-add 2 (suc E) l)) ∙ sym (pow-add 2 (suc E + l) l))) (le_trans (pow_mono (let w = wide_range f in let z : suc E + l + l ≤ E + l + (E + l) = omega arith in z)) (le_of_eq (pow-add 2 (E + l) (E + l))))) in
    let N : floor_root n < 2 ^ (E + l) = sq_lt (floor_root n) (2 ^ (E + l)) (lt_of_le_of_lt (floor_root_is n).0 sq) in
    lt_of_lt_of_le (let z : 2 * floor_root n < 2 * 2 ^ (E + l) = omega arith in z) (le_of_eq (sym (pow-succ' 2 (E + l)) ∙ ap (λ (z : ℕ). 2 ^ z) (let z : suc (E + l) ≡ l + suc E = omega arith in z)))

unsigned_of : (x : Float) → T (positive x) → T (unsigned x)
unsigned_of nan p = p
unsigned_of (inf s) p = p
unsigned_of (fin true m e) p = p
unsigned_of (fin false m e) p = tt

value_unsigned : (x : Float) (a c : ℕ) → HasValue x false a c → T (unsigned x)
value_unsigned nan a c v = v
value_unsigned (inf s) a c v = v
value_unsigned (fin true m e) a c v = absurd (true≢false v.0)
value_unsigned (fin false m e) a c v = tt

pub root_nearest : (f : Format) (x : Float) → T (fits f x) → T (positive x) → Nearest f x (root_of f x)
root_nearest f x fx px =
    let L = 2 ^ low f in
    let X = value_units f x fx (unsigned_of x px) in
    let v = X.m * 2 ^ X.j in
    let n = v * L in
    let P : 0 < v = value_pos x v L px (pow_pos (low f)) X.value in
    let large : 2 ^ prec f * 2 ^ prec f ≤ n = le_trans (le_of_eq (sym (pow-add 2 (prec f) (prec f)))) (le_trans (pow_mono (long f)) (le_trans (le_of_eq (sym (one-mul L))) (mul-le-mul_right L P))) in
    let is-v : n ≡ X.m * 2 ^ (X.j + low f) = mul_assoc X.m (2 ^ X.j) L ∙ ap (λ (z : ℕ). X.m * z) (sym (pow-add 2 X.j (low f))) in
    let r = root_of f x in
    let R = kept_root n (dropped f n) * 2 ^ dropped f n in
    let is : r ≡ nearest_root f n = of_value f x v X.value P in
    let under : R < 2 ^ (low f + suc (emax f)) = lt_of_le_of_lt (result_le f n X.m (X.j + low f) X.small is-v large) (in_range_lem f v X.bounded) in
    let value : HasValue r false R L = subst (λ (z : Float). HasValue z false R L) (sym (is ∙ nearest_units f n)) (units_val f false (kept_root n (dropped f n)) (dropped f n) under) in
    record {
      held = subst (λ (z : Float). T (fits f z)) (sym is) (nearest_fits f n);
      not_negative = value_unsigned r R L value;
      others =
          λ y fy uy.
          let Y = value_units f y fy uy in
          to_fractions (num x) (den x) (num r * den y) (num y * den r) (den r * den y) L v R (Y.m * 2 ^ Y.j) (pow_pos (low f)) (den_pos x) (mul-pos (den_pos r) (den_pos y))
          (value→cross x v L X.value)
          (mul_right_comm (num r) (den y) L ∙ ap (λ (z : ℕ). z * den y) (value→cross r R L value) ∙ mul_assoc R (den r) (den y))
          (mul_right_comm (num y) (den r) L ∙ ap (λ (z : ℕ). z * den r) (value→cross y (Y.m * 2 ^ Y.j) L Y.value) ∙ mul_assoc (Y.m * 2 ^ Y.j) (den y) (den r) ∙ ap (λ (z : ℕ). Y.m * 2 ^ Y.j * z) (mul_comm (den y) (den r)))
          (units_above f n X.m (X.j + low f) X.small is-v large Y.m Y.j Y.small)
          (units_below f n X.m (X.j + low f) X.small is-v large Y.m Y.j Y.small);
    }

-- ---- and there is only one
same_value : (f : Format) (r s : Float) → T (fits f r) → T (fits f s) → T (unsigned r) → T (unsigned s) → num r * den s ≡ num s * den r → r ≡ s
unfolding to_bits
same_value f nan s a b c d e = absurd c
same_value f (inf t) s a b c d e = absurd c
same_value f (fin true m g) s a b c d e = absurd c
same_value f (fin false m g) nan a b c d e = absurd d
same_value f (fin false m g) (inf t) a b c d e = absurd d
same_value f (fin false m g) (fin true k h) a b c d e = absurd d
same_value f (fin false m g) (fin false k h) a b c d e =
    let L = 2 ^ low f in
    let w : m * up g * L / down g ≡ k * up h * L / down h =
    div_same (m * up g * L) (down g) (k * up h * L) (down h) (down_pos g) (down_pos h) (mul_right_comm (m * up g) L (down h) ∙ ap (λ (z : ℕ). z * L) e ∙ mul_right_comm (k * up h) (down g) L) in
    sym (of_bits-to_bits f (fin false m g) a) ∙ ap (λ (n : ℕ). of_bits f (0 + (size n - prec f) * hid f + n / 2 ^ (size n - prec f))) w ∙ of_bits-to_bits f (fin false k h) b

-- two numbers that each hold the other to be farther are one
pub nearest_unique : (f : Format) (x r s : Float) → Nearest f x r → Nearest f x s → r ≡ s
nearest_unique f x r s p q =
    let a = num r * den s in
    let b = num s * den r in
    let far = p.others s q.held q.not_negative in
    let raf = subst (λ (d : ℕ). Beyond (num x) (den x) b a d) (mul_comm (den s) (den r)) (q.others r p.held p.not_negative) in
    let sums : (b + a) * (b + a) * den x ≡ (a + b) * (a + b) * den x = ap (λ (z : ℕ). z * z * den x) (add_comm b a) in
    same_value f r s p.held q.held p.not_negative q.not_negative
    (only a b (λ l. lt_irrefl _ (lt_of_lt_of_le (far.0 l) (le_trans (le_of_eq (sym sums)) (le_of_lt (raf.1 l))))) (λ l. lt_irrefl _ (lt_of_lt_of_le (far.1 l) (le_trans (le_of_lt (raf.0 l)) (le_of_eq sums)))))
  where
    only : (a b : ℕ) → (a < b → ⊥) → (b < a → ⊥) → a ≡ b
    only a b f g = let h = f in let k = g in omega arith

-- so `root_of` is the correctly rounded root, whatever its text
pub root_only : (f : Format) (x r : Float) → T (fits f x) → T (positive x) → Nearest f x r → r ≡ root_of f x
root_only f x r fx px p = nearest_unique f x r (root_of f x) p (root_nearest f x fx px)
