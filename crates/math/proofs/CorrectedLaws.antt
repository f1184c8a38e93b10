-- The whole number nearest to a root: on which side of it a guess is, what one step makes of the guess, how many more there can be,
-- and how the number is had from the root of four times m, cut to a whole number. Assumes nothing.
use Rattle.std.proofs.Common.{◌≡◌, ℕ, zero, suc, ◌+◌, ◌-◌, ◌*◌, ◌/◌, ◌^◌, ◌<◌, ◌≤◌, Bool, true, false, cond, not, T, ltb, leb, sym, refl, ap, ◌∙◌, subst, le_trans, le_of_eq, lt_of_le_of_lt, le_of_lt, add_assoc, lt_irrefl, suc-mul, add-mul, lt_of_not-le, mul-suc, mul-add, add-one, arith, ltb→lt, leb→le, nltb→le}
use mir.Val.{bool_byte}
use lib.Ieee.{binary32, to_bits}
use lib.Dec.{nleb→lt}
use Rattle.math.specs.Root.{IsRoot, IsNearest, floor_root}
use Rattle.math.specs.Estimate.{estimate, less, exponent, held, guess, stepped}
use Rattle.math.proofs.RootedLaws.{sq_mono, sq_lt, floor_root_is}

-- ---- squares
next_square : (a : ℕ) → suc a * suc a ≡ a * a + (a + suc a)
next_square a = suc-mul a (suc a) ∙ ap (λ (z : ℕ). z + suc a) (mul-suc a a) ∙ add_assoc (a * a) a (suc a)

double_square : (a : ℕ) → (a + a) * (a + a) ≡ 4 * (a * a)
double_square a = let e : (a + a) * (a + a) ≡ (a * a + a * a) + (a * a + a * a) = add-mul a a (a + a) ∙ ap (λ (z : ℕ). z + z) (mul-add a a a) in omega arith

odd_square : (a : ℕ) → suc (a + a) * suc (a + a) ≡ 4 * (a * a + a) + 1
odd_square a = let e = next_square (a + a) in let d = double_square a in omega arith

-- ---- a guess
pub held_is : (g r : ℕ) → (2 ^ 24 < g → r ≡ 2 ^ 24) → (g ≤ 2 ^ 24 → r ≡ g) → r ≡ held g
held_is g r over under = go (leb g (2 ^ 24)) (leb→le g (2 ^ 24)) (nleb→lt g (2 ^ 24))
  where
    go : (b : Bool) → (T b → g ≤ 2 ^ 24) → (T (not b) → 2 ^ 24 < g) → r ≡ cond b g (2 ^ 24)
    go true f h = under (f tt)
    go false f h = over (h tt)

held_le : (g : ℕ) → held g ≤ 2 ^ 24
held_le g = go (leb g (2 ^ 24)) (leb→le g (2 ^ 24))
  where
    go : (b : Bool) → (T b → g ≤ 2 ^ 24) → cond b g (2 ^ 24) ≤ 2 ^ 24
    go true f = f tt
    go false f = le_of_eq refl

pub guess_le : (b : ℕ) → guess b ≤ 2 ^ 24
unfolding guess
guess_le b = held_le (less (to_bits binary32 (estimate b)) (exponent b))

-- the square of a guess is far below 2 ^ 64
pub square_le : (q : ℕ) → q ≤ 2 ^ 24 → q * q ≤ 2 ^ 48
square_le q h = le_trans (sq_mono h) (le_of_eq refl)

-- ---- the correction of q towards the root of m
-- downwards, q is above 0
pub room_below : (m q : ℕ) → 0 < m → m + q ≤ q * q → 0 < q
room_below m zero M h = absurd (omega (arith, M, h))
room_below m (suc p) M h = omega arith

-- upwards, q stays at most 2 ^ 24, and one more is still not too large
pub room_above : (m q : ℕ) → m < 2 ^ 48 → q * q + q ≤ m → q < 2 ^ 24
room_above m q M h = sq_lt q (2 ^ 24) (omega (arith, M, h))

pub rises : (m q : ℕ) → q * q + q < m → (q + 1) * (q + 1) < m + (q + 1)
rises m q h = let e = next_square q in subst (λ (z : ℕ). z * z < m + z) (sym (add-one q)) (omega (arith, h))

pub stepped_le : (m g : ℕ) → m < 2 ^ 48 → g ≤ 2 ^ 24 → stepped m g ≤ 2 ^ 24
stepped_le m g M G = go (ltb (g * g + g) m) (leb (m + g) (g * g)) (ltb→lt (g * g + g) m)
  where
    go : (a b : Bool) → (T a → g * g + g < m) → cond a (g + 1) (cond b (g - 1) g) ≤ 2 ^ 24
    go true b f = let h = room_above m g M (le_of_lt (f tt)) in omega arith
    go false true f = omega arith
    go false false f = G

-- a step without a branch: the tests are added and taken away as numbers
pub step_is : (m g : ℕ) → (g + bool_byte (ltb (g * g + g) m)) - bool_byte (leb (m + g) (g * g)) ≡ stepped m g
step_is m g = go (ltb (g * g + g) m) (leb (m + g) (g * g)) (ltb→lt (g * g + g) m) (leb→le (m + g) (g * g))
  where
    go : (a b : Bool) → (T a → g * g + g < m) → (T b → m + g ≤ g * g) → (g + bool_byte a) - bool_byte b ≡ cond a (g + 1) (cond b (g - 1) g)
    go true true f h = absurd (omega (arith, f tt, h tt))
    go true false f h = omega arith
    go false true f h = omega arith
    go false false f h = omega arith

-- what is added is at most one, and what is taken away is no more than there is
pub byte_le : (b : Bool) → bool_byte b ≤ 1
byte_le true = omega arith
byte_le false = omega arith

pub step_room : (m g : ℕ) → 0 < m → bool_byte (leb (m + g) (g * g)) ≤ g + bool_byte (ltb (g * g + g) m)
step_room m g M = go (leb (m + g) (g * g)) (leb→le (m + g) (g * g))
  where
    go : (b : Bool) → (T b → m + g ≤ g * g) → bool_byte b ≤ g + bool_byte (ltb (g * g + g) m)
    go true h = let p = room_below m g M (h tt) in omega arith
    go false h = omega arith

-- ---- the root of 4 * n, cut to a whole number, is twice the nearest or one less
pub nearest_half : (n q N : ℕ) → IsNearest n q → IsRoot (4 * n) N → (N + 1) / 2 ≡ q
nearest_half n zero N near root = absurd (omega (arith, near.0, near.1))
nearest_half n (suc p) N near root =
    let e = next_square p in
    let at_most : N < suc (suc p + suc p) = let o = odd_square (suc p) in sq_lt N (suc (suc p + suc p)) (lt_of_le_of_lt root.0 (omega (arith, near.1))) in
    let at_least : suc (p + p) < N + 1 = let o = odd_square p in sq_lt (suc (p + p)) (N + 1) (lt_of_le_of_lt {m = 4 * n} (omega (arith, near.0)) root.1) in
    omega arith

-- ---- how far there is to go: the number that is looked for, and on which side of it q is
abbrev pub nearest_whole : ℕ → ℕ
nearest_whole m = (floor_root (4 * m) + 1) / 2

pub still_below : (m q : ℕ) → q * q + q < m → q < nearest_whole m
still_below m q h =
    let N = floor_root (4 * m) in
    let o = odd_square q in
    let less : suc (q + q) < N + 1 = sq_lt (suc (q + q)) (N + 1) (lt_of_le_of_lt {m = 4 * m} (omega (arith, h)) (floor_root_is (4 * m)).1) in
    omega arith

pub still_above : (m q : ℕ) → 0 < m → m + q ≤ q * q → nearest_whole m < q
still_above m zero M h = absurd (omega (arith, M, h))
still_above m (suc p) M h =
    let N = floor_root (4 * m) in
    let e = next_square p in
    let o = odd_square p in
    let less : N < suc (p + p) = sq_lt N (suc (p + p)) (lt_of_le_of_lt (floor_root_is (4 * m)).0 (omega (arith, h))) in
    omega arith

-- it is the nearest: on neither side of itself
nearest_is : (m : ℕ) → 0 < m → IsNearest m (nearest_whole m)
nearest_is m M =
    let q = nearest_whole m in
    let not_below : q * q + q < m → ⊥ = λ h. lt_irrefl q (still_below m q h) in
    (lt_of_not-le (λ (h : m + q ≤ q * q). lt_irrefl q (still_above m q M h)), omega (arith, not_below))

whole_le : (m : ℕ) → m < 2 ^ 48 → nearest_whole m ≤ 2 ^ 24
whole_le m M = let h : floor_root (4 * m) < 2 ^ 25 = sq_lt (floor_root (4 * m)) (2 ^ 25) (lt_of_le_of_lt (floor_root_is (4 * m)).0 (omega (arith, M))) in omega arith

-- ---- how often the loops are passed through, each pass bringing q one nearer: never more than 2 ^ 24 times
pub passes_le : (m g : ℕ) → m < 2 ^ 48 → g ≤ 2 ^ 24 → (stepped m g - nearest_whole m ≤ 2 ^ 24) × (nearest_whole m - stepped m g ≤ 2 ^ 24)
passes_le m g M G = let s = stepped_le m g M G in let w = whole_le m M in (omega arith, omega arith)

-- and not at all from a guess that is at most one off: its one step leads to the number, where both tests fail
step_enough : (m g : ℕ) → 0 < m → nearest_whole m ≤ g + 1 → g ≤ nearest_whole m + 1 → stepped m g ≡ nearest_whole m
step_enough m g M lo hi = go (ltb (g * g + g) m) (leb (m + g) (g * g)) (ltb→lt (g * g + g) m) (nltb→le (g * g + g) m) (leb→le (m + g) (g * g)) (nleb→lt (m + g) (g * g))
  where
    go : (a b : Bool) → (T a → g * g + g < m) → (T (not a) → m ≤ g * g + g) → (T b → m + g ≤ g * g) → (T (not b) → g * g < m + g) → cond a (g + 1) (cond b (g - 1) g) ≡ nearest_whole m
    go true b up u down d = let h = still_below m g (up tt) in omega arith
    go false true up u down d = let h = still_above m g M (down tt) in omega arith
    go false false up u down d = sym (nearest_half m g (floor_root (4 * m)) (d tt, u tt) (floor_root_is (4 * m)))

pub no_pass : (m g : ℕ) → 0 < m → nearest_whole m ≤ g + 1 → g ≤ nearest_whole m + 1 → IsNearest m (stepped m g)
no_pass m g M lo hi = subst (IsNearest m) (sym (step_enough m g M lo hi)) (nearest_is m M)
