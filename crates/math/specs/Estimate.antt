-- What `root` is found from: an estimate in floats, and the whole numbers that correct it. Definitions only.
-- What a root is does not depend on them (`Root`, `Rooted`); any other estimate would be corrected to the same.
use Rattle.std.specs.Prelude.{ℕ, ◌+◌, ◌-◌, ◌*◌, ◌/◌, ◌%◌, ◌^◌, ◌<◌, ◌≤◌, cond, from_bits, nat_le, nat_lt, to_bits, Float}
use Rattle.std.specs.Float.{binary32}
use Rattle.std.specs.Float.Ieee.{add, mul, div}

-- Heron's step: the mean of y and x / y, but for the factor, which is a half or a little less
abbrev heron : Float → Float → Float → Float
heron factor x y = mul binary32 (add binary32 y (div binary32 x y)) factor

-- The estimate of the root of the number with pattern b: half of b halves the exponent. The factors are 0.49985 and 0.5, by their bits.
unfoldable pub estimate : ℕ → Float
estimate b =
    let x = from_bits binary32 b in
    heron (from_bits binary32 0x3f00_0000) x (heron (from_bits binary32 0x3eff_ec57) x (from_bits binary32 (b / 2 + 0x1fbb_4f2e)))

-- a less e, in 32 bits
abbrev pub less : ℕ → ℕ → ℕ
less a e = (a + (2 ^ 32 - e)) % 2 ^ 32

-- the exponent's part of the root's pattern, one short: the first of the 24 digits, which are added, makes it up
abbrev pub exponent : ℕ → ℕ
exponent b = (b / 2 ^ 23 + 125) / 2 * 2 ^ 23

-- at most 2 ^ 24, which 24 digits do not reach
abbrev pub held : ℕ → ℕ
held g = cond (nat_le g (2 ^ 24)) g (2 ^ 24)

-- the guess of the root's digits. Of it the root's proof uses only that it is held (`guess_le`).
unfoldable pub guess : ℕ → ℕ
guess b = held (less (to_bits binary32 (estimate b)) (exponent b))

-- one step from the guess g towards the whole number nearest to the root of m
abbrev pub stepped : ℕ → ℕ → ℕ
stepped m g = cond (nat_lt (g * g + g) m) (g + 1) (cond (nat_le (m + g) (g * g)) (g - 1) g)

-- the pattern of a normal number above 0
abbrev pub IsNormal : ℕ → Type 0
IsNormal b = (2 ^ 23 ≤ b) × (b < 0x7f80_0000)

-- the 24 digits of a normal number
abbrev pub leading : ℕ → ℕ
leading b = b % 2 ^ 23 + 2 ^ 23

-- and these, moved up by 23 places or 24, so that what is left of the exponent is even: the whole number nearest to its root has the 24 digits of the number's root
abbrev pub squared : ℕ → ℕ
squared b = leading b * 2 ^ (24 - b / 2 ^ 23 % 2)
