-- IEEE 754's squareRoot with roundTiesToEven at binary32, said for every input and without the code of any root. Definitions only.
-- That `root` of `Root` is it, and that nothing else is, are `root_ieee` and `root_ieee_only` of `proofs/RootLaws.antt`.
use Rattle.std.specs.Prelude.{◌≡◌, ℕ, ◌+◌, ◌*◌, ◌<◌, Bool, true, false, not, T, pos, Float}
use Rattle.std.specs.Float.{nan, inf, fin, Format, binary32}
use Rattle.std.specs.Float.Ieee.{lt, fits}
use Rattle.std.specs.Float.Ieee.Positive.{num, den, positive}

-- ---- the nearest value to a root
-- a number that is not negative, and no infinity
abbrev pub unsigned : Float → Bool
unsigned nan = false
unsigned (inf s) = false
unsigned (fin s m e) = not s

-- With x = v / w, r = a / d and y = b / d: where y is above r, the root of x is below (r + y) / 2, and where y is below r, the root is above that.
-- Either way y is farther from the root than r. There are no real numbers here, so it is said of the squares: 4 * x < (r + y) ^ 2, or the other way round, and the denominators are multiplied out.
abbrev pub Beyond : ℕ → ℕ → ℕ → ℕ → ℕ → Type 0
Beyond v w a b d = (a < b → 4 * v * (d * d) < (a + b) * (a + b) * w) × (b < a → (a + b) * (a + b) * w < 4 * v * (d * d))

-- y is the same number as r, or farther than r from the root of x, for x, r and y that are finite and not negative
abbrev pub Farther : Float → Float → Float → Type 0
Farther x r y = Beyond (num x) (den x) (num r * den y) (num y * den r) (den r * den y)

-- r is the value of the format f that is nearest to the root of x: it is finite and not negative, and each other such value is farther.
-- So there is no tie for roundTiesToEven to break, and a negative value is farther too, since +0 is.
pub record Nearest (f : Format) (x r : Float) : Type 0 where
  pub held : T (fits f r)
  pub not_negative : T (unsigned r)
  pub others : (y : Float) → T (fits f y) → T (unsigned y) → Farther x r y

-- ---- squareRoot
abbrev pub plus_zero : Float
plus_zero = fin false 0 (pos 0)

abbrev pub minus_zero : Float
minus_zero = fin true 0 (pos 0)

-- g is squareRoot. Every value of binary32 is under one clause: a NaN, a zero, below zero, +infinity, or finite and above zero (`positive`).
pub record RootIs (g : Float → Float) : Type 0 where
  pub of_nan : g nan ≡ nan
  pub of_plus_zero : g plus_zero ≡ plus_zero
  pub of_minus_zero : g minus_zero ≡ minus_zero
  -- -infinity is one of them
  pub of_negative : (x : Float) → lt x plus_zero ≡ true → g x ≡ nan
  pub of_infinity : g (inf false) ≡ inf false
  pub of_positive : (x : Float) → T (fits binary32 x) → T (positive x) → Nearest binary32 x (g x)
