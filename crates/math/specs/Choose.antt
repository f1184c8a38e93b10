-- The larger and the smaller of two floats. Definitions only; callers use the laws of `ChooseLaws`.
use Rattle.std.specs.Prelude.{cond, is_nan, Float}
use Rattle.std.specs.Float.Ieee.{lt}

-- b where a is a NaN or below b; else a. So a where b is a NaN, and where they are equal, as -0 and +0 are.
unfoldable pub maximum : Float → Float → Float
maximum a b = cond (is_nan a) b (cond (lt a b) b a)

unfoldable pub minimum : Float → Float → Float
minimum a b = cond (is_nan a) b (cond (lt b a) b a)
