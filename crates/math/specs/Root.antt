-- The square root of IEEE 754, rounded to nearest, in natural numbers, in either format. Definitions only.
-- What it must be is said in `Rooted`, without these definitions; that it is that, and the only one, is `root_ieee` and `root_ieee_only` of `proofs/RootLaws.antt`. Above this crate it is `root`, shut.
use Rattle.std.specs.Prelude.{ℕ, zero, suc, ◌+◌, ◌*◌, ◌/◌, ◌^◌, ◌<◌, ◌≤◌, true, false, cond, ◌==◌, nat_le, Float}
use Rattle.std.specs.Float.{nan, inf, fin, Format, binary32}
use Rattle.std.specs.Float.Ieee.{low, up, down, size, round}

-- r is the root of n, cut to a whole number
abbrev pub IsRoot : ℕ → ℕ → Type 0
IsRoot n r = (r * r ≤ n) × (n < (r + 1) * (r + 1))

-- r is the whole number nearest to the root of n, which is above 0: n lies between the squares of r - 1 / 2 and r + 1 / 2, and on neither, since they are not whole
abbrev pub IsNearest : ℕ → ℕ → Type 0
IsNearest n r = (r * r < n + r) × (n ≤ r * r + r)

-- r + b where its square is at most n, and r otherwise
abbrev pub raised : ℕ → ℕ → ℕ → ℕ
raised n r b = cond (nat_le ((r + b) * (r + b)) n) (r + b) r

-- r with the root's k lowest digits found, from the highest of them down
unfoldable pub digits : ℕ → ℕ → ℕ → ℕ
digits n zero r = r
digits n (suc k) r = digits n k (raised n r (2 ^ k))

-- the one number r with `IsRoot n r` (`floor_root_is`, `root_unique` of `proofs/RootedLaws.antt`)
unfoldable pub floor_root : ℕ → ℕ
unfolding digits
floor_root n = digits n (size n) 0

-- 0 where r is the whole root of n, and 1 where something is left
abbrev pub sticky : ℕ → ℕ → ℕ
sticky n r = cond (r * r == n) 0 1

-- The value of the format f nearest to the root of n, in units of f's smallest value, 2 ^ -low.
-- With r its whole part, the root is r where nothing is left, and else it lies between r and r + 1. It is handed to `round` as r or r + 1 / 2:
-- the format keeps fewer digits than r has, so no number halfway between two of its values lies strictly between r and r + 1.
unfoldable pub nearest_root : Format → ℕ → Float
unfolding floor_root round
nearest_root f n = let r = floor_root n in round f false (2 * r + sticky n r) (2 ^ suc (low f))

-- A root of a zero is that zero, and a negative number has none. m * 2 ^ e is n units of 2 ^ -(low + low), so its root is the root of n in units of 2 ^ -low.
unfoldable pub root_of : Format → Float → Float
unfolding nearest_root
root_of f nan = nan
root_of f (inf s) = cond s nan (inf false)
root_of f (fin s zero e) = fin s zero e
root_of f (fin true (suc m) e) = nan
root_of f (fin false (suc m) e) = nearest_root f (suc m * up e * (2 ^ low f * 2 ^ low f) / down e)

-- at binary32
unfoldable pub root : Float → Float
root x = root_of binary32 x
