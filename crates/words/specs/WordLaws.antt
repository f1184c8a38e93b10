-- What is read from words fits: every float is one of 32 bits. Assumes nothing.
use Rattle.std.specs.Prelude.{ℕ, ◌+◌, List, get_or}
use Rattle.math.specs.Fit.{FitFloat, FitVec3, FitQuat}
use Rattle.math.specs.FitLaws.{bits_fit}
use Rattle.words.specs.Words.{float_at, vec3_at, quat_at}

pub read_fits : (xs : List ℕ) (at : ℕ) → FitFloat (float_at xs at)
read_fits xs at = bits_fit (get_or xs at 0)

pub vec3_fits : (xs : List ℕ) (at : ℕ) → FitVec3 (vec3_at xs at)
vec3_fits xs at = record { x = read_fits xs at; y = read_fits xs (at + 1); z = read_fits xs (at + 2) }

pub quat_fits : (xs : List ℕ) (at : ℕ) → FitQuat (quat_at xs at)
quat_fits xs at = record { x = read_fits xs at; y = read_fits xs (at + 1); z = read_fits xs (at + 2); w = read_fits xs (at + 3) }
