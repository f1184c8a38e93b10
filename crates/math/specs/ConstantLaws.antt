-- The constants that are no whole numbers are the roundings of 1 / 10, 1 / 1,000,000 and 1 / 2 to binary32. Assumes nothing.
use Rattle.std.specs.Prelude.{◌≡◌, false, refl}
use Rattle.std.specs.Float.{binary32}
use Rattle.std.specs.Float.Ieee.{round, of_bits}
use Rattle.math.specs.Constants.{half, tenth, tiny}

pub tenth_rounded : tenth ≡ round binary32 false 1 10
unfolding round of_bits
tenth_rounded = refl

pub tiny_rounded : tiny ≡ round binary32 false 1 1_000_000
unfolding round of_bits
tiny_rounded = refl

pub half_rounded : half ≡ round binary32 false 1 2
unfolding round of_bits
half_rounded = refl
