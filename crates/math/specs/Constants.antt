-- The constants that the rules name, by their bits. Definitions only.
use Rattle.std.specs.Prelude.{ℕ, from_bits, Float}
use Rattle.std.specs.Float.{binary32}

-- the float of a bit pattern
abbrev pub bits : ℕ → Float
bits n = from_bits binary32 n

abbrev pub zero_f : Float
zero_f = bits 0

abbrev pub half : Float
half = bits 0x3f00_0000

abbrev pub one : Float
one = bits 0x3f80_0000

abbrev pub two : Float
two = bits 0x4000_0000

-- 0.1 and 1e-6, as f32 has them
abbrev pub tenth : Float
tenth = bits 0x3dcc_cccd

abbrev pub tiny : Float
tiny = bits 0x3586_37bd

-- f32's largest and lowest finite numbers
abbrev pub largest : Float
largest = bits 0x7f7f_ffff

abbrev pub lowest : Float
lowest = bits 0xff7f_ffff
