-- 100.0 and -100.0 as the code has them. Assumes nothing.
use mathlib.Core.Path.{◌≡◌, refl}
use lib.Ieee.{of_bits, of_int, neg}
use Rattle.arith.specs.Notation.{bits}
use Rattle.curve_asks.specs.Asks.{farthest}

pub hundred : bits 0x4059000000000000 ≡ farthest
unfolding of_bits of_int
hundred = refl

pub minus_hundred : bits 0xC059000000000000 ≡ neg farthest
unfolding of_bits of_int neg
minus_hundred = refl
