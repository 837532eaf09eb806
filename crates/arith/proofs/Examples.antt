-- Values of the definitions, by computation; each was also got by another program in double precision. Assumes nothing.
use Rattle.std.proofs.Common.{◌≡◌, refl}
use lib.Ieee.{lt, neg, is_nan, of_bits, of_int}
use Rattle.arith.specs.Pick.{abs_of, min_of, max_of, clamp_of}
use Rattle.arith.specs.Floor.{floor_of, ceil_of}
use Rattle.arith.specs.Notation.{bits}

-- abs of -0.0, -infinity, NaN, -1.5
abs-values :
    (abs_of (bits 0x8000000000000000) ≡ bits 0x0000000000000000)
    × (abs_of (bits 0xFFF0000000000000) ≡ bits 0x7FF0000000000000)
    × (abs_of (bits 0x7FF8000000000000) ≡ bits 0x7FF8000000000000)
    × (abs_of (bits 0xBFF8000000000000) ≡ bits 0x3FF8000000000000)
unfolding of_bits
abs-values = (refl, refl, refl, refl)

-- min of 0.0 and -0.0, -0.0 and 0.0, NaN and 1, 1 and NaN, 2 and -3
min-values :
    (min_of (bits 0x0000000000000000) (bits 0x8000000000000000) ≡ bits 0x0000000000000000)
    × (min_of (bits 0x8000000000000000) (bits 0x0000000000000000) ≡ bits 0x8000000000000000)
    × (min_of (bits 0x7FF8000000000000) (bits 0x3FF0000000000000) ≡ bits 0x3FF0000000000000)
    × (min_of (bits 0x3FF0000000000000) (bits 0x7FF8000000000000) ≡ bits 0x3FF0000000000000)
    × (min_of (bits 0x4000000000000000) (bits 0xC008000000000000) ≡ bits 0xC008000000000000)
unfolding lt is_nan of_bits
min-values = (refl, refl, refl, refl, refl)

-- max of the same
max-values :
    (max_of (bits 0x0000000000000000) (bits 0x8000000000000000) ≡ bits 0x0000000000000000)
    × (max_of (bits 0x8000000000000000) (bits 0x0000000000000000) ≡ bits 0x8000000000000000)
    × (max_of (bits 0x7FF8000000000000) (bits 0x3FF0000000000000) ≡ bits 0x3FF0000000000000)
    × (max_of (bits 0x3FF0000000000000) (bits 0x7FF8000000000000) ≡ bits 0x3FF0000000000000)
    × (max_of (bits 0x4000000000000000) (bits 0xC008000000000000) ≡ bits 0x4000000000000000)
unfolding lt is_nan of_bits
max-values = (refl, refl, refl, refl, refl)

-- clamp of -0.0 to 0..1, NaN to 0..1, 2 to 0..1, -infinity to -1..1, 5 to NaN..NaN
clamp-values :
    (clamp_of (bits 0x8000000000000000) (bits 0x0000000000000000) (bits 0x3FF0000000000000) ≡ bits 0x8000000000000000)
    × (clamp_of (bits 0x7FF8000000000000) (bits 0x0000000000000000) (bits 0x3FF0000000000000) ≡ bits 0x7FF8000000000000)
    × (clamp_of (bits 0x4000000000000000) (bits 0x0000000000000000) (bits 0x3FF0000000000000) ≡ bits 0x3FF0000000000000)
    × (clamp_of (bits 0xFFF0000000000000) (bits 0xBFF0000000000000) (bits 0x3FF0000000000000) ≡ bits 0xBFF0000000000000)
    × (clamp_of (bits 0x4014000000000000) (bits 0x7FF8000000000000) (bits 0x7FF8000000000000) ≡ bits 0x4014000000000000)
unfolding lt of_bits
clamp-values = (refl, refl, refl, refl, refl)

-- floor of -0.0, 0.5, -0.5, -1.5, 2^52 - 0.5, -(2^52 - 0.5), -infinity
floor-values :
    (floor_of (bits 0x8000000000000000) ≡ bits 0x8000000000000000)
    × (floor_of (bits 0x3FE0000000000000) ≡ bits 0x0000000000000000)
    × (floor_of (bits 0xBFE0000000000000) ≡ bits 0xBFF0000000000000)
    × (floor_of (bits 0xBFF8000000000000) ≡ bits 0xC000000000000000)
    × (floor_of (bits 0x432FFFFFFFFFFFFF) ≡ bits 0x432FFFFFFFFFFFFE)
    × (floor_of (bits 0xC32FFFFFFFFFFFFF) ≡ bits 0xC330000000000000)
    × (floor_of (bits 0xFFF0000000000000) ≡ bits 0xFFF0000000000000)
unfolding floor_of of_bits of_int
floor-values = (refl, refl, refl, refl, refl, refl, refl)

-- ceil of -0.5, 1.5, -2
ceil-values :
    (ceil_of (bits 0xBFE0000000000000) ≡ bits 0x8000000000000000)
    × (ceil_of (bits 0x3FF8000000000000) ≡ bits 0x4000000000000000)
    × (ceil_of (bits 0xC000000000000000) ≡ bits 0xC000000000000000)
unfolding floor_of neg of_bits of_int
ceil-values = (refl, refl, refl)
