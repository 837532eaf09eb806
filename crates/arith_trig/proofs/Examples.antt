-- Values of the definitions, by computation; each was also got by another program in double precision. Assumes nothing.
use Rattle.std.proofs.Common.{◌≡◌, refl}
use lib.Ieee.{add, sub, mul, div, neg, eq, lt, of_bits, of_int}
use Rattle.arith.specs.Floor.{floor_of}
use Rattle.arith.specs.Notation.{bits}
use Rattle.arith_root.specs.Root.{root_of}
use Rattle.arith_trig.specs.Trig.{sin_of, cos_of, quarter, horner_steps, sin_kernel, cos_kernel, sin_by, cos_by, halved, summed, arc_of, angle_of, acos_by, acos_of}

-- sin of 0.0, -0.0, 0.5, 2, 3.5, 5, -1, 1e9: each quarter turn, and one below zero
sin-values :
    (sin_of (bits 0x0000000000000000) ≡ bits 0x0000000000000000)
    × (sin_of (bits 0x8000000000000000) ≡ bits 0x8000000000000000)
    × (sin_of (bits 0x3FE0000000000000) ≡ bits 0x3FDEAEE8744B05F0)
    × (sin_of (bits 0x4000000000000000) ≡ bits 0x3FED18F6EAD1B446)
    × (sin_of (bits 0x400C000000000000) ≡ bits 0xBFD6733B7EBA621F)
    × (sin_of (bits 0x4014000000000000) ≡ bits 0xBFEEAF81F5E09933)
    × (sin_of (bits 0xBFF0000000000000) ≡ bits 0xBFEAED548F090CEE)
    × (sin_of (bits 0x41CDCD6500000000) ≡ bits 0x3FE1778CC7A6BFCE)
unfolding sin_of cos_of quarter horner_steps sin_kernel cos_kernel sin_by cos_by floor_of add sub mul div neg of_bits of_int
sin-values = (refl, refl, refl, refl, refl, refl, refl, refl)

-- cos of the same
cos-values :
    (cos_of (bits 0x0000000000000000) ≡ bits 0x3FF0000000000000)
    × (cos_of (bits 0x8000000000000000) ≡ bits 0x3FF0000000000000)
    × (cos_of (bits 0x3FE0000000000000) ≡ bits 0x3FEC1528065B7D50)
    × (cos_of (bits 0x4000000000000000) ≡ bits 0xBFDAA22657537205)
    × (cos_of (bits 0x400C000000000000) ≡ bits 0xBFEDF77403C11A5F)
    × (cos_of (bits 0x4014000000000000) ≡ bits 0x3FD22785706B4ADA)
    × (cos_of (bits 0xBFF0000000000000) ≡ bits 0x3FE14A280FB5068C)
    × (cos_of (bits 0x41CDCD6500000000) ≡ bits 0x3FEACFF8B6D62E44)
unfolding sin_of cos_of quarter horner_steps sin_kernel cos_kernel sin_by cos_by floor_of add sub mul div neg of_bits of_int
cos-values = (refl, refl, refl, refl, refl, refl, refl, refl)

-- acos of 1, -1, 0, 0.5, -0.5, 2
acos-values :
    (acos_of (bits 0x3FF0000000000000) ≡ bits 0x0000000000000000)
    × (acos_of (bits 0xBFF0000000000000) ≡ bits 0x400921FB54442D18)
    × (acos_of (bits 0x0000000000000000) ≡ bits 0x3FF921FB54442D18)
    × (acos_of (bits 0x3FE0000000000000) ≡ bits 0x3FF0C152382D7366)
    × (acos_of (bits 0xBFE0000000000000) ≡ bits 0x4000C152382D7364)
    × (acos_of (bits 0x4000000000000000) ≡ bits 0x7FF8000000000000)
unfolding acos_of acos_by angle_of halved summed arc_of root_of add sub mul div neg eq lt of_bits of_int
acos-values = (refl, refl, refl, refl, refl, refl)
