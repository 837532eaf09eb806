-- Values of the definitions, by computation; each was also got by another program in double precision. Assumes nothing.
use mathlib.Core.Path.{◌≡◌, refl}
use lib.Ieee.{add, sub, mul, div, neg, of_bits, of_int, to_unsigned}
use Rattle.arith.specs.Floor.{floor_of}
use Rattle.arith.specs.Notation.{bits}
use Rattle.arith_exp.specs.Exp.{exp_steps, series, power_of_two, exp_of, cosh_of, sinh_of}

-- e^t of 0.0, -0.0, 1, -1, 0.5, half of ln 2, 100, -100
exp-values :
    (exp_of (bits 0x0000000000000000) ≡ bits 0x3FF0000000000000)
    × (exp_of (bits 0x8000000000000000) ≡ bits 0x3FF0000000000000)
    × (exp_of (bits 0x3FF0000000000000) ≡ bits 0x4005BF0A8B14576A)
    × (exp_of (bits 0xBFF0000000000000) ≡ bits 0x3FD78B56362CEF38)
    × (exp_of (bits 0x3FE0000000000000) ≡ bits 0x3FFA61298E1E069C)
    × (exp_of (bits 0x3FD62E42FEFA39EF) ≡ bits 0x3FF6A09E667F3BCC)
    × (exp_of (bits 0x4059000000000000) ≡ bits 0x48F3494A9B171BF5)
    × (exp_of (bits 0xC059000000000000) ≡ bits 0x36EA8C1F14E2AF5D)
unfolding exp_of series exp_steps power_of_two floor_of to_unsigned add sub mul div neg of_bits of_int
exp-values = (refl, refl, refl, refl, refl, refl, refl, refl)

-- cosh and sinh of -0.0, 1, -1, 10, 100
cosh-values :
    (cosh_of (bits 0x8000000000000000) ≡ bits 0x3FF0000000000000)
    × (cosh_of (bits 0x3FF0000000000000) ≡ bits 0x3FF8B07551D9F551)
    × (cosh_of (bits 0xBFF0000000000000) ≡ bits 0x3FF8B07551D9F551)
    × (cosh_of (bits 0x4024000000000000) ≡ bits 0x40C5829DD053712E)
    × (cosh_of (bits 0x4059000000000000) ≡ bits 0x48E3494A9B171BF5)
unfolding cosh_of exp_of series exp_steps power_of_two floor_of to_unsigned add sub mul div neg of_bits of_int
cosh-values = (refl, refl, refl, refl, refl)

sinh-values :
    (sinh_of (bits 0x8000000000000000) ≡ bits 0x0000000000000000)
    × (sinh_of (bits 0x3FF0000000000000) ≡ bits 0x3FF2CD9FC44EB983)
    × (sinh_of (bits 0xBFF0000000000000) ≡ bits 0xBFF2CD9FC44EB983)
    × (sinh_of (bits 0x4024000000000000) ≡ bits 0x40C5829DCED69992)
    × (sinh_of (bits 0x4059000000000000) ≡ bits 0x48E3494A9B171BF5)
unfolding sinh_of exp_of series exp_steps power_of_two floor_of to_unsigned add sub mul div neg of_bits of_int
sinh-values = (refl, refl, refl, refl, refl)
