-- The definition at work: zeros of two signs are equal and keep their order. Assumes nothing.
use mathlib.Core.Path.{◌≡◌, refl}
use mathlib.Core.List.{[], ◌∷◌}
use lib.Ieee.{binary64, of_bits, lt}
use Rattle.knots_sort.specs.Sort.{inserted, sorted}

-- 2.0, 0.0, -0.0, 1.0
stable : sorted (of_bits binary64 0x4000000000000000 ∷ of_bits binary64 0 ∷ of_bits binary64 0x8000000000000000 ∷ of_bits binary64 0x3FF0000000000000 ∷ [])
    ≡ of_bits binary64 0 ∷ of_bits binary64 0x8000000000000000 ∷ of_bits binary64 0x3FF0000000000000 ∷ of_bits binary64 0x4000000000000000 ∷ []
unfolding sorted inserted lt of_bits
stable = refl
