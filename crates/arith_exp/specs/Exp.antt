-- e^t, cosh and sinh in fixed steps, every operation rounded once. Definitions only.
-- Where t is NaN or an infinity, r is NaN, and so are all three. The steps are the same for every other t, but that 2^k is 0 below -1022 and the
-- infinity above 1023. No answer of drawing rests on a t beyond 100 in magnitude: within it k is within 145 of 0, and 2^k exact (Claims).
use Rattle.std.specs.Prelude.{List, [], ◌∷◌, ℕ, ◌*◌, ◌^◌, min, Float}
use Rattle.std.specs.Float.Ieee.{neg, to_unsigned}
use Rattle.arith.specs.Notation.{◌⊕◌, ◌⊖◌, ◌⊗◌, ◌⊘◌, bits, count, half, one}
use Rattle.arith.specs.Periods.{periods, left_over}

-- 1 / ln 2, and ln 2 in two parts
abbrev pub per_doubling : Float
per_doubling = bits 0x3FF71547652B82FE

abbrev pub ln2_high : Float
ln2_high = bits 0x3FE62E42FEE00000

abbrev pub ln2_low : Float
ln2_low = bits 0x3DEA39EF35793C76

-- k: how often 1 is doubled on the way to e^t, to the nearest
abbrev pub doublings : Float → Float
doublings t = periods t per_doubling

-- r: what is left of t after k times ln 2
abbrev pub exp_reduced : Float → Float → Float
exp_reduced t k = left_over t k ln2_high ln2_low

-- one step of the series: 1 + (r / d) * w
abbrev pub exp_step : Float → Float → Float → Float
exp_step r d w = one ⊕ r ⊘ d ⊗ w

-- such a step for each d of the list in turn
unfoldable pub exp_steps : Float → Float → List ℕ → Float
exp_steps r w [] = w
exp_steps r w (d ∷ ds) = exp_steps r (exp_step r (count d) w) ds

-- from w = 1, for d = 16 down to 1
unfoldable pub series : Float → Float
series r = exp_steps r one (16 ∷ 15 ∷ 14 ∷ 13 ∷ 12 ∷ 11 ∷ 10 ∷ 9 ∷ 8 ∷ 7 ∷ 6 ∷ 5 ∷ 4 ∷ 3 ∷ 2 ∷ 1 ∷ [])

-- 2^k of a whole k, by the field of its exponent, k + 1023; 0 where that is below 1, the infinity where it is above 2046
unfoldable pub power_of_two : Float → Float
power_of_two k = bits (min (to_unsigned 64 (k ⊕ count 1023)) 2047 * 2 ^ 52)

-- f64::exp
unfoldable pub exp_of : Float → Float
exp_of t = series (exp_reduced t (doublings t)) ⊗ power_of_two (doublings t)

-- f64::cosh
unfoldable pub cosh_of : Float → Float
cosh_of t = (exp_of t ⊕ exp_of (neg t)) ⊗ half

-- f64::sinh
unfoldable pub sinh_of : Float → Float
sinh_of t = (exp_of t ⊖ exp_of (neg t)) ⊗ half
