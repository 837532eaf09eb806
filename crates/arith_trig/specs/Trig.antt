-- sin, cos and acos in fixed steps, every operation rounded once. Definitions only.
-- Where t is NaN or an infinity, so is k, r is NaN, and so are sin and cos. The steps are the same for every other t. Measured, not proved: up to
-- 6e6 in magnitude they were within 1.6e-16 of the sine and the cosine, at 1e9 within 6e-8 (absolute: near a zero of the
-- sine that is many units in the last place); beyond about 1e15 what is left of t is no longer small, and what they give is neither, but still
-- one fixed float.
use Rattle.std.specs.Prelude.{ℕ, zero, suc, ◌-◌, ◌*◌, ◌/◌, ◌%◌, true, false, cond, List, [], ◌∷◌, Float}
use Rattle.std.specs.Float.{nan, inf, fin}
use Rattle.std.specs.Float.Ieee.{up, down, eq, lt, neg}
use Rattle.arith.specs.Notation.{◌⊕◌, ◌⊖◌, ◌⊗◌, ◌⊘◌, bits, count, plus_zero, one}
use Rattle.arith.specs.Periods.{periods, left_over}
use Rattle.arith_root.specs.Root.{root_of}

-- 2 / π, and π / 2 in two parts
abbrev pub two_over_pi : Float
two_over_pi = bits 0x3FE45F306DC9C883

abbrev pub half_pi_high : Float
half_pi_high = bits 0x3FF921FB54400000

abbrev pub half_pi_low : Float
half_pi_low = bits 0x3DD0B4611A626331

-- π
abbrev pub pi : Float
pi = bits 0x400921FB54442D18

-- k: the quarter turns in t, to the nearest
abbrev pub turns : Float → Float
turns t = periods t two_over_pi

-- r: what is left of t after k quarter turns
abbrev pub reduced : Float → Float → Float
reduced t k = left_over t k half_pi_high half_pi_low

-- k mod 4 of a whole k, from 0 to 3 for a k below zero too; 0 where k is NaN or an infinity
unfoldable pub quarter : Float → ℕ
quarter nan = 0
quarter (inf s) = 0
quarter (fin false m e) = m * up e / down e % 4
quarter (fin true m e) = (4 - m * up e / down e % 4) % 4

-- one step of a series: 1 - (z / d) * w
abbrev pub step : Float → Float → Float → Float
step z d w = one ⊖ z ⊘ d ⊗ w

-- such a step for each d of the list in turn
unfoldable pub horner_steps : Float → Float → List ℕ → Float
horner_steps z w [] = w
horner_steps z w (d ∷ ds) = horner_steps z (step z (count d) w) ds

-- the sine kernel S and the cosine kernel C
unfoldable pub sin_kernel : Float → Float
sin_kernel r = r ⊗ horner_steps (r ⊗ r) one (272 ∷ 210 ∷ 156 ∷ 110 ∷ 72 ∷ 42 ∷ 20 ∷ 6 ∷ [])

unfoldable pub cos_kernel : Float → Float
cos_kernel r = horner_steps (r ⊗ r) one (240 ∷ 182 ∷ 132 ∷ 90 ∷ 56 ∷ 30 ∷ 12 ∷ 2 ∷ [])

-- by k mod 4: S, C, -S, -C for the sine
unfoldable pub sin_by : ℕ → Float → Float
sin_by zero r = sin_kernel r
sin_by (suc zero) r = cos_kernel r
sin_by (suc (suc zero)) r = neg (sin_kernel r)
sin_by (suc (suc (suc q))) r = neg (cos_kernel r)

-- C, -S, -C, S for the cosine
unfoldable pub cos_by : ℕ → Float → Float
cos_by zero r = cos_kernel r
cos_by (suc zero) r = neg (sin_kernel r)
cos_by (suc (suc zero)) r = neg (cos_kernel r)
cos_by (suc (suc (suc q))) r = sin_kernel r

-- f64::sin, f64::cos, f64::sin_cos
unfoldable pub sin_of : Float → Float
sin_of t = sin_by (quarter (turns t)) (reduced t (turns t))

unfoldable pub cos_of : Float → Float
cos_of t = cos_by (quarter (turns t)) (reduced t (turns t))

-- y becomes y / (1 + root(1 + y * y)): the tangent of half the angle
unfoldable pub halved : Float → Float
halved y = y ⊘ (one ⊕ root_of (one ⊕ y ⊗ y))

-- for each d of the list in turn: v = 1/d - z * v
unfoldable pub summed : Float → Float → List ℕ → Float
summed z v [] = v
summed z v (d ∷ ds) = summed z (one ⊘ count d ⊖ z ⊗ v) ds

-- 16 * (y * v)
unfoldable pub arc_of : Float → Float
arc_of y = count 16 ⊗ (y ⊗ summed (y ⊗ y) (one ⊘ count 15) (13 ∷ 11 ∷ 9 ∷ 7 ∷ 5 ∷ 3 ∷ 1 ∷ []))

-- twice the angle whose tangent is y: three halvings, then sixteen times what is left
unfoldable pub angle_of : Float → Float
angle_of y = arc_of (halved (halved (halved y)))

-- the same, with y turned over where it is above 1
unfoldable pub acos_by : Float → Float
acos_by y = cond (lt one y) (pi ⊖ angle_of (one ⊘ y)) (angle_of y)

-- f64::acos: 1 gives 0, -1 gives π; NaN for a NaN and for what is no cosine
unfoldable pub acos_of : Float → Float
acos_of a = cond (eq a one) plus_zero (cond (eq a (neg one)) pi (acos_by (root_of ((one ⊖ a) ⊘ (one ⊕ a)))))
