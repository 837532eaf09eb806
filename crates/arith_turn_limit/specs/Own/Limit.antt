-- A limit for angles, with a cut on either side beyond which no arc cosine is taken. Definitions only.
use Rattle.std.specs.Prelude.{◌≡◌, Bool, true, false, cond, ◌&&◌, Float}
use Rattle.std.specs.Float.Ieee.{le, lt}
use Rattle.arith.specs.Notation.{◌⊕◌, ◌⊖◌, ◌⊗◌, ◌⊘◌, bits, count, plus_zero, half, one, two}
use Rattle.arith_trig.specs.Trig.{acos_of}
use Rattle.arith_root_limit.specs.Own.Limit.{cut_if, square_if}

-- the square of the tangent of half the angle whose cosine is a
abbrev pub tangent_square : Float → Float
tangent_square a = (one ⊖ a) ⊘ (one ⊕ a)

-- twice a tangent, which no angle is above whose half has it: a tangent is above its angle
abbrev pub twice_tangent : Float → Float
twice_tangent y = count 16 ⊗ (y ⊘ two ⊘ two ⊘ two)

-- the square of half the limit; it serves where the bound there is within the limit, and the half at most 1
unfoldable pub turn_cut : Float → Float
turn_cut limit = let k = limit ⊗ half in cut_if (le k one) (square_if (le (twice_tangent k) limit) k)

-- below the cut every angle of a cosine above zero is within the limit
pub record Serves (cut limit : Float) : Type 0 where
  pub within : (a : Float) → lt plus_zero a ≡ true → le plus_zero (tangent_square a) ≡ true → lt (tangent_square a) cut ≡ true
      → le (acos_of a) limit ≡ true

-- a halving divides a tangent up to 1/4 by at most this, 2.03125
abbrev pub first_divisor : Float
first_divisor = bits 0x4000400000000000

-- one up to 1/8 by at most this, 2.0078125
abbrev pub second_divisor : Float
second_divisor = bits 0x4000100000000000

-- one up to 1/16 by at most this, 2.001953125
abbrev pub third_divisor : Float
third_divisor = bits 0x4000040000000000

-- and one up to 1/32 by at most this, 2.00048828125
abbrev pub fourth_divisor : Float
fourth_divisor = bits 0x4000010000000000

-- the series of what is left of 1/4 is at least this, 0.9995
abbrev pub least_series : Float
least_series = bits 0x3FEFFBE76C8B4396

-- and that of 1/8 at least this, 0.9999
abbrev pub fine_series : Float
fine_series = bits 0x3FEFFF2E48E8A71E

-- the least turn at a tangent y: three halvings that divide by at most a, b and c, and the series of what is left
abbrev pub turn_by : Float → Float → Float → Float → Float → Float
turn_by y a b c series = count 16 ⊗ (y ⊘ a ⊘ b ⊘ c ⊗ series)

-- what no angle is below whose half has a tangent from y to a quarter: 1.958 times y
abbrev pub least_turn : Float → Float
least_turn y = turn_by y first_divisor second_divisor third_divisor least_series

-- and from y to an eighth: 1.989 times y
abbrev pub fine_turn : Float → Float
fine_turn y = turn_by y second_divisor third_divisor fourth_divisor fine_series

-- a little above a half, 0.5115: the least turn at a tangent y is 1.9587 y, and 1 / 1.9587 is 0.5106
abbrev pub over_half : Float
over_half = bits 0x3FE05E353F7CED91

-- and for the fine turn, 0.5027: it is 1.9896 y, and 1 / 1.9896 is 0.50262
abbrev pub fine_half : Float
fine_half = bits 0x3FE0161E4F765FD9

-- 0.368, which every angle is above whose half has a tangent above a quarter
abbrev pub largest_limit : Float
largest_limit = bits 0x3FD78D4FDF3B645A

-- 0.2448, which every angle is above whose half has a tangent above an eighth
abbrev pub fine_limit : Float
fine_limit = bits 0x3FCF559B3D07C84B

-- the square of a tangent at which the fine turn, or for a greater limit the least turn, is above the limit
unfoldable pub over_cut : Float → Float
over_cut limit =
    cond (lt limit fine_limit)
    (square_if (lt limit (fine_turn (limit ⊗ fine_half))) (limit ⊗ fine_half))
    (cut_if (lt limit largest_limit) (square_if (lt limit (least_turn (limit ⊗ over_half))) (limit ⊗ over_half)))

-- the cosine of an angle, with the square of the tangent of its half above the cut
abbrev pub is_over : Float → Float → Bool
is_over a cut = lt cut (tangent_square a)

-- a little above a quarter, 0.2555: twice the least turn at a tangent y is 3.9174 y, and 1 / 3.9174 is 0.2553
abbrev pub over_quarter : Float
over_quarter = bits 0x3FD05A1CAC083127

-- the cosine of an angle, with half of one less it, which the square of the tangent of half the angle is not below, above the square of a
-- tangent at which twice the least turn is above the limit
abbrev pub is_double_over : Float → Float → Bool
is_double_over a limit =
    let y = limit ⊗ over_quarter in
    le plus_zero a
    && (lt a one && (lt plus_zero y && (lt limit (two ⊗ largest_limit) && (lt limit (two ⊗ least_turn y) && lt (y ⊗ y) ((one ⊖ a) ⊘ two)))))

-- above the cut every angle is above the limit
pub record Exceeds (cut limit : Float) : Type 0 where
  pub above : (a : Float) → is_over a cut ≡ true → le (acos_of a) limit ≡ false
