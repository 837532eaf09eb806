-- What can be sorted. Definitions only.
use Rattle.std.specs.Prelude.{ℕ, T, Float}
use Rattle.arith_order.specs.Own.Number.{number}

-- the most floats that are sorted, and so the most knots of a curve: two a segment
abbrev pub most_knots : ℕ
most_knots = 8192

-- not a NaN
abbrev pub Number : Float → Type 0
Number x = T (number x)
