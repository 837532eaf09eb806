-- The square root of IEEE 754 in its own terms: of all binary64 the one nearest to √x. `root`'s contract has it beside the root over whole
-- numbers (`Root`). Definitions only.
-- A unit is 2 ^ -1074, the least positive binary64, so every finite binary64 is a whole number of units. And 0.0 is `fin false 0 (pos 0)`.
use Rattle.std.specs.Prelude.{◌≡◌, ℕ, ◌+◌, ◌*◌, ◌^◌, ◌<◌, false, T, pos, Float}
use Rattle.std.specs.Float.{nan, inf, fin, binary64}
use Rattle.std.specs.Float.Ieee.{fits, lt, eq}
use Rattle.std.specs.Float.Ieee.Exact.{HasValue}

-- x is a units: it is finite, has no minus sign, and its value is a / 2 ^ 1074
abbrev pub Units : Float → ℕ → Type 0
Units x a = HasValue x false a (2 ^ 1074)

-- Of all binary64, r is nearest to √x, for an x of n units. Of two numbers the lower is nearer to √x where √x is below their midpoint, and
-- the upper where it is above. So r is nearest if for any y above r, √x is below the midpoint (r + y) / 2, and for any y below r, above it.
-- With r of a units and y of b, x against the square of that midpoint is n * 2 ^ 1076 against (a + b)². A y below zero is farther than 0.0.
-- Both sides are strict, so √x is never a midpoint, and the rule for ties (to even) never applies. Why: √x is never subnormal, and the midpoint
-- of two neighbours is a power of two times an odd number of 54 digits, whose square is odd and has 107 digits or more; a binary64 has 53.
pub record Nearest (n : ℕ) (r : Float) : Type 0 where
  -- r is a binary64, of a units
  pub a : ℕ
  pub value : Units r a
  pub format : T (fits binary64 r)
  -- √x is below the midpoint to any binary64 above r
  pub above : (y : Float) (b : ℕ) → T (fits binary64 y) → Units y b → a < b → n * 2 ^ 1076 < (a + b) * (a + b)
  -- and above the midpoint to any binary64 below r
  pub below : (y : Float) (b : ℕ) → T (fits binary64 y) → Units y b → b < a → (a + b) * (a + b) < n * 2 ^ 1076

-- r is the IEEE 754 square root of x
pub record SquareRoot (x r : Float) : Type 0 where
  -- NaN gives NaN
  pub of_nan : x ≡ nan → r ≡ nan
  -- +∞ gives +∞
  pub of_infinity : x ≡ inf false → r ≡ inf false
  -- what is below zero gives NaN, -∞ too
  pub of_negative : T (lt x (fin false 0 (pos 0))) → r ≡ nan
  -- 0.0 gives 0.0, and -0.0, which equals it, gives -0.0
  pub of_zero : T (eq x (fin false 0 (pos 0))) → r ≡ x
  -- what is above zero and below +∞ is a whole number of units, and gives the nearest binary64 to its root
  pub of_positive : T (lt (fin false 0 (pos 0)) x) → T (lt x (inf false)) → (n : ℕ) × Units x n × Nearest n r
