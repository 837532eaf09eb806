-- abs, min, max and clamp. Definitions only.
use Rattle.std.specs.Prelude.{false, cond, ◌||◌, is_nan, Float}
use Rattle.std.specs.Float.{nan, inf, fin}
use Rattle.std.specs.Float.Ieee.{lt}

-- f64::abs: the sign taken off
abbrev pub abs_of : Float → Float
abs_of nan = nan
abs_of (inf s) = inf false
abs_of (fin s m e) = fin false m e

-- f64::min and f64::max: the first where the two are equal, as zeros of either sign are, and the other one where one is NaN
abbrev pub min_of : Float → Float → Float
min_of a b = cond (lt b a || is_nan a) b a

abbrev pub max_of : Float → Float → Float
max_of a b = cond (lt a b || is_nan a) b a

-- f64::clamp: lower where x is strictly below it, upper where x is strictly above it, and else x. So a NaN passes, and so does -0.0 where lower is 0.0
abbrev pub clamp_of : Float → Float → Float → Float
clamp_of x lower upper = cond (lt x lower) lower (cond (lt upper x) upper x)
