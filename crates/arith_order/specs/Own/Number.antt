-- A float that is a number. Definitions only.
use Rattle.std.specs.Prelude.{Bool, true, false, Float}
use Rattle.std.specs.Float.{nan, inf, fin}

-- not a NaN: finite, or an infinity
abbrev pub number : Float → Bool
number nan = false
number (inf s) = true
number (fin s m e) = true
