-- A buffer that a list is written into. Definitions only.
use Rattle.std.specs.Prelude.{List, ◌++◌, ℕ, ◌-◌, length, replicate, Float}
use Rattle.std.specs.Float.{binary64}
use Rattle.std.specs.Float.Ieee.{of_bits}

-- n places: the list, then the value
abbrev pub padded : {E : Type 0} → ℕ → E → List E → List E
padded n value l = l ++ replicate (n - length l) value

-- l, then +0.0 up to n floats
abbrev pub filled : ℕ → List Float → List Float
filled n l = padded n (of_bits binary64 0) l
