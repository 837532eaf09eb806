-- That floats are binary64, as those of a lent slice of f64 are. Definitions only.
use Rattle.std.specs.Prelude.{List, ℕ, get_or, T, Float}
use Rattle.std.specs.Float.{nan, binary64}
use Rattle.std.specs.Float.Ieee.{fits}

-- each float of a list is a binary64
abbrev pub AllBinary64 : List Float → Type 0
AllBinary64 l = (i : ℕ) → T (fits binary64 (get_or l i nan))
