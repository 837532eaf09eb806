-- The two ways in which a list of floats can run. Definitions only.
use Rattle.std.specs.Prelude.{T, Float}
use Rattle.std.specs.Float.Ieee.{le}

-- a is at most b; a is at least b
abbrev pub Up : Float → Float → Type 0
Up a b = T (le a b)

abbrev pub Down : Float → Float → Type 0
Down a b = T (le b a)
