-- thin_breaks of knots.rs. Definitions only.
use Rattle.std.specs.Prelude.{true, false, List, [], ◌∷◌, Float}
use Rattle.std.specs.Float.Ieee.{lt}
use Rattle.arith.specs.Notation.{plus_zero}

-- breaks.get(i + 1).copied().unwrap_or(hi), of the breaks after the i-th
abbrev pub next_of : Float → List Float → Float
next_of hi [] = hi
next_of hi (b ∷ bs) = b

-- its loop, from start on: a break stays where the chord from start to the break after it leaves the curve by more than sag
unfoldable pub thinned_from : (Float → Float → Float) → Float → Float → Float → List Float → List Float
thinned_from deviation sag hi start [] = []
thinned_from deviation sag hi start (b ∷ bs) =
    elim (lt sag (deviation start (next_of hi bs))) [
      | true ↦ b ∷ thinned_from deviation sag hi b bs
      | false ↦ thinned_from deviation sag hi start bs
    ]

-- thin_breaks: all of them where !(sag > 0.0)
unfoldable pub thin_breaks : List Float → Float → Float → Float → (Float → Float → Float) → List Float
thin_breaks breaks lo hi sag deviation =
    elim (lt plus_zero sag) [
      | true ↦ thinned_from deviation sag hi lo breaks
      | false ↦ breaks
    ]
