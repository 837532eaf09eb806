-- thin_breaks of knots.rs, of a curve's own point. Definitions only.
use Rattle.std.specs.Prelude.{true, false, List, [], ◌∷◌, ◌++◌, Float}
use Rattle.std.specs.Float.Ieee.{lt}
use Rattle.arith.specs.Notation.{plus_zero}
use Rattle.knots_inside.specs.Thinned.{next_of, thin_breaks}
use Rattle.brep.specs.Tree.{CurveTree}
use Rattle.curve.specs.Eval.{point_at}
use Rattle.knots.specs.Knots.{inner_parameter, deviation}
use Rattle.knots_breaks.specs.Breaks.{breaks_in}
use Rattle.options.specs.declared.Mode.{Mode}

-- thin_breaks(breaks, lo, hi, sag, &|t| curve.point_at(t))
abbrev pub curve_thinned : CurveTree → List Float → Float → Float → Float → List Float
curve_thinned curve breaks lo hi sag = thin_breaks breaks lo hi sag (deviation (point_at curve))

-- the breaks that sampling starts from, in a mode: thin_breaks of curve_breaks, or of strict mode's breaks
abbrev pub kept_breaks : Mode → CurveTree → Float → Float → Float → List Float
kept_breaks mode curve lo hi sag = curve_thinned curve (breaks_in mode curve lo hi) lo hi sag

-- ---- what it asks the curve for
-- the parameters of deviation's points: both ends of a span, and three between them
abbrev pub deviation_asks : Float → Float → List Float
deviation_asks a b = a ∷ b ∷ inner_parameter a b 1 ∷ inner_parameter a b 2 ∷ inner_parameter a b 3 ∷ []

-- those of the loop of thin_breaks, from start on
unfoldable pub thin_asks : (Float → Float → Float) → Float → Float → Float → List Float → List Float
thin_asks deviation sag hi start [] = []
thin_asks deviation sag hi start (b ∷ bs) =
    deviation_asks start (next_of hi bs) ++ elim (lt sag (deviation start (next_of hi bs))) [
      | true ↦ thin_asks deviation sag hi b bs
      | false ↦ thin_asks deviation sag hi start bs
    ]

-- those of thin_breaks: none where !(sag > 0.0)
unfoldable pub thinning_asks : CurveTree → List Float → Float → Float → Float → List Float
thinning_asks curve breaks lo hi sag =
    elim (lt plus_zero sag) [
      | true ↦ thin_asks (deviation (point_at curve)) sag hi lo breaks
      | false ↦ []
    ]

-- of the breaks that sampling starts from
abbrev pub break_asks : Mode → CurveTree → Float → Float → Float → List Float
break_asks mode curve lo hi sag = thinning_asks curve (breaks_in mode curve lo hi) lo hi sag
