-- The breaks that are kept, in a buffer. Definitions only.
use Rattle.std.specs.Prelude.{List, ℕ, Float, Option}
use Rattle.brep.specs.Tree.{CurveTree}
use Rattle.curve.specs.Eval.{point_at}
use Rattle.knots.specs.Knots.{deviation}
use Rattle.knots.specs.Own.Gathered.{knots_counted, buffer_after}
use Rattle.knots_thin.specs.Thin.{kept_breaks}
use Rattle.options.specs.declared.Mode.{Mode}

-- deviation(&|t| curve.point_at(t), a, b)
abbrev pub curve_deviation : CurveTree → Float → Float → Float
curve_deviation curve a b = deviation (point_at curve) a b

-- how many are kept, where the curve's knots fit a buffer of so many floats
abbrev pub kept_answer : ℕ → Mode → CurveTree → Float → Float → Float → Option ℕ
kept_answer room mode curve lo hi sag = knots_counted room curve (kept_breaks mode curve lo hi sag)

-- the buffer after them
abbrev pub kept_after : List Float → Mode → CurveTree → Float → Float → Float → List Float
kept_after buffer mode curve lo hi sag = buffer_after buffer curve (kept_breaks mode curve lo hi sag)
