-- eval/curve.rs: ranges, closure, period and sampling, by recursion on the curve, as the Rust's `match`; its parameters and points are
-- those of curve_parameter and curve_point. Definitions only.
use Rattle.std.specs.Prelude.{Bool, true, false, cond, ◌&&◌, ℕ, ◌-◌, length, Float, Option, Some, None}
use Rattle.std.specs.Float.Ieee.{neg, lt}
use Rattle.std.specs.Float.Ieee.Scale.{finite}
use Rattle.arith.specs.Notation.{◌⊖◌, bits, count, plus_zero}
use Rattle.arith.specs.Constants.{million, trillion, billionth}
use Rattle.arith.specs.Pick.{abs_of}
use Rattle.math.specs.declared.Interval.{Interval}
use Rattle.math.specs.Math.{interval, span_of}
use Rattle.brep.specs.Tree.{CurveTree, analytic, line, circle, ellipse, parabola, hyperbola, polyline, trimmed, composite}
pub use Rattle.curve_parameter.specs.Run.{index_in, clamped_to, segment_index, segment_local}
unfoldable pub use Rattle.curve_parameter.specs.Run.{run_length, closes, polyline_parameter, own_parameter}
pub use Rattle.curve_point.specs.Point.{along_from}
unfoldable pub use Rattle.curve_point.specs.Point.{polyline_point, axes_point, parabola_point, point_at, segment_point}

-- 2π, a full turn (`full_turn` in proofs/Laws.antt)
abbrev pub tau : Float
tau = bits 0x401921FB54442D18

-- the range of a polyline of n points
abbrev pub polyline_range : ℕ → Interval
polyline_range n = interval plus_zero (count (n - 1))

-- Curve::natural_range: a line's is ±1e12, a parabola's and a hyperbola's ±1e6
unfoldable pub natural_range : CurveTree → Interval
natural_range (analytic (line o d)) = interval (neg trillion) trillion
natural_range (analytic (circle f r)) = interval plus_zero tau
natural_range (analytic (ellipse f a b)) = interval plus_zero tau
natural_range (analytic (parabola f d)) = interval (neg million) million
natural_range (analytic (hyperbola f a b)) = interval (neg million) million
natural_range (polyline ps) = polyline_range (length ps)
natural_range (trimmed base range) = range
natural_range (composite ss) = interval plus_zero (count (run_length ss))

-- a trim's span is within 1e-9 of its base's own
abbrev pub spans_agree : Interval → Interval → Bool
spans_agree range own = lt (abs_of (abs_of (span_of range) ⊖ span_of own)) billionth

-- Curve::is_closed: a trim of a closed curve is, if its span is the curve's own
unfoldable pub is_closed : CurveTree → Bool
is_closed (analytic (line o d)) = false
is_closed (analytic (circle f r)) = true
is_closed (analytic (ellipse f a b)) = true
is_closed (analytic (parabola f d)) = false
is_closed (analytic (hyperbola f a b)) = false
is_closed (polyline ps) = closes ps
is_closed (trimmed base range) = is_closed base && spans_agree range (natural_range base)
is_closed (composite ss) = false

-- a period of this span, where it is above zero and finite
unfoldable pub every_span : Float → Option Float
every_span span = cond (lt plus_zero span && finite span) (Some span) None

-- Curve::period: what the parameter of a closed curve repeats by
unfoldable pub period : CurveTree → Option Float
period (analytic (line o d)) = None
period (analytic (circle f r)) = Some tau
period (analytic (ellipse f a b)) = Some tau
period (analytic (parabola f d)) = None
period (analytic (hyperbola f a b)) = None
period (polyline ps) = cond (closes ps) (every_span (span_of (natural_range (polyline ps)))) None
period (trimmed base range) = period base
period (composite ss) = None

-- is_sampled of edge.rs: a polyline, or a trim of one
unfoldable pub is_sampled : CurveTree → Bool
is_sampled (analytic c) = false
is_sampled (polyline ps) = true
is_sampled (trimmed base range) = is_sampled base
is_sampled (composite ss) = false
