-- edge.rs: usable_range and analytic_segments. Definitions only.
use Rattle.std.specs.Prelude.{Bool, true, false, cond, not, ◌&&◌, ◌||◌, max, Float, Option, Some, None, ℕ}
use Rattle.std.specs.Float.Ieee.{lt, le}
use Rattle.std.specs.Float.Ieee.Scale.{finite}
use Rattle.arith.specs.Notation.{◌⊕◌, ◌⊖◌, ◌⊗◌, ◌⊘◌, plus_zero}
use Rattle.arith.specs.Constants.{billion, billionth}
use Rattle.arith.specs.Pick.{abs_of, min_of, max_of}
use Rattle.math.specs.declared.Interval.{Interval}
use Rattle.math.specs.Math.{interval, span_of}
use Rattle.brep.specs.Tree.{CurveTree, analytic, line, circle, ellipse, parabola, hyperbola, polyline, trimmed, composite}
use Rattle.curve.specs.Eval.{natural_range, period}
use Rattle.options.specs.declared.Mode.{Mode}
use Rattle.options.specs.declared.Mode.TheVariants.{Reference, Strict}
use Rattle.options.specs.declared.Resolved.{Resolved}
use Rattle.options.specs.Options.{segments_for_arc}

-- ---- usable_range
-- the curve's own range, where that spans under 1e9
unfoldable pub own_range : Interval → Option Interval
own_range natural =
    cond (finite (span_of natural) && lt (abs_of (span_of natural)) billion) (Some natural) None

-- the edge's range, clamped to the curve's own with a slack of 1e-9 of its span at each end
unfoldable pub clamped_to_domain : Interval → Interval → Interval
clamped_to_domain natural range =
    let slack = abs_of (span_of natural) ⊗ billionth in
    interval (max_of range.lo (natural.lo ⊖ slack)) (min_of range.hi (natural.hi ⊕ slack))

-- the edge's range as it is where the curve is periodic, and may run past its own; else clamped
unfoldable pub within_domain : Option Float → Interval → Interval → Interval
within_domain (Some p) natural range = range
within_domain None natural range = clamped_to_domain natural range

-- an edge's range is no range where it is not finite, empty or reversed
abbrev pub is_no_range : Interval → Bool
is_no_range range = not (finite range.lo) || (not (finite range.hi) || le (span_of range) plus_zero)

-- usable_range: the edge's range within the curve's domain; where it is no range the curve's own, if that is short enough, or none
unfoldable pub usable_range : CurveTree → Interval → Option Interval
usable_range c range =
    cond (is_no_range range) (own_range (natural_range c)) (Some (within_domain (period c) (natural_range c) range))

-- ---- strict mode: a curve that has no domain
-- a parabola or a hyperbola, which runs on for ever: the two million units of its natural range are no real domain. A trim of one has its
-- own range, and a composite runs from 0 to n
unfoldable pub is_open_conic : CurveTree → Bool
is_open_conic (analytic (line o d)) = false
is_open_conic (analytic (circle f radius)) = false
is_open_conic (analytic (ellipse f major minor)) = false
is_open_conic (analytic (parabola f d)) = true
is_open_conic (analytic (hyperbola f a b)) = true
is_open_conic (polyline ps) = false
is_open_conic (trimmed base own) = false
is_open_conic (composite ss) = false

-- in strict mode such a curve, if the edge's range is none, is not drawn over its natural range
unfoldable pub has_no_domain : Mode → CurveTree → Interval → Bool
has_no_domain Reference c range = false
has_no_domain Strict c range = is_open_conic c && is_no_range range

-- ---- analytic_segments
-- b * b / a, the radius of the tightest curvature, where a is above zero; the radius that an ellipse is sampled for
unfoldable pub ellipse_radius : Float → Float → Float
ellipse_radius major minor =
    let a = max_of (abs_of major) (abs_of minor) in
    let b = min_of (abs_of major) (abs_of minor) in
    max_of (cond (lt plus_zero a) (b ⊗ b ⊘ a) plus_zero) b

-- analytic_segments: how many segments a line, a circle or an ellipse is sampled in, or a trim of one; none is known of other curves
unfoldable pub analytic_segments : CurveTree → Interval → Resolved → Option ℕ
analytic_segments (analytic (line o d)) range r = Some (max r.segments 1)
analytic_segments (analytic (circle f radius)) range r = Some (segments_for_arc r radius (span_of range))
analytic_segments (analytic (ellipse f major minor)) range r = Some (segments_for_arc r (ellipse_radius major minor) (span_of range))
analytic_segments (analytic (parabola f d)) range r = None
analytic_segments (analytic (hyperbola f a b)) range r = None
analytic_segments (polyline ps) range r = None
analytic_segments (trimmed base own) range r = analytic_segments base range r
analytic_segments (composite ss) range r = None
