-- Which parameters a curve may not be asked for: those at which eval/curve.rs would ask a hyperbola for one beyond 100 in magnitude.
-- Definitions only.
use Rattle.std.specs.Prelude.{Bool, false, ◌||◌, ℕ, zero, suc, Float}
use Rattle.std.specs.Float.Ieee.{lt, neg}
use Rattle.arith.specs.Notation.{count}
use Rattle.brep.specs.Tree.{CurveTree, analytic, line, circle, ellipse, parabola, hyperbola, polyline, trimmed, composite, Segments, none, segment}
use Rattle.curve_parameter.specs.Run.{run_length, segment_index, segment_local, own_parameter}

-- the farthest parameter that a hyperbola may be asked for
abbrev pub farthest : Float
farthest = count 100

-- beyond it in magnitude; a NaN is not
unfoldable pub is_far : Float → Bool
is_far t = lt farthest t || lt t (neg farthest)

-- Curve::point_at and Curve::derivative_at at t ask a hyperbola for a parameter that is too far. Both ask for the same parameters
unfoldable mutual
  pub asks_far : CurveTree → Float → Bool
  asks_far (analytic (line o d)) t = false
  asks_far (analytic (circle f r)) t = false
  asks_far (analytic (ellipse f a b)) t = false
  asks_far (analytic (parabola f d)) t = false
  asks_far (analytic (hyperbola f a b)) t = is_far t
  asks_far (polyline ps) t = false
  asks_far (trimmed base range) t = asks_far base t
  asks_far (composite ss) t = segment_asks_far ss (segment_index (run_length ss) t) (segment_local (run_length ss) t)

  -- composite_at: segment i's curve is asked at its own parameter
  pub segment_asks_far : Segments → ℕ → Float → Bool
  segment_asks_far none i local = false
  segment_asks_far (segment curve range same rest) zero local = asks_far curve (own_parameter range same local)
  segment_asks_far (segment curve range same rest) (suc i) local = segment_asks_far rest i local
