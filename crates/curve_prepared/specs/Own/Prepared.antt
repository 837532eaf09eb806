-- A curve prepared for many points, and its points and derivatives: laws beside it say that they are those of eval/curve.rs.
-- Definitions only.
use Rattle.std.specs.Prelude.{Bool, true, false, List, ℕ, ◌+◌, ◌*◌, get_or, Float}
use Rattle.std.specs.Float.{nan}
use Rattle.arith.specs.Notation.{plus_zero}
use Rattle.arith_trig.specs.Trig.{sin_of, cos_of}
use Rattle.arith_exp.specs.Exp.{cosh_of, sinh_of}
use Rattle.math.specs.declared.Vec3.{Vec3}
use Rattle.math.specs.declared.Frame.{Frame}
use Rattle.math.specs.Math.{vec, v_add, v_scale, y_dir}
use Rattle.brep.specs.Rows.{frame_of}
use Rattle.brep.specs.Tree.{CurveTree, analytic, line, circle, ellipse, parabola, hyperbola, polyline, trimmed, composite}
use Rattle.curve_parameter.specs.Run.{closes}
use Rattle.curve_point.specs.Point.{axes_point, parabola_point, point_at}
use Rattle.curve_tangent.specs.Derivative.{ellipse_derivative, parabola_derivative, hyperbola_derivative, derivative_at}
use Rattle.curve_prepared.specs.declared.Prepared.{Prepared}
use Rattle.curve_prepared.specs.declared.Prepared.TheVariants.{Line, Round, Parabola, Other}

-- an ellipse, or a circle as one of equal axes, with its frame's second axis worked out
abbrev pub round_of : Frame → Float → Float → Prepared
round_of f major minor = Round f.origin f.ref_dir (y_dir f) major minor

-- a parabola, likewise
abbrev pub parabola_of : Frame → Float → Prepared
parabola_of f focal = Parabola f.origin f.ref_dir (y_dir f) focal

-- trims taken off; a polyline, a composite or a hyperbola, the rarest, stays to be looked up, and of a polyline it is known whether it is closed
unfoldable pub prepared_of : CurveTree → Prepared
prepared_of (analytic (line origin direction)) = Line origin direction
prepared_of (analytic (circle f r)) = round_of f r r
prepared_of (analytic (ellipse f major minor)) = round_of f major minor
prepared_of (analytic (parabola f focal)) = parabola_of f focal
prepared_of (analytic (hyperbola f major minor)) = Other false
prepared_of (polyline points) = Other (closes points)
prepared_of (trimmed base range) = prepared_of base
prepared_of (composite segments) = Other false

-- a line as it is; of any other, no more than that it is none
unfoldable pub line_only : Prepared → Prepared
line_only (Line origin direction) = Line origin direction
line_only (Round origin x y major minor) = Other false
line_only (Parabola origin x y focal) = Other false
line_only (Other closed) = Other false

-- a hyperbola's derivative, of its row's numbers
unfoldable pub hyperbola_slope : List Float → List ℕ → List Float → ℕ → Float → Vec3
hyperbola_slope points curves reals row t =
    let f = frame_of points (get_or curves (row * 3 + 1) 0) in
    hyperbola_derivative f.ref_dir (y_dir f) (get_or reals (row * 2) nan) (get_or reals (row * 2 + 1) nan) (cosh_of t) (sinh_of t)

-- whether a curve that was prepared has all that its points need
unfoldable pub is_plain : Prepared → Bool
is_plain (Line origin direction) = true
is_plain (Round origin x y major minor) = true
is_plain (Parabola origin x y focal) = true
is_plain (Other closed) = false

-- the point at t of such a one, and zero of any other
unfoldable pub plain_point : Prepared → Float → Vec3
plain_point (Line origin direction) t = v_add origin (v_scale direction t)
plain_point (Round origin x y major minor) t = axes_point origin x y major minor (cos_of t) (sin_of t)
plain_point (Parabola origin x y focal) t = parabola_point origin x y focal t
plain_point (Other closed) t = vec plus_zero plus_zero plus_zero

-- the point at t of a curve that was prepared
unfoldable pub prepared_point : Prepared → CurveTree → Float → Vec3
prepared_point (Line origin direction) c t = v_add origin (v_scale direction t)
prepared_point (Round origin x y major minor) c t = axes_point origin x y major minor (cos_of t) (sin_of t)
prepared_point (Parabola origin x y focal) c t = parabola_point origin x y focal t
prepared_point (Other closed) c t = point_at c t

-- the derivative at t of a curve that was prepared
unfoldable pub prepared_derivative : Prepared → CurveTree → Float → Vec3
prepared_derivative (Line origin direction) c t = direction
prepared_derivative (Round origin x y major minor) c t = ellipse_derivative x y major minor (cos_of t) (sin_of t)
prepared_derivative (Parabola origin x y focal) c t = parabola_derivative x y focal t
prepared_derivative (Other closed) c t = derivative_at c t
