-- A curve prepared has the points and the derivatives of the curve, bit for bit, whichever curve it is. Assumes nothing.
use mathlib.Core.Path.{◌≡◌, refl, ap, ◌∙◌}
use lib.Ieee.{Float}
use Rattle.math.specs.declared.Vec3.{Vec3}
use Rattle.brep.specs.Tree.{CurveTree, analytic, line, circle, ellipse, parabola, hyperbola, polyline, trimmed, composite}
use Rattle.curve_point.specs.Point as curves
use Rattle.curve_tangent.specs.Derivative as derivatives
use Rattle.curve_prepared.specs.declared.Prepared.{Prepared}
use Rattle.curve_prepared.specs.Own.Prepared.{prepared_of, prepared_point, prepared_derivative}

-- of a curve c that has the points of b, which is c with trims taken off
points_of : (b c : CurveTree) (t : Float) → curves.point_at c t ≡ curves.point_at b t → prepared_point (prepared_of b) c t ≡ curves.point_at b t
unfolding prepared_point prepared_of curves.point_at
points_of (analytic (line o d)) c t e = refl
points_of (analytic (circle f r)) c t e = refl
points_of (analytic (ellipse f a b)) c t e = refl
points_of (analytic (parabola f d)) c t e = refl
points_of (analytic (hyperbola f a b)) c t e = e
points_of (polyline ps) c t e = e
points_of (trimmed base range) c t e = points_of base c t e
points_of (composite ss) c t e = e

pub prepared_point_lem : (c : CurveTree) (t : Float) → prepared_point (prepared_of c) c t ≡ curves.point_at c t
prepared_point_lem c t = points_of c c t refl

-- the same of derivatives
derivatives_of : (b c : CurveTree) (t : Float) → derivatives.derivative_at c t ≡ derivatives.derivative_at b t → prepared_derivative (prepared_of b) c t ≡ derivatives.derivative_at b t
unfolding prepared_derivative prepared_of derivatives.derivative_at
derivatives_of (analytic (line o d)) c t e = refl
derivatives_of (analytic (circle f r)) c t e = refl
derivatives_of (analytic (ellipse f a b)) c t e = refl
derivatives_of (analytic (parabola f d)) c t e = refl
derivatives_of (analytic (hyperbola f a b)) c t e = e
derivatives_of (polyline ps) c t e = e
derivatives_of (trimmed base range) c t e = derivatives_of base c t e
derivatives_of (composite ss) c t e = e

pub prepared_derivative_lem : (c : CurveTree) (t : Float) → prepared_derivative (prepared_of c) c t ≡ derivatives.derivative_at c t
prepared_derivative_lem c t = derivatives_of c c t refl

-- a point of a curve prepared is the curve's own
pub own_point : (c : CurveTree) (t : Float) {prepared : Prepared} → prepared ≡ prepared_of c → {p : Vec3} → p ≡ prepared_point prepared c t → p ≡ curves.point_at c t
own_point c t R P = P ∙ ap (λ (x : Prepared). prepared_point x c t) R ∙ prepared_point_lem c t

-- and so is a derivative
pub own_derivative : (c : CurveTree) (t : Float) {prepared : Prepared} → prepared ≡ prepared_of c → {p : Vec3} → p ≡ prepared_derivative prepared c t → p ≡ derivatives.derivative_at c t
own_derivative c t R P = P ∙ ap (λ (x : Prepared). prepared_derivative x c t) R ∙ prepared_derivative_lem c t
