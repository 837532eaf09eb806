-- `curve_tangent::composite_derivative` and `curve_tangent::derivative_at` meet their contracts. Assumes nothing.
use mathlib.Core.Path.{◌∙◌}
use borrow.Author.Rules.{rules}
use Rattle.math.specs.Math.{v_scale}
use Rattle.brep.specs.Tree.{grown}
use Rattle.brep.proofs.Laws.{at_lower, at_high}
use Rattle.curve_parameter.proofs.Under.{under_low}
use Rattle.curve_tangent.specs.Derivative.{signed_span, derivative_at, polyline_derivative}
use Rattle.curve_tangent.proofs.Laws.{derivative_row, derivative_trim, derivative_none, derivative_some}
use Rattle.curve_tangent.proofs.+composite_derivative_derivative_at.Goals as goal

pub composite_derivative-returns-in_default : goal.composite_derivative-returns-in_default
composite_derivative-returns-in_default t c = derivative_none _ _ _ _ _ c.in_default.ensures

pub composite_derivative-returns-then-base-row : goal.composite_derivative-returns-then-base-row
composite_derivative-returns-then-base-row t c =
    let s = c.in-Some.on.segment in
    rw (c.scale.ensures, c.derivative_at.ensures, c.signed_span-k.ensures)
    (at_lower (λ x. v_scale (derivative_at x c.in-Some.on.t) (signed_span s.range s.same_sense)) _ _ c.if-base-row.true ∙ derivative_some _ _ _ _ _ c.in-Some.ensures)

pub composite_derivative-returns : goal.composite_derivative-returns
unfolding derivative_at polyline_derivative
composite_derivative-returns t c =
    let s = c.in-Some.on.segment in
    rw (c.scale-2.ensures, c.signed_span-k.ensures)
    (at_high (λ x. v_scale (derivative_at x c.in-Some.on.t) (signed_span s.range s.same_sense)) _ _ c.if-base-row.false ∙ derivative_some _ _ _ _ _ c.in-Some.ensures)

pub derivative_at-composite_derivative-requires : goal.derivative_at-composite_derivative-requires
derivative_at-composite_derivative-requires t c =
    let l = under_low c.args.tables.now.curves.now c.args.row c.args.row in
    let e = c.under_trims-r.ensures in search rules

pub derivative_at-returns-in-Line : goal.derivative_at-returns-in-Line
unfolding derivative_at grown
derivative_at-returns-in-Line t c = derivative_row _ _ _ c.under_trims-r.ensures c.row_at-c.ensures c.in-Line.is

pub derivative_at-returns-in-Circle : goal.derivative_at-returns-in-Circle
unfolding derivative_at grown
derivative_at-returns-in-Circle t c = rw (c.ellipse_derivative.ensures, c.y_dir.ensures) (derivative_row _ _ _ c.under_trims-r.ensures c.row_at-c.ensures c.in-Circle.is)

pub derivative_at-returns-in-Ellipse : goal.derivative_at-returns-in-Ellipse
unfolding derivative_at grown
derivative_at-returns-in-Ellipse t c = rw (c.ellipse_derivative-in-Ellipse.ensures, c.y_dir-in-Ellipse.ensures) (derivative_row _ _ _ c.under_trims-r.ensures c.row_at-c.ensures c.in-Ellipse.is)

pub derivative_at-returns-in-Parabola : goal.derivative_at-returns-in-Parabola
unfolding derivative_at grown
derivative_at-returns-in-Parabola t c = rw (c.parabola_derivative.ensures, c.y_dir-in-Parabola.ensures) (derivative_row _ _ _ c.under_trims-r.ensures c.row_at-c.ensures c.in-Parabola.is)

pub derivative_at-returns-in-Polyline : goal.derivative_at-returns-in-Polyline
unfolding derivative_at grown
derivative_at-returns-in-Polyline t c = c.polyline_derivative.ensures ∙ derivative_row _ _ _ c.under_trims-r.ensures c.row_at-c.ensures c.in-Polyline.is

pub derivative_at-returns-in-Trimmed : goal.derivative_at-returns-in-Trimmed
derivative_at-returns-in-Trimmed t c = derivative_trim _ _ _ c.under_trims-r.ensures c.row_at-c.ensures c.in-Trimmed.is

pub derivative_at-returns-in-Composite : goal.derivative_at-returns-in-Composite
unfolding derivative_at grown
derivative_at-returns-in-Composite t c = c.composite_derivative.ensures ∙ derivative_row _ _ _ c.under_trims-r.ensures c.row_at-c.ensures c.in-Composite.is

pub derivative_at-returns-in-Hyperbola : goal.derivative_at-returns-in-Hyperbola
unfolding derivative_at grown
derivative_at-returns-in-Hyperbola t c = rw (c.hyperbola_derivative.ensures, c.y_dir-in-Hyperbola.ensures) (derivative_row _ _ _ c.under_trims-r.ensures c.row_at-c.ensures c.in-Hyperbola.is)
