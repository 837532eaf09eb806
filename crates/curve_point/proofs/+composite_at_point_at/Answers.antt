-- `curve_point::composite_at` and `curve_point::point_at` meet their contracts. Assumes nothing.
use Rattle.curve_point.proofs.Turn.{point_under, circle_under, ellipse_under, hyperbola_under, trim_stays}
use Rattle.curve_parameter.proofs.Under.{under_low}
use Rattle.curve_point.proofs.Laws.{composite_none, composite_some}
use Rattle.curve_point.specs.Point.{point_at, polyline_point}
use Rattle.brep.proofs.Laws.{at_lower, at_high}
use Rattle.brep.specs.Tree.{grown}
use Rattle.math.specs.Math.{v_add}
use mathlib.Core.Path.{ap, ◌∙◌}
use borrow.Author.Rules.{rules}
use Rattle.curve_point.proofs.+composite_at_point_at.Goals as goal

pub composite_at-returns-in_default : goal.composite_at-returns-in_default
composite_at-returns-in_default t c = composite_none _ _ _ _ _ c.in_default.ensures

pub composite_at-returns-then-base-row : goal.composite_at-returns-then-base-row
composite_at-returns-then-base-row t c = c.point_at.ensures ∙ at_lower (λ x. point_at x c.in-Some.on.t) _ _ c.if-base-row.true ∙ composite_some _ _ _ _ _ c.in-Some.ensures

pub composite_at-returns : goal.composite_at-returns
unfolding point_at polyline_point
composite_at-returns t c = at_high (λ x. point_at x c.in-Some.on.t) _ _ c.if-base-row.false ∙ composite_some _ _ _ _ _ c.in-Some.ensures

pub point_at-composite_at-requires : goal.point_at-composite_at-requires
point_at-composite_at-requires t c =
    let l = under_low c.args.tables.now.curves.now c.args.row c.args.row in
    let e = c.under_trims-r.ensures in search rules

pub point_at-returns-in-Line : goal.point_at-returns-in-Line
unfolding point_at grown
point_at-returns-in-Line t c = c.add.ensures ∙ ap (v_add _) c.scale.ensures ∙ point_under _ _ _ c.under_trims-r.ensures c.row_at-c.ensures c.in-Line.is

pub point_at-returns-in-Circle : goal.point_at-returns-in-Circle
point_at-returns-in-Circle t c = c.around.ensures ∙ circle_under _ _ _ c.under_trims-r.ensures c.row_at-c.ensures c.kind_at.ensures c.turn_of-sc.ensures c.in-Circle.is

pub point_at-returns-in-Ellipse : goal.point_at-returns-in-Ellipse
point_at-returns-in-Ellipse t c = c.around-in-Ellipse.ensures ∙ ellipse_under _ _ _ c.under_trims-r.ensures c.row_at-c.ensures c.kind_at.ensures c.turn_of-sc.ensures c.in-Ellipse.is

pub point_at-returns-in-Parabola : goal.point_at-returns-in-Parabola
unfolding point_at grown
point_at-returns-in-Parabola t c = c.parabola_point.ensures ∙ rw c.y_dir.ensures (point_under _ _ _ c.under_trims-r.ensures c.row_at-c.ensures c.in-Parabola.is)

pub point_at-returns-in-Polyline : goal.point_at-returns-in-Polyline
unfolding point_at grown
point_at-returns-in-Polyline t c = c.polyline_point.ensures ∙ point_under _ _ _ c.under_trims-r.ensures c.row_at-c.ensures c.in-Polyline.is

pub point_at-returns-in-Trimmed : goal.point_at-returns-in-Trimmed
point_at-returns-in-Trimmed t c = trim_stays _ _ _ c.under_trims-r.ensures c.row_at-c.ensures c.in-Trimmed.is

pub point_at-returns-in-Composite : goal.point_at-returns-in-Composite
unfolding grown
point_at-returns-in-Composite t c = c.composite_at.ensures ∙ point_under _ _ _ c.under_trims-r.ensures c.row_at-c.ensures c.in-Composite.is

pub point_at-returns-in-Hyperbola : goal.point_at-returns-in-Hyperbola
point_at-returns-in-Hyperbola t c = c.around-in-Hyperbola.ensures ∙ hyperbola_under _ _ _ c.under_trims-r.ensures c.row_at-c.ensures c.kind_at.ensures c.turn_of-sc.ensures c.in-Hyperbola.is
