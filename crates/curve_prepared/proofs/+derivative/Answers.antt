-- `curve_prepared::PreparedCurve::derivative`, `curve_prepared::other_derivative` and `curve_prepared::composite_slope` meet their contracts. Assumes nothing.
use mathlib.Core.Path.{refl, sym, ◌∙◌}
use borrow.Author.Rules.{rules}
use Rattle.math.specs.Math.{v_scale}
use Rattle.brep.specs.Rows.{lent}
use Rattle.brep.specs.Tree.{CurveTree}
use Rattle.brep.proofs.Laws.{at_lower, at_high}
use Rattle.brep.proofs.ByKind.{at_polyline, at_composite, at_hyperbola, first_read, count_read}
use Rattle.brep.proofs.Numbered.{numbered_as}
use Rattle.curve_parameter.proofs.Under.{under_low, under_same}
use Rattle.curve_tangent.specs.Derivative.{signed_span, derivative_at, polyline_derivative}
use Rattle.curve_tangent.proofs.Laws.{derivative_none, derivative_some}
use Rattle.curve_prepared.specs.Own.Prepared.{hyperbola_slope}
use Rattle.curve_prepared.specs.Own.PreparedCurve.{curve_of}
use Rattle.curve_prepared.proofs.Laws.{line_slope, round_slope, parabola_slope, known_closed, no_slope, no_kind_slope}
use Rattle.curve_prepared.proofs.+derivative.Goals as goal

pub PreparedCurve::derivative-returns-in-Line : goal.PreparedCurve::derivative-returns-in-Line
PreparedCurve::derivative-returns-in-Line t c =
    let curve = c.args.self.now in line_slope c.args.t (curve_of curve) (sym curve.own ∙ c.in-Line.is)

pub PreparedCurve::derivative-returns-in-Round : goal.PreparedCurve::derivative-returns-in-Round
PreparedCurve::derivative-returns-in-Round t c =
    let curve = c.args.self.now in
    let w = c.in-Round in
    rw c.ellipse_derivative.ensures (round_slope c.args.t (curve_of curve) (sym curve.own ∙ w.is))

pub PreparedCurve::derivative-returns-in-Parabola : goal.PreparedCurve::derivative-returns-in-Parabola
PreparedCurve::derivative-returns-in-Parabola t c =
    let curve = c.args.self.now in
    c.parabola_derivative.ensures ∙ parabola_slope c.args.t (curve_of curve) (sym curve.own ∙ c.in-Parabola.is)

pub composite_slope-returns-in_default : goal.composite_slope-returns-in_default
composite_slope-returns-in_default t c = derivative_none _ _ _ _ _ c.in_default.ensures

pub composite_slope-returns-then-base-row : goal.composite_slope-returns-then-base-row
composite_slope-returns-then-base-row t c =
    let s = c.in-Some.on.segment in
    rw (c.scale.ensures, c.derivative.ensures, c.new.ensures.tables, c.new.ensures.row, c.signed_span-k.ensures)
    (at_lower (λ x. v_scale (derivative_at x c.in-Some.on.t) (signed_span s.range s.same_sense)) _ _ c.if-base-row.true ∙ derivative_some _ _ _ _ _ c.in-Some.ensures)

pub composite_slope-returns : goal.composite_slope-returns
unfolding derivative_at polyline_derivative
composite_slope-returns t c =
    let s = c.in-Some.on.segment in
    rw (c.scale-2.ensures, c.signed_span-k.ensures)
    (at_high (λ x. v_scale (derivative_at x c.in-Some.on.t) (signed_span s.range s.same_sense)) _ _ c.if-base-row.false ∙ derivative_some _ _ _ _ _ c.in-Some.ensures)

pub other_derivative-polyline_derivative-requires : goal.other_derivative-polyline_derivative-requires
other_derivative-polyline_derivative-requires t c =
    known_closed (lent c.args.tables.now) _ c.under_trims-r.ensures (numbered_as c.in-Some.ensures c.in-Polyline.is) c.requires (first_read c.run_at-run.ensures) (count_read c.run_at-run.ensures)

pub other_derivative-composite_slope-requires : goal.other_derivative-composite_slope-requires
other_derivative-composite_slope-requires t c =
    let l = under_low c.args.tables.now.curves.now c.args.row c.args.row in
    let e = c.under_trims-r.ensures in search rules

pub other_derivative-returns-in-Polyline : goal.other_derivative-returns-in-Polyline
unfolding derivative_at
other_derivative-returns-in-Polyline t c =
    let F : CurveTree → _ = λ k. derivative_at k c.args.t in
    c.polyline_derivative.ensures
    ∙ at_polyline F (lent c.args.tables.now) _ refl (numbered_as c.in-Some.ensures c.in-Polyline.is) (first_read c.run_at-run.ensures) (count_read c.run_at-run.ensures)
    ∙ under_same F (λ b r. refl) _ _ c.under_trims-r.ensures

pub other_derivative-returns-in-Composite : goal.other_derivative-returns-in-Composite
unfolding derivative_at
other_derivative-returns-in-Composite t c =
    let F : CurveTree → _ = λ k. derivative_at k c.args.t in
    c.composite_slope.ensures
    ∙ at_composite F (lent c.args.tables.now) _ refl (numbered_as c.in-Some.ensures c.in-Composite.is) (first_read c.run_at.ensures) (count_read c.run_at.ensures)
    ∙ under_same F (λ b r. refl) _ _ c.under_trims-r.ensures

pub other_derivative-returns-in-Hyperbola : goal.other_derivative-returns-in-Hyperbola
unfolding derivative_at hyperbola_slope
other_derivative-returns-in-Hyperbola t c =
    let F : CurveTree → _ = λ k. derivative_at k c.args.t in
    c.hyperbola_slope.ensures
    ∙ at_hyperbola F (lent c.args.tables.now) _ refl (numbered_as c.in-Some.ensures c.in-Hyperbola.is) refl refl refl
    ∙ under_same F (λ b r. refl) _ _ c.under_trims-r.ensures

pub other_derivative-returns-in_default : goal.other_derivative-returns-in_default
other_derivative-returns-in_default t c = no_kind_slope (lent c.args.tables.now) _ c.under_trims-r.ensures c.in_default.ensures _

pub other_derivative-returns-in_default-kind : goal.other_derivative-returns-in_default-kind
other_derivative-returns-in_default-kind t c =
    let w = c.in_default-kind in
    no_slope _ _ c.under_trims-r.ensures c.requires _ c.in-Some.ensures w.not-Polyline w.not-Composite w.not-Hyperbola _
