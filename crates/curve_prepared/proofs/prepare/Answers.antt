-- `curve_prepared::prepare` meets its contract. Assumes nothing.
use mathlib.Core.Path.{refl, ap, ◌∙◌}
use Rattle.brep.specs.Rows.{lent}
use Rattle.brep.proofs.ByKind.{at_line, at_circle, at_ellipse, at_parabola, at_polyline, at_composite, at_hyperbola, at_unknown, first_read, count_read}
use Rattle.brep.proofs.Numbered.{numbered_as, unnumbered}
use Rattle.curve_parameter.specs.Run.{closes}
use Rattle.curve_parameter.proofs.Under.{under_same, empty_trim}
use Rattle.curve_prepared.specs.declared.Prepared.TheVariants.{Other}
use Rattle.curve_prepared.specs.Own.Prepared.{round_of, parabola_of, prepared_of}
use Rattle.curve_prepared.proofs.prepare.Goals as goal

pub returns-in-Some-Line : goal.returns-in-Some-Line
unfolding prepared_of
returns-in-Some-Line c =
    let w = c.in-Some-Line in
    c.line_of.ensures ∙ at_line prepared_of (lent c.args.tables.now) c.under_trims-r.result refl (numbered_as w.ensures w.field-0-is) (first_read c.run_at-run.ensures)
    ∙ under_same prepared_of (λ b r. refl) _ _ c.under_trims-r.ensures

pub returns-in-Some-Circle : goal.returns-in-Some-Circle
unfolding prepared_of
returns-in-Some-Circle c =
    let w = c.in-Some-Circle in
    c.round_of.ensures ∙ ap (λ f. round_of f c.float_at-p.result c.float_at-p.result) c.frame_at.ensures ∙ at_circle prepared_of (lent c.args.tables.now) c.under_trims-r.result refl (numbered_as w.ensures w.field-0-is) (first_read c.run_at-run.ensures) c.float_at-p.ensures
    ∙ under_same prepared_of (λ b r. refl) _ _ c.under_trims-r.ensures

pub returns-in-Some-Ellipse : goal.returns-in-Some-Ellipse
unfolding prepared_of
returns-in-Some-Ellipse c =
    let w = c.in-Some-Ellipse in
    c.round_of-in-Some-Ellipse.ensures ∙ ap (λ f. round_of f c.float_at-p-in-Some-Ellipse.result c.float_at-q.result) c.frame_at-in-Some-Ellipse.ensures ∙ at_ellipse prepared_of (lent c.args.tables.now) c.under_trims-r.result refl (numbered_as w.ensures w.field-0-is) (first_read c.run_at-run.ensures) c.float_at-p-in-Some-Ellipse.ensures c.float_at-q.ensures
    ∙ under_same prepared_of (λ b r. refl) _ _ c.under_trims-r.ensures

pub returns-in-Some-Parabola : goal.returns-in-Some-Parabola
unfolding prepared_of
returns-in-Some-Parabola c =
    let w = c.in-Some-Parabola in
    c.parabola_of.ensures ∙ ap (λ f. parabola_of f c.float_at-p-in-Some-Parabola.result) c.frame_at-in-Some-Parabola.ensures ∙ at_parabola prepared_of (lent c.args.tables.now) c.under_trims-r.result refl (numbered_as w.ensures w.field-0-is) (first_read c.run_at-run.ensures) c.float_at-p-in-Some-Parabola.ensures
    ∙ under_same prepared_of (λ b r. refl) _ _ c.under_trims-r.ensures

pub returns-in-Some-Polyline : goal.returns-in-Some-Polyline
unfolding prepared_of
returns-in-Some-Polyline c =
    let w = c.in-Some-Polyline in
    ap Other c.closes_at-closed.ensures ∙ at_polyline prepared_of (lent c.args.tables.now) c.under_trims-r.result refl (numbered_as w.ensures w.field-0-is) (first_read c.run_at-run.ensures) (count_read c.run_at-run.ensures)
    ∙ under_same prepared_of (λ b r. refl) _ _ c.under_trims-r.ensures

pub returns-in-Some-Composite : goal.returns-in-Some-Composite
unfolding prepared_of
returns-in-Some-Composite c =
    let w = c.in-Some-Composite in
    at_composite prepared_of (lent c.args.tables.now) c.under_trims-r.result refl (numbered_as w.ensures w.field-0-is) refl refl
    ∙ under_same prepared_of (λ b r. refl) _ _ c.under_trims-r.ensures

pub returns-in-Some-Hyperbola : goal.returns-in-Some-Hyperbola
unfolding prepared_of
returns-in-Some-Hyperbola c =
    let w = c.in-Some-Hyperbola in
    at_hyperbola prepared_of (lent c.args.tables.now) c.under_trims-r.result refl (numbered_as w.ensures w.field-0-is) refl refl refl
    ∙ under_same prepared_of (λ b r. refl) _ _ c.under_trims-r.ensures

pub returns-in-Some-Trimmed : goal.returns-in-Some-Trimmed
unfolding prepared_of closes
returns-in-Some-Trimmed c =
    let w = c.in-Some-Trimmed in
    empty_trim prepared_of (λ b r. refl) (lent c.args.tables.now) _ c.under_trims-r.ensures refl (numbered_as w.ensures w.field-0-is)

pub returns-in-None : goal.returns-in-None
unfolding prepared_of closes
returns-in-None c =
    at_unknown prepared_of (lent c.args.tables.now) c.under_trims-r.result refl (unnumbered c.in-None.ensures)
    ∙ under_same prepared_of (λ b r. refl) _ _ c.under_trims-r.ensures
