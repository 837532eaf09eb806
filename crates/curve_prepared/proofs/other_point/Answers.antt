-- `curve_prepared::other_point` meets its contract. Assumes nothing.
use mathlib.Core.Path.{refl, ◌∙◌}
use Rattle.brep.specs.declared.Kind.TheVariants as kinds
use Rattle.brep.specs.Rows.{lent}
use Rattle.brep.specs.Tree.{CurveTree}
use Rattle.brep.proofs.ByKind.{at_polyline, first_read, count_read}
use Rattle.brep.proofs.Numbered.{is_numbered}
use Rattle.curve_parameter.proofs.Under.{under_same}
use Rattle.curve_point.specs.Point.{point_at}
use Rattle.curve_prepared.proofs.Laws.{known_closed}
use Rattle.curve_prepared.proofs.other_point.Goals as goal

pub polyline_point-requires : goal.polyline_point-requires
polyline_point-requires c =
    known_closed (lent c.args.tables.now) _ c.under_trims-r.ensures (is_numbered kinds.Polyline c.kind_at.ensures c.eq.ensures c.if-eq.true) c.requires (first_read c.run_at-run.ensures) (count_read c.run_at-run.ensures)

pub returns-then-eq : goal.returns-then-eq
unfolding point_at
returns-then-eq c =
    let F : CurveTree → _ = λ k. point_at k c.args.t in
    c.polyline_point.ensures
    ∙ at_polyline F (lent c.args.tables.now) _ refl (is_numbered kinds.Polyline c.kind_at.ensures c.eq.ensures c.if-eq.true) (first_read c.run_at-run.ensures) (count_read c.run_at-run.ensures)
    ∙ under_same F (λ b r. refl) _ _ c.under_trims-r.ensures
