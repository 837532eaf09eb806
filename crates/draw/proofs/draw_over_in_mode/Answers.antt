-- `draw::draw_over_in_mode` meets its contract, over tables of any content. Assumes nothing.
use Rattle.std.proofs.lemmas.Result.{err_from_is_err_and}
use mathlib.Core.Path.{sym, ◌∙◌}
use native.Mathlib.Omega.{arith}
use Rattle.brep.specs.Rows.{lent}
use Rattle.brep.specs.Tree.{tree}
use Rattle.draw.proofs.Laws.{binary}
use Rattle.draw.proofs.Over.{flat_curve, bounded_flat, over_sizes, over_edge, over_run, over_drawn}
use Rattle.draw.proofs.draw_over_in_mode.Goals as goal

pub returns-then-oversize : goal.returns-then-oversize
returns-then-oversize c =
    let a = c.args in
    let T = lent a.tables.now in
    over_sizes a.mode T a.edge a.options (binary T a.edge c.binary64.ensures) a.first.now a.second.now (sym c.oversize.ensures ∙ c.if-oversize.true)

pub returns-in_err-check_over : goal.returns-in_err-check_over
returns-in_err-check_over c =
    let a = c.args in
    let T = lent a.tables.now in
    let p = err_from_is_err_and c.from_residual.result c.from_residual.ensures.1 in
    rw (p.1, p.2)
    (over_edge a.mode T a.edge a.options (binary T a.edge c.binary64.ensures) a.first.now a.second.now (sym c.oversize.ensures ∙ c.if-oversize.false) _ (sym c.check_over.ensures ∙ c.in_err-check_over.was))

pub returns-then-knots-gt-MOST_KNOTS : goal.returns-then-knots-gt-MOST_KNOTS
returns-then-knots-gt-MOST_KNOTS c =
    let a = c.args in
    let T = lent a.tables.now in
    over_run a.mode T a.edge a.options (binary T a.edge c.binary64.ensures) a.first.now a.second.now (sym c.oversize.ensures ∙ c.if-oversize.false) (sym c.check_over.ensures ∙ c.in_ok-check_over.was) (omega (arith, c.if-knots-gt-MOST_KNOTS.true, c.knot_count-knots.ensures))

pub draw_in_buffers-requires : goal.draw_in_buffers-requires
draw_in_buffers-requires c = omega (arith, c.if-knots-gt-MOST_KNOTS.false, c.knot_count-knots.ensures)

pub returns-then-knots-eq0 : goal.returns-then-knots-eq0
returns-then-knots-eq0 c =
    let a = c.args in
    let T = lent a.tables.now in
    over_drawn a.mode T a.edge a.options (binary T a.edge c.binary64.ensures) a.first.now a.second.now (sym c.oversize.ensures ∙ c.if-oversize.false) (sym c.check_over.ensures ∙ c.in_ok-check_over.was) (omega (arith, c.if-knots-gt-MOST_KNOTS.false, c.knot_count-knots.ensures)) _ _ _
    (bounded_flat a.mode T a.edge a.options a.first.now a.second.now _ _ _ (flat_curve (tree T a.edge.curve) (omega (arith, c.if-knots-eq0.true, c.knot_count-knots.ensures))) c.draw_in_buffers.ensures)

pub draw_bounded-requires : goal.draw_bounded-requires
draw_bounded-requires c = omega (arith, c.if-knots-gt-MOST_KNOTS.false, c.knot_count-knots.ensures)

pub returns : goal.returns
returns c =
    let a = c.args in
    let T = lent a.tables.now in
    over_drawn a.mode T a.edge a.options (binary T a.edge c.binary64.ensures) a.first.now a.second.now (sym c.oversize.ensures ∙ c.if-oversize.false) (sym c.check_over.ensures ∙ c.in_ok-check_over.was) (omega (arith, c.if-knots-gt-MOST_KNOTS.false, c.knot_count-knots.ensures)) _ _ _ c.draw_bounded.ensures
