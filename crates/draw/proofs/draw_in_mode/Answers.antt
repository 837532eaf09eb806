-- `draw::draw_in_mode` meets its contract. Assumes nothing.
use Rattle.std.proofs.lemmas.Result.{err_from_is_err_and}
use mathlib.Core.Path.{sym, ◌∙◌}
use Rattle.brep.specs.Rows.{lent}
use Rattle.causes.proofs.Checked.{causes_of, tables_formed}
use Rattle.draw.proofs.Few.{knots_fit}
use Rattle.draw.proofs.Laws.{binary, by_verdict, by_drawing, all_outcome}
use Rattle.draw.proofs.draw_in_mode.Goals as goal

pub draw_in_buffers-requires : goal.draw_in_buffers-requires
draw_in_buffers-requires c =
    let a = c.args in
    let T = lent a.tables.now in
    let k = causes_of T a.edge a.options (sym c.check.ensures ∙ c.in_ok-check.was) in
    knots_fit T k.0 (tables_formed T a.edge a.options k.2) a.edge.curve

pub returns-in_err-check : goal.returns-in_err-check
returns-in_err-check c =
    let a = c.args in
    let T = lent a.tables.now in
    let p = err_from_is_err_and c.from_residual.result c.from_residual.ensures.1 in
    rw (p.1, p.2)
    (all_outcome a.mode T a.edge a.options a.first.now a.second.now (binary T a.edge c.binary64.ensures) _ _ _ (by_verdict a.mode T a.edge a.options a.first.now a.second.now _ (sym c.check.ensures ∙ c.in_err-check.was)))

pub returns : goal.returns
returns c =
    let a = c.args in
    let T = lent a.tables.now in
    all_outcome a.mode T a.edge a.options a.first.now a.second.now (binary T a.edge c.binary64.ensures) _ _ _
    (by_drawing a.mode T a.edge a.options a.first.now a.second.now (sym c.check.ensures ∙ c.in_ok-check.was) _ _ _
    c.draw_in_buffers.ensures)
