-- `draw::draw_bounded` meets its contract, over tables of any content. Assumes nothing.
use mathlib.Core.Path.{sym, ◌∙◌}
use Rattle.brep.specs.Rows.{lent}
use Rattle.draw.proofs.Over.{bounded_nested, bounded_flat}
use Rattle.draw.proofs.draw_bounded.Goals as goal

pub returns-then-nests : goal.returns-then-nests
returns-then-nests c =
    let a = c.args in
    let T = lent a.tables.now in
    bounded_nested a.mode T a.edge a.options a.first.now a.second.now _ _ _
    (sym (c.nests.ensures T.points T.reals T.ranges) ∙ c.if-nests.true) c.draw_in_mode.ensures

pub draw_in_buffers-requires : goal.draw_in_buffers-requires
draw_in_buffers-requires c = c.requires

pub returns : goal.returns
returns c =
    let a = c.args in
    let T = lent a.tables.now in
    bounded_flat a.mode T a.edge a.options a.first.now a.second.now _ _ _
    (sym (c.nests.ensures T.points T.reals T.ranges) ∙ c.if-nests.false) c.draw_in_buffers.ensures
