-- `edge_repair::short_range` meets its contract. Assumes nothing.
use Rattle.edge_repair.proofs.Ways.{short_rising, short_falling}
use Rattle.brep.specs.Rows.{lent}
use Rattle.edge_repair.proofs.short_range.Goals as goal

pub returns-then-w : goal.returns-then-w
returns-then-w c =
    let a = c.args in
    let T = lent a.drawing.now.tables.now in
    short_rising T a.drawing.now.edge c.point-start.ensures c.point-end.ensures c.nearest-w.ensures.0 c.nearest-w.ensures.1 c.if-w.true

pub returns : goal.returns
returns c =
    let a = c.args in
    let T = lent a.drawing.now.tables.now in
    short_falling T a.drawing.now.edge c.point-start.ensures c.point-end.ensures c.nearest-w.ensures.0 c.nearest-w.ensures.1 c.if-w.false
