-- `edge_repair::stays` meets its contract, by the test that decides it. Assumes nothing.
use Rattle.std.proofs.Common.{rules}
use Rattle.edge_repair.proofs.Ways.{diagonal_above_zero, stays_empty, stays_inside, stays_outside}
use Rattle.edge_place.specs.Own.Place.{of_points}
use Rattle.edge_record.proofs.Leading.{leading}
use Rattle.edge_repair.proofs.stays.Goals as goal

pub returns-then-is_empty : goal.returns-then-is_empty
returns-then-is_empty c =
    let plan = c.args.plan.now in
    let T = of_points plan.drawing.now.tables.now.points.now in
    stays_empty T plan.drawing.now.edge plan.options _ c.reference-b.ensures c.is_empty.ensures c.if-is_empty.true

pub returns-then-escapes : goal.returns-then-escapes
returns-then-escapes c =
    let f = c in
    let a = f.args in
    let plan = a.plan.now in
    stays_outside (of_points plan.drawing.now.tables.now.points.now) plan.drawing.now.edge plan.options _ f.reference-b.ensures f.is_empty.ensures c.length_squared.result f.if-is_empty.false
    (diagonal_above_zero f.reference-b.result c.length_squared.result (search rules) (rw c.size.ensures at c.length_squared.ensures)) (rw (leading a.n a.buffers.now.first.now f.requires) at c.escapes.ensures) c.if-escapes.true

pub returns : goal.returns
returns c =
    let f = c in
    let a = f.args in
    let plan = a.plan.now in
    stays_inside (of_points plan.drawing.now.tables.now.points.now) plan.drawing.now.edge plan.options _ f.reference-b.ensures f.is_empty.ensures f.if-is_empty.false
    (rw (leading a.n a.buffers.now.first.now f.requires) at c.escapes.ensures) c.if-escapes.false
