-- `draw_range` meets its contract, by what is told of the range. Assumes nothing.
use lib.ListN.{length}
use Rattle.brep.specs.Rows.{lent}
use Rattle.edge_discretise.proofs.Drawing.{clear, leads_clear, leads_told}
use Rattle.edge_discretise.proofs.draw_range.Goals as goal

pub tell-told-requires : goal.tell-told-requires
tell-told-requires c = c.args.plan.now.deep

pub draw_sampled-requires : goal.draw_sampled-requires
draw_sampled-requires c =
    let p = c.args.plan.now in
    let t = c.tell-told in
    (c.requires.0, c.requires.1, (clear p.drawing.now.mode (lent p.drawing.now.tables.now) p.drawing.now.edge p.options c.args.range (length c.args.scratch.now) _ t.result t.ensures c.in-Ok.is).1)

pub returns-in-Err : goal.returns-in-Err
returns-in-Err c =
    let p = c.args.plan.now in
    let t = c.tell-told in
    (leads_told p.drawing.now.mode (lent p.drawing.now.tables.now) p.drawing.now.edge p.options c.args.range (length c.args.scratch.now) _ t.result t.ensures c.in-Err.cause _ c.in-Err.is, c.clear_from.ensures)

pub returns-in-Ok : goal.returns-in-Ok
returns-in-Ok c =
    let p = c.args.plan.now in
    let t = c.tell-told in
    let d = c.draw_sampled.ensures in
    (leads_clear p.drawing.now.mode (lent p.drawing.now.tables.now) p.drawing.now.edge p.options c.args.range (length c.args.scratch.now) _ t.result t.ensures c.in-Ok.is d.0, d.1)
