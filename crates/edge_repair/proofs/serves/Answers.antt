-- `edge_repair::serves` meets its contract, by what one walk has seen. Assumes nothing.
use Rattle.edge_repair.proofs.Ways.{arc_served}
use Rattle.edge_place.specs.Own.Place.{of_points}
use Rattle.edge_repair.proofs.serves.Goals as goal

pub returns : goal.returns
returns c =
    let plan = c.args.plan.now in
    arc_served (of_points plan.drawing.now.tables.now.points.now) plan.drawing.now.edge plan.options _ c.reference.ensures c.point-start.ensures c.point-end.ensures c.new.ensures c.serves.ensures
