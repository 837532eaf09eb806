-- `edge_repair::runaway` meets its contract. Assumes nothing.
use Rattle.edge_repair.proofs.Redrawn.{chord_second}
use Rattle.edge_place.specs.Own.Place.{of_points}
use Rattle.edge_repair.proofs.runaway.Goals as goal

pub returns : goal.returns
returns c =
    let a = c.args in
    chord_second (of_points a.drawing.now.tables.now.points.now) a.drawing.now.edge _ _ c.chord.ensures
