-- `chord` meets its contract. Assumes nothing.
use lib.ListN.{length}
use Rattle.edge_place.specs.Own.Place.{of_points}
use Rattle.edge_place.proofs.Laws.{chord_vertices}
use Rattle.edge_place.proofs.chord.Goals as goal

pub returns : goal.returns
returns c =
    let a = c.args in
    chord_vertices (of_points a.points.now) a.edge a.a a.b (length a.chain.now)
    c.point-start.ensures c.point-end.ensures c.chord_between.ensures
