-- `chord_between` meets its contract. Assumes nothing.
use Rattle.edge_place.proofs.Laws.{chord_held}
use Rattle.edge_place.proofs.chord_between.Goals as goal

pub returns : goal.returns
returns c =
    let s = c in
    let a = s.args in
    chord_held a.start a.end a.a a.b a.chain.now _ _ _ s.requires c.put.ensures
    c.put-2.ensures c.clear_from.ensures
