-- `discretise` meets its contract. Assumes nothing.
use Rattle.brep.specs.Rows.{lent}
use Rattle.edge_discretise.proofs.Drawing.{unprobed}
use Rattle.edge_discretise.proofs.discretise.Goals as goal

pub returns : goal.returns
returns c =
    let p = c.args.plan.now in
    unprobed p.drawing.now.mode (lent p.drawing.now.tables.now) p.drawing.now.edge p.options c.discretise_usable.ensures
