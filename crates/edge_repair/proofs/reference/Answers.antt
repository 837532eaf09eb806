-- `edge_repair::reference` meets its contract. Assumes nothing.
use Rattle.edge_repair.proofs.reference.Goals as goal

pub returns : goal.returns
returns c = rw (c.point.ensures, c.point-2.ensures)
