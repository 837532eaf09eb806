-- `pin` meets its contract. Assumes nothing.
use Rattle.edge_place.proofs.pin.Goals as goal

pub returns : goal.returns
returns c = rw (c.put.ensures, c.sample_at-s.ensures)
