-- `swap` meets its contract. Assumes nothing.
use Rattle.edge_place.proofs.swap.Goals as goal

pub returns : goal.returns
returns c = rw (c.put-2.ensures, c.put.ensures, c.sample_at-b.ensures, c.sample_at-a.ensures)
