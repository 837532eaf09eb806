-- `edge_escape::measured` meets its contract. Assumes nothing.
use Rattle.edge_escape.specs.Own.Best.{measured}
use Rattle.edge_escape.proofs.measured.Goals as goal

pub returns : goal.returns
unfolding measured
returns c = rw (c.length_squared.ensures, c.sub.ensures)
