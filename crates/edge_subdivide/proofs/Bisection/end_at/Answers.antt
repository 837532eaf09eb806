-- `edge_subdivide::Bisection::end_at` meets its contract. Assumes nothing.
use Rattle.edge_subdivide.specs.Bisect.{end_at}
use Rattle.edge_subdivide.proofs.Bisection.end_at.Goals as goal

pub returns : goal.returns
unfolding end_at
returns c = rw (c.point.ensures, c.tangent.ensures)
