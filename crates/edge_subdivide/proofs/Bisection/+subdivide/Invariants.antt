-- `edge_subdivide::Bisection::subdivide` ends: the depth falls with each call of itself.
use Rattle.edge_subdivide.proofs.Bisection.+subdivide.Given as goal

abbrev pub decreases-subdivide : goal.decreases-subdivide
decreases-subdivide l = l.depth
