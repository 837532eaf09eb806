-- `edge_count::Counter::subdivided` ends: the depth falls with each call of itself.
use Rattle.edge_count.proofs.Counter.+subdivided.Given as goal

abbrev pub decreases-subdivided : goal.decreases-subdivided
decreases-subdivided l = l.depth
