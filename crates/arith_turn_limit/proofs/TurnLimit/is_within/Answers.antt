-- `TurnLimit::is_within` meets its contract: the cut is the limit's own. Assumes nothing.
use Rattle.arith_turn_limit.proofs.Bound.{serves}
use Rattle.arith_turn_limit.proofs.TurnLimit.is_within.Goals as goal

pub is_turn_within-requires : goal.is_turn_within-requires
is_turn_within-requires c = rw c.self.invariant.0 (serves c.self.inside.at)
