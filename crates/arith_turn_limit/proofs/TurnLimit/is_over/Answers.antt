-- `TurnLimit::is_over` meets its contract: the cut is the limit's own. Assumes nothing.
use Rattle.std.proofs.Common.{sym, ◌∙◌}
use Rattle.arith_turn_limit.proofs.Above.{exceeds}
use Rattle.arith_turn_limit.proofs.TurnLimit.is_over.Goals as goal

pub returns-clause-above : goal.returns-clause-above
returns-clause-above c h = rw (← c.self.view_is) ((exceeds c.self.inside.at).above c.args.a (rw c.self.invariant.1 at (sym c.is_turn_over.ensures ∙ h)))
