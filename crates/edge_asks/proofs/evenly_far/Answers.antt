-- `edge_asks::evenly_far` meets its contract. Assumes nothing.
use Rattle.std.proofs.Common.{sym, ◌∙◌}
use Rattle.edge_params.proofs.Asks.{some_far-never}
use Rattle.edge_asks.proofs.evenly_far.Goals as goal

pub returns-else-may_ask : goal.returns-else-may_ask
returns-else-may_ask c points reals = c.if-may_ask.false ∙ sym (some_far-never _ ((c.may_ask.ensures points reals).1 c.if-may_ask.false) _)

pub returns-then-may_ask : goal.returns-then-may_ask
returns-then-may_ask c = c.steps_far.ensures
