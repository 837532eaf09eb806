-- `knots_sort::join` meets its contract: halves that stand in order are the two merged already. Assumes nothing.
use Rattle.knots_sort.proofs.Halves.{unmoved}
use Rattle.knots_sort.proofs.join.Goals as goal

pub returns-else-a-m : goal.returns-else-a-m
returns-else-a-m c = let a = c.args in unmoved a.a.now a.scratch.now a.m c.requires c.if-a-m.false
