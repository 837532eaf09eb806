-- `knots_sort::sort` meets its contract: what stands in order is sorted already. Assumes nothing.
use Rattle.knots_sort.proofs.Sorted.{told_sorted}
use Rattle.knots_sort.proofs.sort.Goals as goal

pub returns-then-is_sorted : goal.returns-then-is_sorted
returns-then-is_sorted c = told_sorted c.args.a.now _ c.is_sorted.ensures.cases c.if-is_sorted.true
