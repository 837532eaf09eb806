-- `Limit::new` makes a limit with its own cuts. Assumes nothing.
use Rattle.arith_root_limit.specs.Own.Limit.{low_cut, high_cut}
use Rattle.arith_root_limit.proofs.Limit.new.Goals as goal

pub invariant_of-result : goal.invariant_of-result
unfolding low_cut high_cut
invariant_of-result c = (c.square_if-low.ensures, c.square_if-high.ensures)
