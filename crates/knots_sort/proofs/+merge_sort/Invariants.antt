-- The measure of `knots_sort::merge_sort`: each half is shorter than the whole. Assumes nothing.
use Rattle.std.proofs.Common.{length}
use Rattle.knots_sort.proofs.+merge_sort.Given as goal

abbrev pub decreases-merge_sort : goal.decreases-merge_sort
decreases-merge_sort l = length l.a.now
