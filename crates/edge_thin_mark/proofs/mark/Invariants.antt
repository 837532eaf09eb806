-- What the spans from a on still give is what `flagged` lacks. The measure is the number of flags that are not set, and what is left of the
-- chain.
use Rattle.std.proofs.Common.{◌+◌, ◌-◌, length}
use Rattle.edge_thin_mark.proofs.Walk.{unset}
use Rattle.edge_thin_mark.proofs.Flags.{Marking}
use Rattle.edge_thin_mark.proofs.mark.Given as goal

abbrev pub invariant-loop-a : goal.invariant-loop-a
invariant-loop-a l = Marking l.chain l.bounds.tolerance l.bounds.angle (length l.fn.keep) l.keep l.a

abbrev pub decreases-loop-a : goal.decreases-loop-a
decreases-loop-a l = unset l.keep + (l.last - l.a)
