-- The first k records are those before i whose flags are set.
use Rattle.std.proofs.Common.{◌≤◌}
use Rattle.edge_thin.proofs.Loops.{Moved}
use Rattle.edge_thin.proofs.retain.Given as goal

abbrev pub invariant-loop-i : goal.invariant-loop-i
invariant-loop-i l = (l.k ≤ l.i) × Moved l.initial.chain l.keep l.chain l.k l.i
