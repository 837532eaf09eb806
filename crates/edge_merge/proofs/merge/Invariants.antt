-- `merge` meets its contract. The loop's invariant: the first k records are what is kept of those before i, and k is at least 1.
-- The measure is what is left of the records. Assumes nothing.
use mathlib.Core.Path.{◌≡◌}
use Prim.Native.Nat.{◌-◌}
use Rattle.edge_merge.proofs.Loop.{Kept}
use Rattle.edge_merge.proofs.merge.Given as goal

abbrev pub invariant-loop-i : goal.invariant-loop-i
invariant-loop-i l = (l.i-end ≡ l.n - 1) × Kept l.initial.chain l.n l.floor l.chain l.last l.k l.i

abbrev pub decreases-loop-i : goal.decreases-loop-i
decreases-loop-i l = l.n - l.i
