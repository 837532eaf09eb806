-- `chain::read_full` meets its contract: what was read lies within the buffer. Assumes nothing.
use Rattle.std.proofs.Common.{◌-◌, ◌≤◌, length}
use Rattle.chain.proofs.read_full.Given as goal

abbrev pub invariant-loop-done : goal.invariant-loop-done
invariant-loop-done l = l.done ≤ length l.text

abbrev pub decreases-loop-done : goal.decreases-loop-done
decreases-loop-done l = length l.text - l.done
