use Rattle.std.proofs.Common.{◌≡◌, ◌≤◌}
use Rattle.curve_parameter.specs.Own.Under.{under}
use Rattle.curve_parameter.proofs.under_trims.Given as goal

abbrev pub invariant-loop-base : goal.invariant-loop-base
invariant-loop-base l = (l.r ≤ l.row) × (under l.curves l.r ≡ under l.curves l.row)

abbrev pub decreases-loop-base : goal.decreases-loop-base
decreases-loop-base l = l.r
