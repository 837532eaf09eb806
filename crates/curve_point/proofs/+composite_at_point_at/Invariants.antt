-- `curve_point::composite_at` and `curve_point::point_at` call one another: a composite's segments lie in lower rows. Assumes nothing.
use Prim.Native.Nat.{◌+◌, ◌*◌}
use Rattle.curve_point.proofs.+composite_at_point_at.Given as goal

abbrev pub decreases-composite_at : goal.decreases-composite_at
decreases-composite_at l = 2 * l.row

abbrev pub decreases-point_at : goal.decreases-point_at
decreases-point_at l = 2 * l.row + 1
