-- `curve_tangent::composite_derivative` and `curve_tangent::derivative_at` call one another: a composite's segments lie in lower rows. Assumes nothing.
use Prim.Native.Nat.{◌+◌, ◌*◌}
use Rattle.curve_tangent.proofs.+composite_derivative_derivative_at.Given as goal

abbrev pub decreases-composite_derivative : goal.decreases-composite_derivative
decreases-composite_derivative l = 2 * l.row

abbrev pub decreases-derivative_at : goal.decreases-derivative_at
decreases-derivative_at l = 2 * l.row + 1
