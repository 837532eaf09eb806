-- The measures of `curve_prepared::PreparedCurve::derivative`, `curve_prepared::other_derivative` and `curve_prepared::composite_slope`: a segment's row is below its composite's.
use Rattle.std.proofs.Common.{◌+◌, ◌*◌}
use Rattle.curve_prepared.proofs.+derivative.Given as goal

abbrev pub decreases-PreparedCurve::derivative : goal.decreases-PreparedCurve::derivative
decreases-PreparedCurve::derivative l = 3 * l.self.now.row + 2

abbrev pub decreases-other_derivative : goal.decreases-other_derivative
decreases-other_derivative l = 3 * l.row + 1

abbrev pub decreases-composite_slope : goal.decreases-composite_slope
decreases-composite_slope l = 3 * l.row
