-- The measure of `curve_asks::far_at`: the row that a segment refers to is below it.
use Rattle.curve_asks.proofs.+far_at.Given as goal

abbrev pub decreases-far_at : goal.decreases-far_at
decreases-far_at l = l.row
