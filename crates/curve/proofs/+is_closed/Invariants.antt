-- `curve::is_closed` calls itself at a trim's base, a lower row. Assumes nothing.
use Rattle.curve.proofs.+is_closed.Given as goal

abbrev pub decreases-is_closed : goal.decreases-is_closed
decreases-is_closed l = l.row
