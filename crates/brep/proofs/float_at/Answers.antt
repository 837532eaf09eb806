-- `brep::float_at` meets its contract. Assumes nothing.
use lib.Ieee.{of_bits}
use Rattle.brep.proofs.float_at.Goals as goal

pub returns : goal.returns
unfolding of_bits
returns c = c.at_or.ensures
