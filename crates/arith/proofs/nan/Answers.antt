-- `arith::nan` meets its contract. Assumes nothing.
use Rattle.std.proofs.Common.{refl}
use lib.Ieee.{of_bits}
use Rattle.arith.proofs.nan.Goals as goal

pub returns : goal.returns
unfolding of_bits
returns c = refl
