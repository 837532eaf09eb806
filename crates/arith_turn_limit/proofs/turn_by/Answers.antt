-- `arith_turn_limit::turn_by` meets its contract. Assumes nothing.
use Rattle.std.proofs.Common.{refl}
use lib.Ieee.{of_bits, of_int}
use Rattle.arith_turn_limit.proofs.turn_by.Goals as goal

pub returns : goal.returns
unfolding of_bits of_int
returns c = refl
