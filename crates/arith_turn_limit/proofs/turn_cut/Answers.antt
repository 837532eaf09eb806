-- `arith_turn_limit::turn_cut` meets its contract. Assumes nothing.
use lib.Ieee.{of_bits, of_int}
use Rattle.arith_turn_limit.specs.Own.Limit.{turn_cut}
use Rattle.arith_turn_limit.proofs.turn_cut.Goals as goal

pub returns : goal.returns
unfolding turn_cut of_bits of_int
returns c = rw (c.cut_if.ensures, c.square_if.ensures)
