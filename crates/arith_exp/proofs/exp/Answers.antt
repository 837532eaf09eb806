-- `arith_exp::exp` meets its contract: k, r and the steps of the series are those of the definition. Assumes nothing.
use lib.Ieee.{of_bits, of_int}
use Rattle.arith_exp.specs.Exp.{exp_of, series, exp_steps}
use Rattle.arith_exp.proofs.exp.Goals as goal

pub returns : goal.returns
unfolding exp_of series exp_steps of_bits of_int
returns c = rw (c.power.ensures, c.series.ensures, c.left_over.ensures, c.periods-k.ensures)
