-- `arith_trig::quarter` meets its contract: where the sum is whole, by its last two bits; elsewhere by `quarter_far`. Assumes nothing.
use lib.Ieee.{of_bits}
use Rattle.arith_trig.proofs.LastBits.{no_nan, quarter_near}
use Rattle.arith_trig.proofs.quarter.Goals as goal

pub returns-then-s-k : goal.returns-then-s-k
unfolding of_bits
returns-then-s-k c = quarter_near c.args.k c.if-s.true c.if-s-2.true c.if-s-k.true
