-- `arith_exp::power` meets its contract, by whether the field is below that of the infinity. Assumes nothing.
use mathlib.Core.Path.{◌∙◌}
use lib.Ieee.{of_bits, of_int}
use Rattle.arith_exp.proofs.Field.{no_nan, below, above}
use Rattle.arith_exp.proofs.power.Goals as goal

pub float_from_bits-result : goal.float_from_bits-result
float_from_bits-result c = no_nan c.to_u64-n.result c.if-n-lt2047.true

pub returns-then-n-lt2047 : goal.returns-then-n-lt2047
unfolding of_int of_bits
returns-then-n-lt2047 c = below c.args.k c.to_u64-n.result c.to_u64-n.ensures c.if-n-lt2047.true

pub returns : goal.returns
unfolding of_int of_bits
returns c = c.infinity.ensures ∙ above c.args.k c.to_u64-n.result c.to_u64-n.ensures c.if-n-lt2047.false
