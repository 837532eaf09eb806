-- `arith_trig::arc` meets its contract: its steps are the definition's, one by one. Assumes nothing.
use Rattle.std.proofs.Common.{ap}
use lib.Ieee.{of_bits, of_int}
use Rattle.arith.specs.Notation.{◌⊗◌, count}
use Rattle.arith_trig.specs.Trig.{arc_of, summed}
use Rattle.arith_trig.proofs.arc.Goals as goal

pub returns : goal.returns
unfolding arc_of summed of_bits of_int
returns c = ap (λ v. count 16 ⊗ (c.args.y ⊗ v)) c.summed.ensures
