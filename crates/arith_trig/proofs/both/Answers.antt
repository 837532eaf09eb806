-- `arith_trig::both` meets its contract: what is picked at q is the sine, and what is picked one on is the cosine. Assumes nothing.
use Rattle.std.proofs.Common.{◌+◌, ◌%◌, ◌∙◌, arith}
use lib.Ieee.{of_bits, of_int}
use Rattle.arith_trig.specs.Trig.{horner_steps}
use Rattle.arith_trig.proofs.Cases.{picked, cos_as_sin}
use Rattle.arith_trig.proofs.both.Goals as goal

pub returns : goal.returns
unfolding horner_steps of_bits of_int
returns c =
    let r = c.args.r in
    let q = c.args.q in
    let at = picked r c.series.result c.series-2.result c.series.ensures c.series-2.ensures in
    (at q c.requires, at ((q + 1) % 4) (omega arith) ∙ cos_as_sin q r c.requires)
