-- `arith_trig::sin_cos` meets its contract: k, r and k mod 4 are those of the definitions. Assumes nothing.
use Rattle.arith_trig.specs.Own.SinCos.{sin_cos_of}
use Rattle.arith_trig.specs.Trig.{sin_of, cos_of}
use Rattle.arith_trig.proofs.Modulo.{below_four}
use Rattle.arith_trig.proofs.sin_cos.Goals as goal

pub both-requires : goal.both-requires
both-requires c = rw c.quarter.ensures (below_four c.periods-k.result)

pub returns : goal.returns
unfolding sin_cos_of sin_of cos_of
returns c =
    let p = rw (c.quarter.ensures, c.left_over.ensures, c.periods-k.ensures) at c.both.ensures in
    λ i. record { sin = p.0 i; cos = p.1 i }
