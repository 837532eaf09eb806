-- `measure_for_thinning`: what the definitions have is what the chord's foot tells. Assumes nothing.
use Rattle.math_chord.proofs.Made.{told_for_thinning}
use Rattle.math_chord.proofs.measure_for_thinning.Goals as goal

pub returns : goal.returns
returns c = told_for_thinning c.args.a c.args.b c.args.p c.foot.ensures c.measured.ensures c.for_thinning.ensures
