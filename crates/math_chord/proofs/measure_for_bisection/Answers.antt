-- `measure_for_bisection`: what the definitions have is what the chord's foot tells. Assumes nothing.
use Rattle.math_chord.proofs.Made.{told_for_bisection}
use Rattle.math_chord.proofs.measure_for_bisection.Goals as goal

pub returns : goal.returns
returns c = told_for_bisection c.args.a c.args.b c.args.p c.foot.ensures c.measured.ensures c.for_bisection.ensures
