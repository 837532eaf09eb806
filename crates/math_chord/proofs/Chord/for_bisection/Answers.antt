-- `Chord::for_bisection` meets its contract. Assumes nothing.
use Rattle.math_chord.specs.Own.Made.{bisection_chord}
use Rattle.math_chord.proofs.Chord.for_bisection.Goals as goal

pub returns : goal.returns
unfolding bisection_chord
returns c = rw (c.then_some.ensures, c.length-len.ensures, c.sub-axis.ensures)
