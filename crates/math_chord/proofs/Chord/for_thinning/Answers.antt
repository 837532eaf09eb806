-- `Chord::for_thinning` meets its contract. Assumes nothing.
use Rattle.math_chord.specs.Own.Made.{thinning_chord}
use Rattle.math_chord.proofs.Chord.for_thinning.Goals as goal

pub returns : goal.returns
unfolding thinning_chord
returns c = rw (c.then_some.ensures, c.length_squared-len2.ensures, c.sub-axis.ensures)
