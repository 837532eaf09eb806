-- `place_on` meets its contract. Assumes nothing.
use Rattle.math_chord.specs.Chord.{chord_place}
use Rattle.math_chord.proofs.place_on.Goals as goal

pub returns : goal.returns
unfolding chord_place
returns c = rw (c.clamp.ensures, c.dot.ensures, c.sub.ensures)
