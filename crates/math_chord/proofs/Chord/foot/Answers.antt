-- `Chord::foot` meets its contract. Assumes nothing.
use Rattle.math_chord.specs.Own.Made.{chord_foot}
use Rattle.math_chord.specs.Chord.{chord_offset, chord_place}
use Rattle.math_chord.proofs.Chord.foot.Goals as goal

pub returns-in-Some : goal.returns-in-Some
unfolding chord_foot chord_offset
returns-in-Some c = rw (c.in-Some.is, c.length_squared.ensures, c.sub.ensures, c.add-nearest.ensures, c.scale.ensures, c.place_on-place.ensures)

pub returns-in-None : goal.returns-in-None
unfolding chord_foot chord_offset chord_place
returns-in-None c = rw (c.in-None.is, c.length_squared-in-None.ensures, c.sub-in-None.ensures)
