-- A chord as it is made of its two ends, for what it is made for, and what its leaf answers. Definitions only.
use Rattle.math.specs.declared.Vec3.{Vec3}
use Rattle.math.specs.Math.{v_sub, v_length, v_length_squared}
use Rattle.math_chord.specs.declared.Chord.{Chord}
use Rattle.math_chord.specs.declared.Foot.{Foot}
use Rattle.math_chord.specs.Chord.{chord_offset, chord_place, span_divisor, bisection_divisor}

-- for thinning: what span_offset is told of the chord
unfoldable pub thinning_chord : Vec3 → Vec3 → Chord
thinning_chord pa pb = let axis = v_sub pb pa in record { from = pa; axis = axis; divisor = span_divisor (v_length_squared axis) }

-- for bisection: what bisection_offset is told of it
unfoldable pub bisection_chord : Vec3 → Vec3 → Chord
bisection_chord pa pb = let axis = v_sub pb pa in record { from = pa; axis = axis; divisor = bisection_divisor (v_length axis) }

-- what its leaf answers of p: how far p is from it, squared, and the place
unfoldable pub chord_foot : Chord → Vec3 → Foot
chord_foot c p = record { squared = v_length_squared (chord_offset c.from c.axis c.divisor p); place = chord_place c.from c.axis c.divisor p }
