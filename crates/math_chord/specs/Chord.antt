-- The distance of a point to a chord, and the place on the chord that it is measured from: one leaf for bisection, the thinning of breaks and
-- the thinning of points. Definitions only.
use Rattle.std.specs.Prelude.{Float, Option, Some, None}
use Rattle.std.specs.Bool.{then_some}
use Rattle.std.specs.Float.Ieee.{lt}
use Rattle.arith.specs.Notation.{◌⊗◌, ◌⊘◌, plus_zero}
use Rattle.arith.specs.Constants.{ten_to_minus300}
use Rattle.arith.specs.Pick.{clamp_of}
use Rattle.math.specs.declared.Vec3.{Vec3}
use Rattle.math.specs.Math.{v_add, v_sub, v_scale, v_dot, v_length, unit_interval}

-- the foot of the perpendicular from p, as a place on the chord from pa along axis, from 0.0 at its start to 1.0 at its end:
-- ((p - pa).dot(axis) / divisor).clamp(0.0, 1.0), by which NaN and -0.0 pass; 0.0 where the chord has no length.
-- Whether it has one, and what is divided by then, are the caller's
unfoldable pub chord_place : Vec3 → Vec3 → Option Float → Vec3 → Float
chord_place pa axis (Some divisor) p = clamp_of (v_dot (v_sub p pa) axis ⊘ divisor) unit_interval.lo unit_interval.hi
chord_place pa axis None p = plus_zero

-- from the chord to p: p - (pa + axis * s), where s is the place; p - pa where the chord has no length, and not by the place 0.0:
-- pa + axis * 0.0 may be another float
unfoldable pub chord_offset : Vec3 → Vec3 → Option Float → Vec3 → Vec3
chord_offset pa axis (Some divisor) p = v_sub p (v_add pa (v_scale axis (chord_place pa axis (Some divisor) p)))
chord_offset pa axis None p = v_sub p pa

-- deviation and thin: the chord has a length where len2, its square, is above zero; that is the divisor
abbrev pub span_divisor : Float → Option Float
span_divisor len2 = then_some (lt plus_zero len2) len2

-- from such a chord to p
unfoldable pub span_offset : Vec3 → Vec3 → Float → Vec3 → Vec3
span_offset pa axis len2 p = chord_offset pa axis (span_divisor len2) p

-- the place on such a chord
unfoldable pub span_place : Vec3 → Vec3 → Float → Vec3 → Float
span_place pa axis len2 p = chord_place pa axis (span_divisor len2) p

-- how far p is from such a chord
unfoldable pub span_distance : Vec3 → Vec3 → Float → Vec3 → Float
span_distance pa axis len2 p = v_length (span_offset pa axis len2 p)

-- 1e-300: for bisection a chord that is not longer has no length
abbrev pub shortest_chord : Float
shortest_chord = ten_to_minus300

-- subdivide: the chord has a length where len is above 1e-300; the divisor is len * len
abbrev pub bisection_divisor : Float → Option Float
bisection_divisor len = then_some (lt shortest_chord len) (len ⊗ len)

-- from such a chord to p
unfoldable pub bisection_offset : Vec3 → Vec3 → Float → Vec3 → Vec3
bisection_offset pa chord len p = chord_offset pa chord (bisection_divisor len) p

-- the place on such a chord
unfoldable pub bisection_place : Vec3 → Vec3 → Float → Vec3 → Float
bisection_place pa chord len p = chord_place pa chord (bisection_divisor len) p

-- how far p is from such a chord
unfoldable pub bisection_distance : Vec3 → Vec3 → Float → Vec3 → Float
bisection_distance pa chord len p = v_length (bisection_offset pa chord len p)
