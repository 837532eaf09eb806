-- How a point is measured from a chord, told of the chord's two ends: what who draws may mark. Definitions only.
use Rattle.std.specs.Prelude.{◌≡◌, Option, Float, false, T}
use Rattle.std.specs.Float.Ieee.{le, is_nan}
use Rattle.arith.specs.Notation.{plus_zero, one}
use Rattle.math.specs.declared.Vec3.{Vec3}
use Rattle.math.specs.Math.{v_sub, v_length, v_length_squared}
use Rattle.math_chord.specs.declared.Measured.{Measured}
use Rattle.math_chord.specs.Chord.{chord_place, span_distance, span_place, bisection_distance, bisection_place}

-- from the chord from a to b, as where breaks and points are thinned
unfoldable pub measured_for_thinning : Vec3 → Vec3 → Vec3 → Measured
measured_for_thinning a b p =
    let axis = v_sub b a in
    let len2 = v_length_squared axis in
    record { distance = span_distance a axis len2 p; place = span_place a axis len2 p }

-- and as where a span from a to b is bisected
unfoldable pub measured_for_bisection : Vec3 → Vec3 → Vec3 → Measured
measured_for_bisection a b p =
    let chord = v_sub b a in
    let len = v_length chord in
    record { distance = bisection_distance a chord len p; place = bisection_place a chord len p }

-- a place that is a number lies in 0..1; proved in proofs/Places.antt
abbrev pub OnTheChord : Type 0
OnTheChord = (pa axis : Vec3) (divisor : Option Float) (p : Vec3) → is_nan (chord_place pa axis divisor p) ≡ false
    → T (le plus_zero (chord_place pa axis divisor p)) × T (le (chord_place pa axis divisor p) one)
