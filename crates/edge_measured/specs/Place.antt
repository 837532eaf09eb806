-- What is told of a point and the two ends of a chord hangs together: the distance is that from the place. Definitions only.
use Rattle.std.specs.Prelude.{◌≡◌, Bool, true, false}
use Rattle.std.specs.Float.Ieee.{lt}
use Rattle.arith.specs.Notation.{plus_zero}
use Rattle.math.specs.declared.Vec3.{Vec3}
use Rattle.math.specs.Math.{v_add, v_sub, v_scale, v_length, v_length_squared}
use Rattle.math_chord.specs.declared.Measured.{Measured}
use Rattle.math_chord.specs.Chord.{shortest_chord}
use Rattle.math_chord.specs.Measured.{measured_for_thinning, measured_for_bisection}

-- of the chord from a to b, which has a length or has none, and the point p
pub record FromPlace (a b p : Vec3) (has_length : Bool) (m : Measured) : Type 0 where
  -- how far p is from a + (b - a) * place
  pub along : has_length ≡ true → m.distance ≡ v_length (v_sub p (v_add a (v_scale (v_sub b a) m.place)))
  -- without a length, how far it is from a, and the place is 0.0
  pub none : has_length ≡ false → (m.distance ≡ v_length (v_sub p a)) × (m.place ≡ plus_zero)

-- proved in proofs/Place.antt
pub record MeasuredFromPlace : Type 0 where
  pub thinning : (a b p : Vec3) → FromPlace a b p (lt plus_zero (v_length_squared (v_sub b a))) (measured_for_thinning a b p)
  pub bisection : (a b p : Vec3) → FromPlace a b p (lt shortest_chord (v_length (v_sub b a))) (measured_for_bisection a b p)
