-- What is told of a point and the two ends of a chord is finite where no coordinate is large. Definitions only.
use Rattle.std.specs.Prelude.{◌≡◌, ◌^◌, Float, T}
use Rattle.std.specs.Float.Ieee.{le}
use Rattle.std.specs.Float.Ieee.Scale.{finite}
use Rattle.arith.specs.Notation.{bits}
use Rattle.arith.specs.Pick.{abs_of}
use Rattle.arith.specs.Constants.{nearest_float}
use Rattle.math.specs.declared.Vec3.{Vec3}
use Rattle.math_chord.specs.declared.Measured.{Measured}
use Rattle.math_chord.specs.Measured.{measured_for_thinning, measured_for_bisection}

-- the float nearest to 1e150
abbrev pub limit : Float
limit = bits 0x5F138D352E5096AF

-- no coordinate is a NaN or further than 1e150 from 0
pub record Within (p : Vec3) : Type 0 where
  pub x : T (le (abs_of p.x) limit)
  pub y : T (le (abs_of p.y) limit)
  pub z : T (le (abs_of p.z) limit)

-- neither the distance nor the place is a NaN or infinite; so the place lies in 0..1, by `OnTheChord` of math_chord
pub record Told (m : Measured) : Type 0 where
  pub distance : T (finite m.distance)
  pub place : T (finite m.place)

-- proved in proofs/Numbers.antt
pub record FiniteWithin : Type 0 where
  pub is_limit : limit ≡ nearest_float (10 ^ 150) 1
  pub thinning : (a b p : Vec3) → Within a → Within b → Within p → Told (measured_for_thinning a b p)
  pub bisection : (a b p : Vec3) → Within a → Within b → Within p → Told (measured_for_bisection a b p)
