-- What the constants are. Assumes nothing.
use mathlib.Core.Path.{◌≡◌, refl}
use lib.Ieee.{of_bits}
use Rattle.math.specs.declared.TheConstants.Aabb.{EMPTY}
use Rattle.math.specs.declared.TheConstants.Interval.{UNIT}
use Rattle.math.specs.declared.TheConstants.Vec3.{ZERO}
use Rattle.math.specs.Math.{v_zero, empty_box, unit_interval}

pub zero_is : ZERO ≡ v_zero
zero_is = refl

pub empty_is : EMPTY ≡ empty_box
unfolding of_bits
empty_is = refl

pub unit_is : UNIT ≡ unit_interval
unit_is = refl
