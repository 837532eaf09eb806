-- What is told hangs together, whatever is divided by. Assumes nothing.
use mathlib.Core.Path.{refl, sym}
use mathlib.Core.Bool.{Bool, true, false}
use lib.Ieee.{Float, lt}
use Rattle.std.specs.Bool.{then_some}
use Rattle.arith.specs.Notation.{◌⊗◌, plus_zero}
use Rattle.arith.proofs.Cmp.{never}
use Rattle.math.specs.declared.Vec3.{Vec3}
use Rattle.math.specs.Math.{v_sub, v_length, v_length_squared}
use Rattle.math_chord.specs.Chord.{chord_place, chord_offset, span_distance, span_offset, span_place, bisection_distance, bisection_offset, bisection_place, shortest_chord}
use Rattle.math_chord.specs.Measured.{measured_for_thinning, measured_for_bisection}
use Rattle.edge_measured.specs.Place.{FromPlace, MeasuredFromPlace}

from_place : (a b p : Vec3) (h : Bool) (d : Float)
    → FromPlace a b p h (record { distance = v_length (chord_offset a (v_sub b a) (then_some h d) p); place = chord_place a (v_sub b a) (then_some h d) p })
unfolding chord_offset chord_place
from_place a b p true d = record { along = λ e. refl; none = λ e. never e }
from_place a b p false d = record { along = λ e. never (sym e); none = λ e. (refl, refl) }

pub measured_from_place : MeasuredFromPlace
unfolding measured_for_thinning span_distance span_offset span_place measured_for_bisection bisection_distance bisection_offset bisection_place
measured_from_place = record {
  thinning = λ a b p. from_place a b p (lt plus_zero (v_length_squared (v_sub b a))) (v_length_squared (v_sub b a));
  bisection = λ a b p. from_place a b p (lt shortest_chord (v_length (v_sub b a))) (v_length (v_sub b a) ⊗ v_length (v_sub b a));
}
