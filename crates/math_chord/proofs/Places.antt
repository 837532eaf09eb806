-- A place that is a number lies on the chord. Assumes nothing.
use Rattle.std.specs.Prelude.{Some, None, T}
use mathlib.Core.Path.{◌≡◌, refl}
use mathlib.Core.Bool.{Bool, true, false, cond}
use lib.Ieee.{Float, lt, le, is_nan, of_bits}
use Rattle.arith.specs.Notation.{◌⊘◌, plus_zero, one}
use Rattle.arith.specs.Pick.{clamp_of}
use Rattle.arith.proofs.Cmp.{refused, not_nan_number}
use Rattle.math.specs.Math.{v_sub, v_dot}
use Rattle.math_chord.specs.Chord.{chord_place}
use Rattle.math_chord.specs.Measured.{OnTheChord}

-- what a clamp to 0..1 answers, where it is a number
held : (x : Float) → is_nan (clamp_of x plus_zero one) ≡ false → T (le plus_zero (clamp_of x plus_zero one)) × T (le (clamp_of x plus_zero one) one)
unfolding of_bits le
held x = go (lt x plus_zero) (lt one x) refl refl
  where
    go : (below above : Bool) → lt x plus_zero ≡ below → lt one x ≡ above → is_nan (cond below plus_zero (cond above one x)) ≡ false
        → T (le plus_zero (cond below plus_zero (cond above one x))) × T (le (cond below plus_zero (cond above one x)) one)
    go true above b a h = (tt, tt)
    go false true b a h = (tt, tt)
    go false false b a h = (refused x plus_zero (not_nan_number x h) tt b, refused one x tt (not_nan_number x h) a)

pub on_the_chord : OnTheChord
unfolding chord_place of_bits le
on_the_chord pa axis (Some divisor) p h = held (v_dot (v_sub p pa) axis ⊘ divisor) h
on_the_chord pa axis None p h = (tt, tt)
