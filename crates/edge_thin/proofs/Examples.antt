-- Chains thinned by computation, with sag 1 and angle 0.14. Assumes nothing.
use Rattle.std.specs.Prelude.{Err, Ok}
use mathlib.Core.Path.{◌≡◌, refl}
use mathlib.Core.List.{List, [], ◌∷◌}
use Prim.Native.Nat.{ℕ, ◌+◌, ◌*◌, ◌^◌}
use lib.Ieee.{Float, round, of_bits, of_int, add, sub, mul, div, neg, lt, le, eq, is_nan}
use Rattle.arith.specs.Notation.{◌⊗◌, plus_zero, one, two}
use Rattle.arith.specs.Constants.{nearest_float, hundredth}
use Rattle.arith_root.specs.Root.{root_of}
use Rattle.arith_trig.specs.Trig.{halved, summed, arc_of, angle_of, acos_by, acos_of}
use Rattle.math.specs.Math.{vec, v_add, v_sub, v_scale, v_dot, v_length, try_normalized, angle_between}
use Rattle.math_chord.specs.Chord.{chord_place, chord_offset, span_offset, span_distance}
use Rattle.edge_record.specs.declared.Sample.{Sample}
use Rattle.edge_record.specs.Chain.{last_of}
use Rattle.edge_thin_span.specs.Span.{worst_from, worst_of, directions, span_turn, decision}
use Rattle.edge_thin_mark.specs.Spans.{kept_in, flagged}
use Rattle.edge_thin.specs.Thin.{flag_count, evens, restored, retained_by, thinned}
use Rattle.refusal.specs.declared.Refusal.TheVariants.{Endless}

abbrev at : Float → Float → Float → Sample
at x y t = record { point = vec x y plus_zero; param = t }

-- sag * 0.01, and the angle
abbrev tolerance : Float
tolerance = one ⊗ hundredth

abbrev angle : Float
angle = nearest_float 14 100

-- the scope's polyline (0,0,0), (1,0,0), (1,1,0), and three points in a row
abbrev corner : List Sample
corner = at plus_zero plus_zero plus_zero ∷ at one plus_zero one ∷ at one one two ∷ []

abbrev row : List Sample
row = at plus_zero plus_zero plus_zero ∷ at one plus_zero one ∷ at two plus_zero two ∷ []

-- 6e8 + n u, with u = 2^-23, the step from 6e8 to the next float
abbrev beyond : ℕ → Float
beyond n = nearest_float (6 * 10 ^ 8 * 2 ^ 23 + n) (2 ^ 23)

-- the scope's polyline far from the origin: (6e8,6e8,0), (6e8 + u,6e8,0), (6e8 + 10u,6e8 + 3u,0). It turns too much, and no distance is above zero
abbrev far : List Sample
far =
    at (beyond 0) (beyond 0) plus_zero
    ∷ at (beyond 1) (beyond 0) one
    ∷ at (beyond 10) (beyond 3) two
    ∷ []

-- the corner stays; the middle one of a row goes, unless the segment floor asks for it; the last is refused
pub examples : thinned tolerance angle 2 corner ∷ thinned tolerance angle 2 row ∷ thinned tolerance angle 3 row ∷ thinned tolerance angle 2 far ∷ []
    ≡ Ok corner ∷ Ok (at plus_zero plus_zero plus_zero ∷ at two plus_zero two ∷ []) ∷ Ok row ∷ Err Endless ∷ []
unfolding thinned retained_by restored flag_count evens flagged kept_in decision span_turn worst_of worst_from directions angle_between span_distance span_offset chord_offset chord_place try_normalized v_add v_sub v_scale v_dot v_length last_of acos_of acos_by angle_of arc_of summed halved root_of add sub mul div neg lt le eq is_nan of_bits of_int round
examples = refl
