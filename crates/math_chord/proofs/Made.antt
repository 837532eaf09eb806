-- What a chord tells of a point, by what it was made for. Assumes nothing.
use mathlib.Core.Path.{◌≡◌, ap, ◌∙◌}
use Rattle.arith_root.specs.Root.{root_of}
use Rattle.math.specs.declared.Vec3.{Vec3}
use Rattle.math.specs.Math.{v_sub, v_length, v_length_squared}
use Rattle.math_chord.specs.declared.Chord.{Chord}
use Rattle.math_chord.specs.declared.Foot.{Foot}
use Rattle.math_chord.specs.declared.Measured.{Measured}
use Rattle.math_chord.specs.Chord.{span_place, span_offset, span_distance, bisection_place, bisection_offset, bisection_distance}
use Rattle.math_chord.specs.Measured.{measured_for_thinning, measured_for_bisection}
use Rattle.math_chord.specs.Own.Made.{thinning_chord, bisection_chord, chord_foot}

-- a foot as it is told of outside
abbrev pub told : Foot → Measured
told f = record { distance = root_of f.squared; place = f.place }

module _ (pa pb : Vec3) {c : Chord} where
  -- the root of the leaf's square is the distance that the definitions have
  pub distance_from : c ≡ thinning_chord pa pb → (p : Vec3) → root_of (chord_foot c p).squared ≡ span_distance pa (v_sub pb pa) (v_length_squared (v_sub pb pa)) p
  unfolding thinning_chord chord_foot span_distance span_offset v_length
  distance_from e p = ap (λ (c : Chord). root_of (chord_foot c p).squared) e

  pub bisection_from : c ≡ bisection_chord pa pb → (p : Vec3) → root_of (chord_foot c p).squared ≡ bisection_distance pa (v_sub pb pa) (v_length (v_sub pb pa)) p
  unfolding bisection_chord chord_foot bisection_distance bisection_offset v_length
  bisection_from e p = ap (λ (c : Chord). root_of (chord_foot c p).squared) e

  -- and a foot told of is what the definitions have it be
  module _ (p : Vec3) {f : Foot} {m : Measured} (g : f ≡ chord_foot c p) (h : m ≡ told f) where
    pub told_for_thinning : c ≡ thinning_chord pa pb → m ≡ measured_for_thinning pa pb p
    unfolding thinning_chord chord_foot span_distance span_offset span_place measured_for_thinning v_length
    told_for_thinning e = h ∙ ap told (g ∙ ap (λ (c : Chord). chord_foot c p) e)

    pub told_for_bisection : c ≡ bisection_chord pa pb → m ≡ measured_for_bisection pa pb p
    unfolding bisection_chord chord_foot bisection_distance bisection_offset bisection_place measured_for_bisection v_length
    told_for_bisection e = h ∙ ap told (g ∙ ap (λ (c : Chord). chord_foot c p) e)
