-- Options and Resolved of options.rs, each operation rounded once, in the Rust's order. Definitions only.
use Rattle.std.specs.Prelude.{Bool, cond, not, ◌&&◌, ◌||◌, ℕ, min, max, eqb, Float}
use Rattle.std.specs.Float.Ieee.{lt, neg, to_unsigned}
use Rattle.std.specs.Float.Ieee.Scale.{finite}
use Rattle.arith.specs.Notation.{◌⊖◌, ◌⊗◌, ◌⊘◌, bits, plus_zero, half, one, two}
use Rattle.arith.specs.Constants.{four, eight, thirty_five, hundredth, thousandth, four_ten_thousandths, ten_thousandth, least_normal}
use Rattle.arith.specs.Pick.{abs_of, min_of, max_of, clamp_of}
use Rattle.arith.specs.Floor.{ceil_of}
use Rattle.arith_trig.specs.Trig.{acos_of, pi}
use Rattle.options.specs.declared.Angle.{Angle}
use Rattle.options.specs.declared.Options.{Options}
use Rattle.options.specs.declared.Resolved.{Resolved}

-- an angle in radians
abbrev pub radians : Float → Angle
radians x = record { 0 = x }

-- π / 180, divided in binary64 (`one_degree` in proofs/Laws.antt)
abbrev pub degree : Float
degree = bits 0x3F91DF46A2529D39

-- an angle in degrees, by f64::to_radians
abbrev pub degrees : Float → Angle
degrees x = radians (x ⊗ degree)

-- the least angle that `resolve` lets pass: 1e-4
abbrev pub least_angle : Float
least_angle = ten_thousandth

-- the largest: π
abbrev pub largest_angle : Float
largest_angle = pi

-- whether `resolve` changes the angle
unfoldable pub is_clamped : Angle → Bool
is_clamped a = lt a.0 least_angle || lt largest_angle a.0

-- a relative deflection and an angle, with at least 1 segment, depth 12 and no scale
abbrev pub preset : Float → Angle → Options
preset d a = record { deflection = d; angle = a; relative = 1; segments = 1; depth = 12; scale = plus_zero }

-- Options::default: 0.0004 and 8 degrees
abbrev pub default_options : Options
default_options = preset four_ten_thousandths (degrees eight)

-- Options::draft: 0.01 and 35 degrees
abbrev pub draft_options : Options
draft_options = preset hundredth (degrees thirty_five)

-- Options::fine: 0.0001 and 4 degrees
abbrev pub fine_options : Options
fine_options = preset ten_thousandth (degrees four)

-- relative is true
abbrev pub is_relative : Options → Bool
is_relative o = not (eqb o.relative 0)

-- scale.is_finite() && scale > 0.0; a scale that is not so means no scale
abbrev pub has_scale : Options → Bool
has_scale o = finite o.scale && lt plus_zero o.scale

-- f64::MIN_POSITIVE
abbrev pub least_positive : Float
least_positive = least_normal

-- the deflection, or that times the scale where it is relative and there is a scale
abbrev pub absolute_deflection : Options → Float
absolute_deflection o = cond (is_relative o && has_scale o) (o.deflection ⊗ o.scale) o.deflection

-- the sag of the whole model
unfoldable pub resolved_sag : Options → Float
resolved_sag o = max_of (absolute_deflection o) least_positive

-- the scale, or 0 for none
unfoldable pub resolved_model : Options → Float
resolved_model o = cond (has_scale o) o.scale plus_zero

-- twice the deflection, or 0 where it is absolute
unfoldable pub resolved_relative : Options → Float
resolved_relative o = cond (is_relative o) (o.deflection ⊗ two) plus_zero

-- Options::resolve
unfoldable pub resolve : Options → Resolved
resolve o = record {
  sag = resolved_sag o;
  model = resolved_model o;
  relative = resolved_relative o;
  angle = clamp_of o.angle.0 least_angle largest_angle;
  segments = max o.segments 1;
  depth = min (max o.depth 1) 24;
}

-- relative, and extent a size to be relative to
abbrev pub is_relative_to : Resolved → Float → Bool
is_relative_to r extent = lt plus_zero r.relative && (lt plus_zero r.model && (lt plus_zero extent && finite extent))

-- Resolved::sag_for: the tolerance of a feature of this extent
unfoldable pub sag_for : Resolved → Float → Float
sag_for r extent =
    cond (is_relative_to r extent)
    (max_of (clamp_of (r.model ⊘ (two ⊗ extent)) half two ⊗ extent ⊗ r.relative) (r.sag ⊘ eight))
    r.sag

-- Resolved::for_extent: the sag alone changes
unfoldable pub for_extent : Resolved → Float → Resolved
for_extent r extent = record {
  sag = sag_for r extent;
  model = r.model;
  relative = r.relative;
  angle = r.angle;
  segments = r.segments;
  depth = r.depth;
}

-- the step that keeps an arc of a radius above the sag within it, and the angle for any other
abbrev pub step_by_sag : Resolved → Float → Float
step_by_sag r radius =
    cond (lt r.sag radius) (two ⊗ acos_of (clamp_of (one ⊖ r.sag ⊘ radius) (neg one) one)) r.angle

-- Resolved::angle_step_for_radius: at least 1e-3
unfoldable pub angle_step : Resolved → Float → Float
angle_step r radius = max_of (min_of (step_by_sag r (abs_of radius)) r.angle) thousandth

-- Resolved::segments_for_arc: segments that sweep `total` radians on a radius
unfoldable pub segments_for_arc : Resolved → Float → Float → ℕ
segments_for_arc r radius total =
    max (max (to_unsigned 64 (ceil_of (abs_of total ⊘ angle_step r radius))) r.segments) 1
