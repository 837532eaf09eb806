-- eval/curve.rs: derivative and tangent, by recursion on the curve, as the Rust's `match`. Definitions only.
use Rattle.std.specs.Prelude.{Bool, true, false, cond, List, ℕ, zero, suc, ◌+◌, ◌-◌, length, get_or, ltb, Float, Option}
use Rattle.std.specs.Float.Ieee.{neg}
use Rattle.arith.specs.Notation.{◌⊗◌, one, two}
use Rattle.arith_trig.specs.Trig.{sin_of, cos_of}
use Rattle.arith_exp.specs.Exp.{cosh_of, sinh_of}
use Rattle.math.specs.declared.Vec3.{Vec3}
use Rattle.math.specs.declared.Interval.{Interval}
use Rattle.math.specs.Math.{v_zero, v_add, v_sub, v_scale, y_dir, try_normalized, span_of}
use Rattle.brep.specs.Tree.{CurveTree, analytic, line, circle, ellipse, parabola, hyperbola, polyline, trimmed, composite, Segments, none, segment}
use Rattle.curve_parameter.specs.Run.{run_length, index_in, polyline_parameter, segment_index, segment_local, own_parameter}

-- polyline_derivative: the segment's own vector
unfoldable pub polyline_derivative : List Vec3 → Float → Vec3
polyline_derivative ps t =
    let i = index_in (length ps - 2) (polyline_parameter ps t) in
    cond (ltb (length ps) 2) v_zero (v_sub (get_or ps (i + 1) v_zero) (get_or ps i v_zero))

-- what a segment's derivative is scaled by: its span, or that the other way round
unfoldable pub signed_span : Interval → Bool → Float
signed_span range true = one ⊗ span_of range
signed_span range false = neg one ⊗ span_of range

-- an ellipse's derivative, of the cosine c and the sine s of its angle: x (-a s) + y (b c); a circle's is that of equal axes
unfoldable pub ellipse_derivative : Vec3 → Vec3 → Float → Float → Float → Float → Vec3
ellipse_derivative x y a b c s = v_add (v_scale x (neg a ⊗ s)) (v_scale y (b ⊗ c))

-- a parabola's derivative: x (2 F t) + y (2 F)
unfoldable pub parabola_derivative : Vec3 → Vec3 → Float → Float → Vec3
parabola_derivative x y d t = v_add (v_scale x (two ⊗ d ⊗ t)) (v_scale y (two ⊗ d))

-- a hyperbola's derivative, of its hyperbolic cosine c and sine s: x (a s) + y (b c)
unfoldable pub hyperbola_derivative : Vec3 → Vec3 → Float → Float → Float → Float → Vec3
hyperbola_derivative x y a b c s = v_add (v_scale x (a ⊗ s)) (v_scale y (b ⊗ c))

-- Curve::derivative_at
unfoldable mutual
  pub derivative_at : CurveTree → Float → Vec3
  derivative_at (analytic (line o d)) t = d
  derivative_at (analytic (circle f r)) t = ellipse_derivative f.ref_dir (y_dir f) r r (cos_of t) (sin_of t)
  derivative_at (analytic (ellipse f a b)) t = ellipse_derivative f.ref_dir (y_dir f) a b (cos_of t) (sin_of t)
  derivative_at (analytic (parabola f d)) t = parabola_derivative f.ref_dir (y_dir f) d t
  derivative_at (analytic (hyperbola f a b)) t = hyperbola_derivative f.ref_dir (y_dir f) a b (cosh_of t) (sinh_of t)
  derivative_at (polyline ps) t = polyline_derivative ps t
  derivative_at (trimmed base range) t = derivative_at base t
  derivative_at (composite ss) t = segment_derivative ss (segment_index (run_length ss) t) (segment_local (run_length ss) t)

  -- the derivative of composite_at: a reversed segment's flips
  pub segment_derivative : Segments → ℕ → Float → Vec3
  segment_derivative none i local = v_zero
  segment_derivative (segment curve range same rest) zero local =
      v_scale (derivative_at curve (own_parameter range same local)) (signed_span range same)
  segment_derivative (segment curve range same rest) (suc i) local = segment_derivative rest i local

-- Curve::tangent_at
abbrev pub tangent_at : CurveTree → Float → Option Vec3
tangent_at c t = try_normalized (derivative_at c t)
