-- eval/curve.rs: a curve's point, by recursion on the curve, as the Rust's `match`. Definitions only.
use Rattle.std.specs.Prelude.{cond, List, ℕ, zero, suc, ◌+◌, ◌-◌, length, get_or, eqb, Float}
use Rattle.arith.specs.Notation.{◌⊖◌, ◌⊗◌, count, two}
use Rattle.arith_trig.specs.Trig.{sin_of, cos_of}
use Rattle.arith_exp.specs.Exp.{cosh_of, sinh_of}
use Rattle.math.specs.declared.Vec3.{Vec3}
use Rattle.math.specs.Math.{v_zero, v_add, v_scale, v_lerp, y_dir}
use Rattle.brep.specs.Tree.{CurveTree, analytic, line, circle, ellipse, parabola, hyperbola, polyline, trimmed, composite, Segments, none, segment}
use Rattle.curve_parameter.specs.Run.{run_length, index_in, polyline_parameter, segment_index, segment_local, own_parameter}

-- from point i towards the next, by what t has above i
abbrev pub along_from : List Vec3 → ℕ → Float → Vec3
along_from ps i t = v_lerp (get_or ps i v_zero) (get_or ps (i + 1) v_zero) (t ⊖ count i)

-- polyline_point: without points zero, with one that one
unfoldable pub polyline_point : List Vec3 → Float → Vec3
polyline_point ps t =
    let u = polyline_parameter ps t in
    cond (eqb (length ps) 0) v_zero
    (cond (eqb (length ps) 1) (get_or ps 0 v_zero)
    (along_from ps (index_in (length ps - 2) u) u))

-- a point by its parts along two axes, O + x (a c) + y (b s): an ellipse's, of the cosine c and the sine s of its angle; a circle's, Frame::polar,
-- with equal semi-axes; a hyperbola's, of the hyperbolic cosine and sine
unfoldable pub axes_point : Vec3 → Vec3 → Vec3 → Float → Float → Float → Float → Vec3
axes_point origin x y a b c s = v_add (v_add origin (v_scale x (a ⊗ c))) (v_scale y (b ⊗ s))

-- a parabola's point: O + x (F t t) + y (2 F t)
unfoldable pub parabola_point : Vec3 → Vec3 → Vec3 → Float → Float → Vec3
parabola_point origin x y d t = v_add (v_add origin (v_scale x (d ⊗ t ⊗ t))) (v_scale y (two ⊗ d ⊗ t))

-- Curve::point_at
unfoldable mutual
  pub point_at : CurveTree → Float → Vec3
  point_at (analytic (line o d)) t = v_add o (v_scale d t)
  point_at (analytic (circle f r)) t = axes_point f.origin f.ref_dir (y_dir f) r r (cos_of t) (sin_of t)
  point_at (analytic (ellipse f a b)) t = axes_point f.origin f.ref_dir (y_dir f) a b (cos_of t) (sin_of t)
  point_at (analytic (parabola f d)) t = parabola_point f.origin f.ref_dir (y_dir f) d t
  point_at (analytic (hyperbola f a b)) t = axes_point f.origin f.ref_dir (y_dir f) a b (cosh_of t) (sinh_of t)
  point_at (polyline ps) t = polyline_point ps t
  point_at (trimmed base range) t = point_at base t
  point_at (composite ss) t = segment_point ss (segment_index (run_length ss) t) (segment_local (run_length ss) t)

  -- the point of composite_at: segment i's curve at its own parameter
  pub segment_point : Segments → ℕ → Float → Vec3
  segment_point none i local = v_zero
  segment_point (segment curve range same rest) zero local = point_at curve (own_parameter range same local)
  segment_point (segment curve range same rest) (suc i) local = segment_point rest i local
