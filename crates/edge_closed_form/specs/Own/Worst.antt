-- The largest miss so far, by its square. Definitions only.
use Rattle.std.specs.Prelude.{cond, T, Float}
use Rattle.std.specs.Float.Ieee.{lt, le}
use Rattle.arith.specs.Notation.{half}
use Rattle.math.specs.Math.{v_add, v_sub, v_scale, v_length_squared}
use Rattle.brep.specs.Tree.{CurveTree}
use Rattle.curve.specs.Eval.{point_at}
use Rattle.edge_params.specs.Params.{midpoint}

-- what stands under the root of `miss_of`
unfoldable pub miss_square : CurveTree → Float → Float → Float
miss_square c a b = v_length_squared (v_sub (point_at c (midpoint a b)) (v_scale (v_add (point_at c a) (point_at c b)) half))

-- the larger of two squares; the first where the second is a NaN
unfoldable pub larger_of : Float → Float → Float
larger_of w s = cond (lt w s) s w

-- two numbers that no comparison tells apart
pub record Alike (x y : Float) : Type 0 where
  pub below : T (le x y)
  pub above : T (le y x)
