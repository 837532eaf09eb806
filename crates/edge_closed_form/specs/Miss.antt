-- edge.rs: how sample_params measures a closed form. Definitions only.
use Rattle.std.specs.Prelude.{List, [], ◌∷◌, Float}
use Rattle.arith.specs.Notation.{half}
use Rattle.arith.specs.Pick.{max_of}
use Rattle.math.specs.Math.{v_add, v_sub, v_scale, v_length}
use Rattle.brep.specs.Tree.{CurveTree}
use Rattle.curve.specs.Eval.{point_at}
use Rattle.edge_params.specs.Params.{midpoint}

-- how far the curve's middle lies from the middle of the chord between two parameters
unfoldable pub miss_of : CurveTree → Float → Float → Float
miss_of c a b = v_length (v_sub (point_at c (midpoint a b)) (v_scale (v_add (point_at c a) (point_at c b)) half))

-- params.windows(2).map(..).fold(0.0, f64::max), from the worst so far
unfoldable pub worst_miss : CurveTree → Float → List Float → Float
worst_miss c worst [] = worst
worst_miss c worst (a ∷ []) = worst
worst_miss c worst (a ∷ b ∷ l) = worst_miss c (max_of worst (miss_of c a b)) (b ∷ l)
