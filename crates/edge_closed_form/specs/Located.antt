-- edge.rs: a curve at many parameters. Definitions only.
use Rattle.std.specs.Prelude.{List, [], ◌∷◌, Float}
use Rattle.brep.specs.Tree.{CurveTree}
use Rattle.curve.specs.Eval.{point_at}
use Rattle.edge_record.specs.declared.Sample.{Sample}

-- the curve's points at the parameters
unfoldable pub located : CurveTree → List Float → List Sample
located c [] = []
located c (t ∷ l) = record { point = point_at c t; param = t } ∷ located c l
