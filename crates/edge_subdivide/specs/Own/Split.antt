-- A span split or not. Definitions only.
use Rattle.std.specs.Prelude.{true, false, Option, None, Some}
use Rattle.brep.specs.Tree.{CurveTree}
use Rattle.curve.specs.Eval.{point_at}
use Rattle.options.specs.declared.Resolved.{Resolved}
use Rattle.edge_params.specs.Params.{midpoint}
use Rattle.edge_subdivide.specs.declared.End.{End}
use Rattle.edge_subdivide.specs.Bisect.{end_at, is_within}

-- subdivide up to its calls of itself
unfoldable pub split_of : CurveTree → Resolved → End → End → Option End
split_of c r a b =
    elim (is_within r a b (point_at c (midpoint a.t b.t))) [
      | true ↦ None
      | false ↦ Some (end_at c (midpoint a.t b.t))
    ]
