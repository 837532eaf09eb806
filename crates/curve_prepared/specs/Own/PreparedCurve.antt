-- The curve that a curve prepared is of. Definitions only.
use Rattle.brep.specs.Rows.{lent}
use Rattle.brep.specs.Tree.{CurveTree, tree}
use Rattle.curve_prepared.specs.declared.PreparedCurve.{PreparedCurve}

-- the curve of its row
abbrev pub curve_of : PreparedCurve → CurveTree
curve_of curve = tree (lent curve.tables.now) curve.row
