-- The curve of an edge to be drawn. Definitions only.
use Rattle.brep.specs.Rows.{lent}
use Rattle.brep.specs.Tree.{CurveTree, tree}
use Rattle.edge_drawing.specs.declared.Drawing.{Drawing}
use Rattle.edge_drawing.specs.declared.Sampling.{Sampling}

-- the edge's curve, of the drawing's tables
abbrev pub drawn_curve : Drawing → CurveTree
drawn_curve drawing = tree (lent drawing.tables.now) drawing.edge.curve

-- the curve to be sampled
abbrev pub sampled_curve : Sampling → CurveTree
sampled_curve sampling = drawn_curve sampling.drawing.now
