-- The loop of `knots_thin::thin_breaks`: pa is the point of start, and what is kept, then what thinning leaves of the rest, is the whole. Assumes nothing.
use Rattle.std.proofs.Common.{◌≡◌}
use Rattle.brep.specs.Rows.{lent}
use Rattle.brep.specs.Tree.{tree}
use Rattle.curve.specs.Eval.{point_at}
use Rattle.knots.specs.Knots.{deviation}
use Rattle.knots_thin.proofs.Thinning.{Thinning}
use Rattle.knots_thin.proofs.thin_breaks.Given as goal

abbrev pub invariant-loop-i : goal.invariant-loop-i
invariant-loop-i l = record {
  point : l.pa ≡ point_at (tree (lent l.tables) l.row) l.start;
  thinned : Thinning (deviation (point_at (tree (lent l.tables) l.row))) l.sag l.range.hi l.range.lo l.initial.breaks l.breaks l.start l.k l.i;
}
