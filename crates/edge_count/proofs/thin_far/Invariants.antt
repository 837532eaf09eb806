-- `edge_count::thin_far` meets its contract: nothing before break number i is too far, so what is too far is in the rest. Assumes nothing.
use mathlib.Core.Path.{◌≡◌}
use lib.ListN.{drop}
use Rattle.brep.specs.Rows.{lent}
use Rattle.brep.specs.Tree.{tree}
use Rattle.curve.specs.Eval.{point_at}
use Rattle.curve_asks.specs.Asks.{asks_far}
use Rattle.knots.specs.Knots.{deviation}
use Rattle.edge_count.proofs.Thinning.{far_from}
use Rattle.edge_count.proofs.thin_far.Given as goal

abbrev pub invariant-loop-i : goal.invariant-loop-i
invariant-loop-i l =
    let c = tree (lent l.tables) l.row in
    far_from (asks_far c) (deviation (point_at c)) l.sag l.range.hi l.start (drop l.i l.breaks) ≡ far_from (asks_far c) (deviation (point_at c)) l.sag l.range.hi l.range.lo l.breaks
