-- `edge_closed_form::worst_square` meets its contract: the last sample is of the curve, and what is left to measure, from some miss whose square the worst stands for, is the whole. Assumes nothing.
use mathlib.Core.Path.{◌≡◌}
use Prim.Native.Nat.{◌+◌}
use lib.Ieee.{Float}
use Rattle.brep.specs.Tree.{CurveTree}
use Rattle.curve_prepared.specs.Own.Prepared.{prepared_of, plain_point}
use Rattle.edge_closed_form.proofs.Squares.{Worst}
use Rattle.edge_closed_form.proofs.Miss.{Missing}
use Rattle.edge_closed_form.proofs.Located.{Written}
use Rattle.edge_closed_form.proofs.worst_square.Given as goal

abbrev pub invariant-loop-i : goal.invariant-loop-i
invariant-loop-i l =
    (l.last.point ≡ plain_point l.prepared l.last.param)
    × ((k : CurveTree) → prepared_of k ≡ l.prepared → ((m : Float) × Missing k l.fn.params l.rest m l.last.param l.i × Worst l.worst m) × Written k l.fn.chain l.fn.params l.chain (l.i + 1))
