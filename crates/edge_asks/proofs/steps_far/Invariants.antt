-- `edge_asks::steps_far` meets its contract. The loop's invariant: none of the first i steps is too far. Assumes nothing.
use Rattle.std.proofs.Common.{◌≡◌, false, List}
use lib.Ieee.{Float}
use Rattle.brep.specs.Rows.{tables}
use Rattle.brep.specs.Tree.{tree}
use Rattle.curve_asks.specs.Asks.{asks_far}
use Rattle.edge_params.specs.Work.{some_far}
use Rattle.edge_params.specs.Params.{steps}
use Rattle.edge_asks.proofs.steps_far.Given as goal

abbrev pub invariant-loop-i : goal.invariant-loop-i
invariant-loop-i l =
    (points reals : List Float) → some_far (asks_far (tree (tables points l.curves reals l.parts l.ranges) l.row)) (steps l.range l.n l.i) ≡ false
