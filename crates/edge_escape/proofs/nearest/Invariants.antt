-- `edge_escape::nearest` meets its contract. The invariant: both vertices have their nearest of the parameters up to i. Assumes nothing.
use Rattle.edge_escape.proofs.Sweep.{Swept}
use Rattle.brep.specs.Tree.{tree}
use Rattle.brep.specs.Rows.{lent}
use Rattle.edge_escape.proofs.nearest.Given as goal

abbrev pub invariant-loop-i : goal.invariant-loop-i
invariant-loop-i l =
    let curve = tree (lent l.fn.tables) l.fn.row in
    Swept curve l.natural l.start l.i l.a × Swept curve l.natural l.end l.i l.b
