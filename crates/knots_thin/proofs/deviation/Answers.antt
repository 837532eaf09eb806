-- `knots_thin::deviation` meets its contract. Assumes nothing.
use Rattle.brep.specs.Rows.{lent}
use Rattle.brep.specs.Tree.{tree}
use Rattle.curve.specs.Eval.{point_at}
use Rattle.knots_thin.proofs.Quarters.{deviation_is}
use Rattle.knots_thin.proofs.deviation.Goals as goal

pub returns : goal.returns
returns c =
    let st = c in
    let a = st.args in
    rw c.worst_of.ensures (deviation_is (point_at (tree (lent a.tables.now) a.row)) a.a a.b st.requires c.point_at-pb.ensures c.point_at-p1.ensures c.point_at-p2.ensures c.point_at-p3.ensures)
