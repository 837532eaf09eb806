-- `edge_extent::probe_each` meets its contract. The invariant: the box has the first i probes. Assumes nothing.
use native.Mathlib.Omega.{arith}
use Rattle.brep.specs.Tree.{CurveTree}
use Rattle.edge_extent.proofs.Laws.{one_more, all_nine}
use Rattle.edge_extent.proofs.probe_each.Goals as goal

pub loop-i-preserved : goal.loop-i-preserved
loop-i-preserved g c = λ (k : CurveTree) h. one_more k _ _ c.loop-i.i (c.loop-i.invariant k h) c.at.ensures (h _ _ c.point.ensures) c.add_finite-found.ensures

pub returns : goal.returns
returns g c = λ (k : CurveTree) h. all_nine k _ _ _ (c.loop-i.invariant k h) (omega arith) (omega arith)
