-- `edge_extent::add_finite` meets its contract. Assumes nothing.
use Rattle.edge_extent.proofs.Laws.{inside}
use Rattle.edge_extent.proofs.add_finite.Goals as goal

pub returns-then-p-b-3 : goal.returns-then-p-b-3
returns-then-p-b-3 c =
    let a = c.args in
    inside a.b a.p c.if-b-p.true c.if-p-b.true c.if-b-p-2.true c.if-p-b-2.true c.if-b-p-3.true c.if-p-b-3.true
