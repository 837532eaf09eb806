-- `edge_escape::nearest` meets its contract. The invariant: both vertices have their nearest of the parameters up to i. Assumes nothing.
use Rattle.edge_escape.proofs.Sweep.{swept_first, swept_more, swept_all}
use native.Mathlib.Omega.{arith}
use Rattle.edge_escape.proofs.nearest.Goals as goal

pub loop-i-init : goal.loop-i-init
loop-i-init c =
    let p = rw (c.new-curve.ensures.tables, c.new-curve.ensures.row) at c.point-p.ensures in (
      swept_first _ _ c.sweep_at-first.ensures p c.measured-a.ensures,
      swept_first _ _ c.sweep_at-first.ensures p c.measured-b.ensures,
    )

pub loop-i-preserved : goal.loop-i-preserved
loop-i-preserved c =
    let l = c.loop-i in
    let q = rw (c.new-curve.ensures.tables, c.new-curve.ensures.row) at c.point-q.ensures in (
      swept_more l.invariant.0 _ _ c.sweep_at-t.ensures q c.nearer-a.ensures,
      swept_more l.invariant.1 _ _ c.sweep_at-t.ensures q c.nearer-b.ensures,
    )

pub returns : goal.returns
returns c =
    let l = c.loop-i in (
      swept_all l.invariant.0 c.natural_range-natural.ensures (omega arith) (omega arith),
      swept_all l.invariant.1 c.natural_range-natural.ensures (omega arith) (omega arith),
    )
