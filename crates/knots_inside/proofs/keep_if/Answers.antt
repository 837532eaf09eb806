-- `knots_inside::keep_if` meets its contract: what is kept, then what is kept of the rest, is the whole. Assumes nothing.
use Rattle.std.proofs.Common.{of_calls}
use Rattle.knots_inside.proofs.Keep.{keeping_skip, keeping_keep, keeping_done}
use Rattle.knots_inside.proofs.keep_if.Goals as goal
use Rattle.knots_inside.proofs.keep_if.Goals.{then-passes, else-passes}

pub loop-i-preserved : goal.loop-i-preserved
loop-i-preserved g c =
    let s = c.loop-i.invariant.kept in
    elim c.if-passes.branch [
      | then-passes w ↦ rw (w.a-is, w.k-is) (record { callable = search of_calls; kept = keeping_keep _ s c.loop-i-test.true _ (rw w.if-passes.true at c.passes.ensures) })
      | else-passes w ↦ rw (w.a-is, w.k-is) (record { callable = search of_calls; kept = keeping_skip _ s c.loop-i-test.true _ (rw w.if-passes.false at c.passes.ensures) })
    ]

pub returns-clause-kept : goal.returns-clause-kept
returns-clause-kept g c = keeping_done _ c.loop-i.invariant.kept c.loop-i-test.false
