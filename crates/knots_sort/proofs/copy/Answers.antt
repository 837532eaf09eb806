-- `knots_sort::copy` meets its contract: what is copied so far is the start of `from`. Assumes nothing.
use Rattle.std.proofs.Common.{arith}
use Rattle.knots_sort.proofs.Turn.{copying_next, copying_done}
use Rattle.knots_sort.proofs.copy.Goals as goal

pub loop-i-preserved : goal.loop-i-preserved
loop-i-preserved c =
    let l = c.loop-i in
    copying_next c.args.from.now l.to l.i (omega (arith, c.requires, l.auto.to)) l.invariant c.loop-i-test.true

pub returns : goal.returns
returns c =
    let l = c.loop-i in
    copying_done c.args.from.now l.to l.i (omega (arith, c.requires, l.auto.to)) l.invariant (omega (arith, c.loop-i-test.false, l.auto.i-end))
