-- `knots::gather` meets its contract: what is stored, with what is left stored after it, is the whole. Assumes nothing.
use Rattle.knots.proofs.Gathering.{gathering_next, gathering_done}
use Rattle.knots.proofs.gather.Goals as goal

pub loop-i-preserved : goal.loop-i-preserved
loop-i-preserved c =
    let a = c.args in
    let l = c.loop-i in
    gathering_next a.parts.now a.ranges.now a.run.first a.run.count a.out.now l.out l.i l.invariant c.segment_at.result c.segment_at.ensures c.loop-i-test.true

pub returns : goal.returns
returns c =
    let a = c.args in
    let l = c.loop-i in
    gathering_done a.parts.now a.ranges.now a.run.first a.run.count a.out.now l.out l.i l.invariant c.loop-i-test.false
