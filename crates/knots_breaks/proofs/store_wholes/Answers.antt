-- `knots_breaks::store_wholes` meets its contract: what is stored, then the whole numbers that are left, is all of them. Assumes nothing.
use Rattle.knots_breaks.proofs.Storing.{storing_next, storing_done}
use Rattle.knots_breaks.proofs.store_wholes.Goals as goal

pub loop-i-preserved : goal.loop-i-preserved
loop-i-preserved c = let l = c.loop-i in storing_next c.args.out.now l.out l.i l.invariant c.loop-i-test.true _ c.nearest_u64_to_f64.ensures

pub returns : goal.returns
returns c = let l = c.loop-i in storing_done c.args.out.now l.out l.i l.invariant c.loop-i-test.false
