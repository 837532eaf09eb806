-- `causes_nesting::SegmentsDepths::of_run` meets its contract. Assumes nothing.
use Rattle.std.proofs.Common.{refl, arith}
use Rattle.causes_nesting.proofs.Runs.{deepest_none, deepest_more, deepest_all}
use Rattle.causes_nesting.proofs.SegmentsDepths.of_run.Goals as goal

pub loop-i-init : goal.loop-i-init
loop-i-init c = record { in_run = omega arith; deepest = deepest_none _ _ _ (omega arith) }

pub loop-i-preserved : goal.loop-i-preserved
loop-i-preserved c = record {
  in_run = omega arith;
  deepest = deepest_more _ _ _ _ _ _ c.loop-i.auto.i c.loop-i.invariant.deepest c.of_row.ensures c.max-depth.ensures;
}

pub returns : goal.returns
returns c = record {
  value = deepest_all _ _ _ _ _ c.loop-i.auto.i c.loop-i.invariant.in_run c.loop-i-test.false c.loop-i.invariant.deepest;
  same = refl;
}
