-- `evenly` meets its contract.
use Rattle.std.proofs.Common.{arith}
use Rattle.edge_params.proofs.Steps.{steps_none, steps_push, steps_stop, steps_last}
use Rattle.edge_params.proofs.evenly.Goals as goal
use Rattle.edge_params.proofs.evenly.Goals.{else-loop-i-test, then-loop-i-test+else-at-out+else-i-n}

pub loop-i-init : goal.loop-i-init
loop-i-init c = steps_none c.args.range c.args.n c.args.out.now

pub returns-then-at-out : goal.returns-then-at-out
returns-then-at-out c =
    let l = c.loop-i in
    steps_stop c.args.range c.args.n l.i l.invariant (omega arith) (omega arith)

pub loop-i-preserved : goal.loop-i-preserved
loop-i-preserved c =
    let l = c.loop-i in
    steps_push c.args.range c.args.n l.i l.invariant c.at.result (rw (c.at.ensures, c.float_of.ensures, c.nearest_u64_to_f64-total.ensures)) (omega arith)

pub returns : goal.returns
returns c =
    let l = c.loop-i in
    elim c.loop-i-test.branch [
      | else-loop-i-test w ↦ absurd (omega arith)
      | then-loop-i-test+else-at-out+else-i-n w ↦ rw w.out-is (
          steps_last c.args.range c.args.n l.i l.invariant w.at.result
          (rw (w.at.ensures, w.float_of.ensures, c.nearest_u64_to_f64-total.ensures)) (omega arith) (omega arith))
    ]
