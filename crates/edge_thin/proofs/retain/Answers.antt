-- `retain` meets its contract.
use Rattle.std.proofs.Common.{◌<◌, length, arith}
use Rattle.edge_thin.proofs.Loops.{moved_none, moved_pass, moved_push, moved_all}
use Rattle.edge_thin.proofs.retain.Goals as goal
use Rattle.edge_thin.proofs.retain.Goals.{then-kept, else-kept}

pub loop-i-init : goal.loop-i-init
loop-i-init c = (omega arith, moved_none c.args.chain.now c.args.keep.now)

pub loop-i-preserved : goal.loop-i-preserved
loop-i-preserved c =
    let a = c.args in
    let l = c.loop-i in
    let inside : l.i < length a.keep.now = omega arith in
    elim c.if-kept.branch [
      | then-kept w ↦ (
        omega arith,
        rw (w.chain-is, w.k-is) (moved_push a.chain.now a.keep.now l.chain l.k l.i l.invariant.1 inside w.sample_at-s.result _ l.invariant.0 w.if-kept.true w.sample_at-s.ensures w.put.ensures),
      )
      | else-kept w ↦ (omega arith, rw (w.chain-is, w.k-is) (moved_pass a.chain.now a.keep.now l.chain l.k l.i l.invariant.1 inside w.if-kept.false))
    ]

pub returns : goal.returns
returns c =
    let l = c.loop-i in
    moved_all c.args.chain.now c.args.keep.now l.chain l.k l.i (omega arith) l.invariant.1
