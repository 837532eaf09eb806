-- `knots_sort::merge` meets its contract: what is placed, then the merge of what is left, is the whole. Assumes nothing.
use Rattle.std.proofs.Common.{arith}
use Rattle.knots_sort.proofs.Turn.{none_below, none_left, placing_next, merging_next, merging_done}
use Rattle.knots_sort.proofs.merge.Goals as goal
use Rattle.knots_sort.proofs.merge.Goals.{then-loop-next-test+else-a-next, else-loop-next-test}

pub loop-next-preserved : goal.loop-next-preserved
loop-next-preserved c =
    let o = c.loop-x in
    let l = c.loop-next in
    placing_next _ o.a o.next o.to l.a l.next l.to l.invariant (omega (arith, c.loop-next-test.true, l.auto.a)) c.if-a-next.true

pub loop-x-preserved : goal.loop-x-preserved
loop-x-preserved c =
    let a = c.args in
    let o = c.loop-x in
    let l = c.loop-next in
    merging_next a.left.now a.a.now o.a o.next o.to o.x-index o.invariant c.loop-x-test.true l.a l.next l.to l.invariant
    (λ f. elim c.loop-next-test.branch [
      | then-loop-next-test+else-a-next w ↦ none_below _ f l.a l.next w.if-a-next.false (omega (arith, w.loop-next-test.true, l.auto.a))
      | else-loop-next-test w ↦ none_left _ f l.a l.next (omega (arith, w.loop-next-test.false, l.auto.a))
    ])

pub returns : goal.returns
returns c =
    let a = c.args in
    let o = c.loop-x in
    merging_done a.left.now a.a.now o.a o.next o.to o.x-index o.invariant (omega (arith, c.loop-x-test.false, o.auto.x-index-end))
