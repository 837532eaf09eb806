-- The loops of `knots_sort::merge`: what is placed, then the merge of what is left, is the whole. Assumes nothing.
use Prim.Native.Nat.{◌-◌}
use lib.ListN.{length}
use Rattle.knots_sort.proofs.Turn.{Placing, Merging}
use Rattle.knots_sort.proofs.merge.Given as goal

abbrev pub invariant-loop-x : goal.invariant-loop-x
invariant-loop-x l = Merging l.left l.initial.a l.a l.next l.to l.x-index

abbrev pub invariant-loop-next : goal.invariant-loop-next
invariant-loop-next l = Placing l.x l.initial.a l.initial.next l.initial.to l.a l.next l.to

abbrev pub decreases-loop-next : goal.decreases-loop-next
decreases-loop-next l = length l.initial.a - l.next
