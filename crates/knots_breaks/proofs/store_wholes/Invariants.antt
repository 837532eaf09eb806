-- The loop of `knots_breaks::store_wholes`: what is stored, then the whole numbers that are left, is all of them. Assumes nothing.
use Rattle.knots_breaks.proofs.Storing.{Storing}
use Rattle.knots_breaks.proofs.store_wholes.Given as goal

abbrev pub invariant-loop-i : goal.invariant-loop-i
invariant-loop-i l = Storing l.initial.out l.out l.i
