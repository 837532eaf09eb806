-- The loop of `knots_inside::keep_if`: what is kept, then what is kept of the rest, is the whole. Assumes nothing.
use Rattle.knots_inside.proofs.Keep.{Keeping}
use Rattle.knots_inside.proofs.keep_if.Given as goal

abbrev pub invariant-loop-i : goal.invariant-loop-i
invariant-loop-i g l = record {
  callable : goal.F-IsAlwaysCallable g l.passes;
  kept : Keeping (goal.F-step g) l.initial.passes l.initial.a l.a l.passes l.k l.i;
}
