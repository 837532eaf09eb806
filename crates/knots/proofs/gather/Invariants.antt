-- The loop of `knots::gather`: what is stored, with what is left stored after it, is the whole. Assumes nothing.
use Rattle.knots.proofs.Gathering.{Gathering}
use Rattle.knots.proofs.gather.Given as goal

abbrev pub invariant-loop-i : goal.invariant-loop-i
invariant-loop-i l = Gathering l.parts l.ranges l.run.first l.run.count l.initial.out l.out l.i
