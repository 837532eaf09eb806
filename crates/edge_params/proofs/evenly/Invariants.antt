-- The first i steps are held.
use Rattle.std.specs.Prelude.{Some}
use Rattle.edge_params.specs.Params.{steps}
use Rattle.edge_params.specs.Own.Written.{ListWritten}
use Rattle.edge_params.proofs.evenly.Given as goal

abbrev pub invariant-loop-i : goal.invariant-loop-i
invariant-loop-i l = ListWritten l.initial.out (steps l.range l.n l.i) (Some l.i) l.out
