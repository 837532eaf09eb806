-- `edge_sample::walk` meets its contract: behind range.lo stands what the stops before number i put there. Assumes nothing.
use Rattle.curve_prepared.specs.Own.PreparedCurve.{curve_of}
use Rattle.edge_sample.proofs.Walking.{Walking}
use Rattle.edge_sample.proofs.walk.Given as goal

abbrev pub invariant-loop-i : goal.invariant-loop-i
invariant-loop-i l = Walking l.fn.sampling.drawing.now.mode (curve_of l.bisection.curve) l.range l.fn.sampling.options l.breaks l.initial.to l.to l.left l.i
