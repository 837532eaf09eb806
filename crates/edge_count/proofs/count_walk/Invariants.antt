-- `edge_count::count_walk` meets its contract: what is counted, then what the stops from number i on add, is the whole. Assumes nothing.
use Rattle.curve_prepared.specs.Own.PreparedCurve.{curve_of}
use Rattle.edge_count.proofs.Walking.{Walking}
use Rattle.edge_count.proofs.count_walk.Given as goal

abbrev pub invariant-loop-i : goal.invariant-loop-i
invariant-loop-i l = Walking l.fn.sampling.drawing.now.mode (curve_of l.counter.bisection.curve) l.range l.fn.sampling.options l.room l.breaks l.left l.k l.i
