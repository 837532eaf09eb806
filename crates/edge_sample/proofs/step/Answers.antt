-- `edge_sample::step` meets its contract. Assumes nothing.
use mathlib.Core.Path.{sym}
use Rattle.curve_prepared.specs.Own.PreparedCurve.{curve_of}
use Rattle.edge_subdivide.proofs.Recorded.{records_none, records_one, records_refused, records_then}
use Rattle.edge_sample.proofs.Walking.{not_hi, is_hi}
use Rattle.edge_sample.proofs.step.Goals as goal

pub returns-in_err-subdivide : goal.returns-in_err-subdivide
returns-in_err-subdivide c = rw c.from_residual.ensures (records_refused (curve_of c.args.bisection.now.curve) c.subdivide.ensures c.in_err-subdivide.was _)

pub returns-then-right-range : goal.returns-then-right-range
returns-then-right-range c =
    let a = c.args in
    let curve = curve_of a.bisection.now.curve in
    records_then curve c.subdivide.ensures c.in_ok-subdivide.was _
    (rw (sym (not_hi a.range a.right.t c.if-right-range.true)) (records_one curve a.right c.requires.1 c.push.ensures))

pub returns : goal.returns
returns c =
    let a = c.args in
    let curve = curve_of a.bisection.now.curve in
    records_then curve c.subdivide.ensures c.in_ok-subdivide.was _
    (rw (sym (is_hi a.range a.right.t c.if-right-range.false)) (records_none curve _))
