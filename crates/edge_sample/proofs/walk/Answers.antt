-- `edge_sample::walk` meets its contract: behind range.lo stands what the stops before number i put there. Assumes nothing.
use mathlib.Core.Path.{ap, ◌∙◌}
use native.Mathlib.Omega.{arith}
use Rattle.curve_prepared.specs.Own.PreparedCurve.{curve_of}
use Rattle.edge_drawing.specs.Own.Drawing.{sampled_curve}
use Rattle.edge_subdivide.proofs.Recorded.{records_one}
use Rattle.edge_sample.proofs.Walking.{prepared_drawn, end_own, span_of, low_refused, low_then, walking_start, walking_refused, walking_next, walking_done}
use Rattle.edge_sample.proofs.walk.Goals as goal
use Rattle.edge_sample.proofs.walk.Goals.{else-loop-i-test, then-loop-i-test+in_ok-step+else-i-i-end}

pub returns-in_err-push : goal.returns-in_err-push
returns-in_err-push c =
    let s = c.args.sampling.now in
    let p = c.new-curve in
    let b = c.new-bisection in
    let same = ap curve_of b.ensures.curve ∙ prepared_drawn s.drawing.now p.result p.ensures.tables p.ensures.row in
    rw c.from_residual.ensures (low_refused s.drawing.now.mode (curve_of b.result.curve) s.range s.options c.args.breaks.now (sampled_curve s) same c.requires _ c.end_at-left.ensures (records_one (curve_of b.result.curve) _ (end_own (curve_of b.result.curve) _ _ c.end_at-left.ensures) c.push.ensures) c.in_err-push.was)

pub loop-i-init : goal.loop-i-init
loop-i-init c =
    let s = c.args.sampling.now in
    let p = c.new-curve in
    let b = c.new-bisection in
    let same = ap curve_of b.ensures.curve ∙ prepared_drawn s.drawing.now p.result p.ensures.tables p.ensures.row in
    walking_start s.drawing.now.mode (curve_of b.result.curve) s.range s.options c.args.breaks.now (sampled_curve s) same c.requires _ c.end_at-left.ensures (records_one (curve_of b.result.curve) _ (end_own (curve_of b.result.curve) _ _ c.end_at-left.ensures) c.push.ensures)

pub step-requires : goal.step-requires
step-requires c = (c.loop-i.invariant.own, end_own (curve_of c.new-bisection.result.curve) _ _ c.end_at-right.ensures)

pub returns-in_err-step : goal.returns-in_err-step
returns-in_err-step c =
    let s = c.args.sampling.now in
    let p = c.new-curve in
    let b = c.new-bisection in
    let same = ap curve_of b.ensures.curve ∙ prepared_drawn s.drawing.now p.result p.ensures.tables p.ensures.row in
    let g = span_of s.drawing.now.mode (curve_of b.result.curve) s.range s.options _ c.new-bisection.ensures.options _ _ c.step.ensures in
    rw c.from_residual-in_err-step.ensures (low_then s.drawing.now.mode (curve_of b.result.curve) s.range s.options c.args.breaks.now (sampled_curve s) same c.requires _ c.end_at-left.ensures (records_one (curve_of b.result.curve) _ (end_own (curve_of b.result.curve) _ _ c.end_at-left.ensures) c.push.ensures) c.in_ok-push.was
    (walking_refused s.drawing.now.mode (curve_of b.result.curve) s.range s.options c.args.breaks.now c.loop-i.invariant (omega arith) _ c.stop_at.ensures _ c.end_at-right.ensures g c.in_err-step.was))

pub loop-i-preserved : goal.loop-i-preserved
loop-i-preserved c =
    let s = c.args.sampling.now in
    let curve = curve_of c.new-bisection.result.curve in
    let g = span_of s.drawing.now.mode curve s.range s.options _ c.new-bisection.ensures.options _ _ c.step.ensures in
    walking_next s.drawing.now.mode curve s.range s.options c.args.breaks.now c.loop-i.invariant (omega arith) _ c.stop_at.ensures _ c.end_at-right.ensures g c.in_ok-step.was

-- the last turn, at range.hi, leaves the loop
pub returns : goal.returns
returns c =
    let s = c.args.sampling.now in
    let p = c.new-curve in
    let b = c.new-bisection in
    let curve = curve_of b.result.curve in
    let same = ap curve_of b.ensures.curve ∙ prepared_drawn s.drawing.now p.result p.ensures.tables p.ensures.row in
    low_then s.drawing.now.mode curve s.range s.options c.args.breaks.now (sampled_curve s) same c.requires _ c.end_at-left.ensures (records_one curve _ (end_own curve _ _ c.end_at-left.ensures) c.push.ensures) c.in_ok-push.was
    (elim c.loop-i-test.branch [
      | else-loop-i-test w ↦ absurd (omega arith)
      | then-loop-i-test+in_ok-step+else-i-i-end w ↦
          let g = span_of s.drawing.now.mode curve s.range s.options _ c.new-bisection.ensures.options _ _ w.step.ensures in
          let k = walking_next s.drawing.now.mode curve s.range s.options c.args.breaks.now c.loop-i.invariant (omega arith) _ w.stop_at.ensures _ w.end_at-right.ensures g w.in_ok-step.was in
          walking_done s.drawing.now.mode curve s.range s.options c.args.breaks.now k (omega arith) (records_one curve _ k.own (rw (w.to-is, w.left-is) at c.push-2.ensures))
    ])
