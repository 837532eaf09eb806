-- `edge_count::count_walk` meets its contract: what is counted, then what the stops from number i on add, is the whole. Assumes nothing.
use mathlib.Core.Path.{◌≡◌, refl}
use native.Mathlib.Omega.{arith}
use Rattle.std.proofs.lemmas.Result.{err_from_is_err_and}
use Rattle.brep.specs.Tree.{CurveTree}
use Rattle.curve_prepared.specs.Own.PreparedCurve.{curve_of}
use Rattle.curve_asks.specs.Asks.{asks_far}
use Rattle.edge_drawing.specs.Own.Drawing.{sampled_curve}
use Rattle.knots_thin.specs.Thin.{kept_breaks}
use Rattle.edge_count.proofs.Walking.{end_own, low_refused, walking_start, walking_refused, walking_next, walking_done}
use Rattle.edge_count.proofs.count_walk.Goals as goal
use Rattle.edge_count.proofs.count_walk.Goals.{else-loop-i-test, then-loop-i-test+in_ok-k-2+else-i-i-end}

pub returns-in_err-k : goal.returns-in_err-k
returns-in_err-k c =
    let s = c.args.sampling.now in
    let curve : CurveTree = curve_of c.new.result.curve in
    let same : curve ≡ sampled_curve s = rw (c.new.ensures.curve, c.new-curve.ensures.tables, c.new-curve.ensures.row) refl in
    let kept : c.args.breaks.now ≡ kept_breaks s.drawing.now.mode curve s.range.lo s.range.hi s.options.sag = rw same c.requires in
    let p = err_from_is_err_and c.from_residual.result c.from_residual.ensures.1 in
    rw (p.1, p.2) (rw same at (low_refused s.drawing.now.mode curve s.range s.options c.args.room c.args.breaks.now kept (c.in_err-k.ensures _ _)))

pub loop-i-init : goal.loop-i-init
loop-i-init c =
    let s = c.args.sampling.now in
    let curve : CurveTree = curve_of c.new.result.curve in
    let same : curve ≡ sampled_curve s = rw (c.new.ensures.curve, c.new-curve.ensures.tables, c.new-curve.ensures.row) refl in
    let kept : c.args.breaks.now ≡ kept_breaks s.drawing.now.mode curve s.range.lo s.range.hi s.options.sag = rw same c.requires in
    walking_start s.drawing.now.mode curve s.range s.options c.args.room c.args.breaks.now kept (c.in_ok-k.ensures _ _) _ c.end_at-left.ensures

pub span-requires : goal.span-requires
span-requires c = (c.loop-i.invariant.own, end_own (curve_of c.new.result.curve) _ _ c.end_at-right.ensures)

pub returns-in_err-k-2 : goal.returns-in_err-k-2
returns-in_err-k-2 c =
    let s = c.args.sampling.now in
    let curve : CurveTree = curve_of c.new.result.curve in
    let same : curve ≡ sampled_curve s = rw (c.new.ensures.curve, c.new-curve.ensures.tables, c.new-curve.ensures.row) refl in
    let p = err_from_is_err_and c.from_residual-in_err-k-2.result c.from_residual-in_err-k-2.ensures.1 in
    rw (p.1, p.2) (rw same at (walking_refused s.drawing.now.mode curve s.range s.options c.args.room c.args.breaks.now c.loop-i.invariant (omega arith) _ c.stop_at.ensures _ c.end_at-right.ensures
    (rw c.new.ensures.options at c.in_err-k-2.ensures)))

pub loop-i-preserved : goal.loop-i-preserved
loop-i-preserved c =
    let s = c.args.sampling.now in
    let curve : CurveTree = curve_of c.new.result.curve in
    walking_next s.drawing.now.mode curve s.range s.options c.args.room c.args.breaks.now c.loop-i.invariant (omega arith) _ c.stop_at.ensures _ c.end_at-right.ensures
    (rw c.new.ensures.options at c.in_ok-k-2.ensures)

pub returns : goal.returns
returns c =
    let s = c.args.sampling.now in
    let curve : CurveTree = curve_of c.new.result.curve in
    let same : curve ≡ sampled_curve s = rw (c.new.ensures.curve, c.new-curve.ensures.tables, c.new-curve.ensures.row) refl in
    elim c.loop-i-test.branch [
      | else-loop-i-test w ↦ absurd (omega arith)
      | then-loop-i-test+in_ok-k-2+else-i-i-end w ↦ rw same at (walking_done s.drawing.now.mode curve s.range s.options c.args.room c.args.breaks.now
          (walking_next s.drawing.now.mode curve s.range s.options c.args.room c.args.breaks.now c.loop-i.invariant (omega arith) _ w.stop_at.ensures _ w.end_at-right.ensures (rw c.new.ensures.options at w.in_ok-k-2.ensures))
          (omega arith) (rw w.k-is at (c.one-2.ensures (asks_far curve) s.range.hi)))
    ]
