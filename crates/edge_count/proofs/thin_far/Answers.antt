-- `edge_count::thin_far` meets its contract: nothing before break number i is too far, so what is too far is in the rest. Assumes nothing.
use mathlib.Core.Path.{◌∙◌}
use Rattle.brep.specs.Tree.{CurveTree}
use Rattle.curve.specs.Eval.{point_at}
use Rattle.curve_asks.specs.Asks.{asks_far}
use Rattle.edge_drawing.specs.Own.Drawing.{sampled_curve}
use Rattle.knots.specs.Knots.{deviation}
use Rattle.edge_count.proofs.Thinning.{span_found, span_kept, span_skipped, none_found, sag_some, sag_none}
use Rattle.edge_count.proofs.thin_far.Goals as goal
use Rattle.edge_count.proofs.thin_far.Goals.{then-sag-deviation, else-sag-deviation}

pub returns-then-not-sag : goal.returns-then-not-sag
returns-then-not-sag c =
    let s = c.args.sampling.now in
    let curve : CurveTree = sampled_curve s in
    sag_none (asks_far curve) curve c.args.breaks.now s.range.lo s.range.hi s.options.sag c.if-not-sag.true

pub returns-then-span_far : goal.returns-then-span_far
returns-then-span_far c =
    let s = c.args.sampling.now in
    let curve : CurveTree = sampled_curve s in
    span_found (asks_far curve) (deviation (point_at curve)) s.options.sag s.range.hi s.range.lo c.loop-i.start c.args.breaks.now c.loop-i.i c.loop-i.invariant c.loop-i-test.true _ c.next_of-next.ensures (c.span_far.ensures s.drawing.now.tables.now.points.now s.drawing.now.tables.now.reals.now) c.if-span_far.true
    ∙ sag_some (asks_far curve) curve c.args.breaks.now s.range.lo s.range.hi s.options.sag c.if-not-sag.false

pub loop-i-preserved : goal.loop-i-preserved
loop-i-preserved c =
    let s = c.args.sampling.now in
    let l = c.loop-i in
    let curve : CurveTree = sampled_curve s in
    let far = c.span_far.ensures s.drawing.now.tables.now.points.now s.drawing.now.tables.now.reals.now in
    elim c.if-sag-deviation.branch [
      | then-sag-deviation w ↦ rw w.start-is
          (span_kept (asks_far curve) (deviation (point_at curve)) s.options.sag s.range.hi s.range.lo l.start c.args.breaks.now l.i l.invariant c.loop-i-test.true _ c.next_of-next.ensures far c.if-span_far.false c.deviation.ensures w.if-sag-deviation.true)
      | else-sag-deviation w ↦ rw w.start-is
          (span_skipped (asks_far curve) (deviation (point_at curve)) s.options.sag s.range.hi s.range.lo l.start c.args.breaks.now l.i l.invariant c.loop-i-test.true _ c.next_of-next.ensures far c.if-span_far.false c.deviation.ensures w.if-sag-deviation.false)
    ]

pub returns : goal.returns
returns c =
    let s = c.args.sampling.now in
    let curve : CurveTree = sampled_curve s in
    none_found (asks_far curve) (deviation (point_at curve)) s.options.sag s.range.hi s.range.lo c.loop-i.start c.args.breaks.now c.loop-i.i c.loop-i.invariant c.loop-i-test.false ∙ sag_some (asks_far curve) curve c.args.breaks.now s.range.lo s.range.hi s.options.sag c.if-not-sag.false
