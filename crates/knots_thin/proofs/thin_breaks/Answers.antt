-- `knots_thin::thin_breaks` meets its contract: what is kept, then what thinning leaves of the rest, is the whole. Assumes nothing.
use Rattle.std.proofs.Common.{length, ap, ◌∙◌}
use Rattle.base_lists.specs.Room.{filled}
use Rattle.knots_thin.proofs.Thinning.{thinning_keep, thinning_skip, thinning_count, thinning_buffer, all_stay, filled_full}
use Rattle.knots_thin.proofs.thin_breaks.Goals as goal
use Rattle.knots_thin.proofs.thin_breaks.Goals.{then-sag-deviation, else-sag-deviation}

pub returns-then-not-sag-clause-count : goal.returns-then-not-sag-clause-count
returns-then-not-sag-clause-count c = let a = c.args in ap length (all_stay _ a.sag a.range.hi a.range.lo a.breaks.now c.if-not-sag.true)

pub returns-then-not-sag-clause-buffer : goal.returns-then-not-sag-clause-buffer
returns-then-not-sag-clause-buffer c =
    let a = c.args in
    filled_full a.breaks.now ∙ ap (filled (length a.breaks.now)) (all_stay _ a.sag a.range.hi a.range.lo a.breaks.now c.if-not-sag.true)

pub loop-i-preserved : goal.loop-i-preserved
loop-i-preserved c =
    let a = c.args in
    let l = c.loop-i in
    let n = c.next_of-next in
    elim c.if-sag-deviation.branch [
      | then-sag-deviation w ↦ rw (w.breaks-is, w.start-is, w.pa-is, w.k-is) (record {
        point = w.point_at-pa-then-sag-deviation.ensures;
        thinned = thinning_keep _ a.sag a.range.hi a.range.lo l.invariant.thinned c.loop-i-test.true n.result c.deviation.result n.ensures c.deviation.ensures w.if-sag-deviation.true;
      })
      | else-sag-deviation w ↦ rw (w.breaks-is, w.start-is, w.pa-is, w.k-is) (record {
        point = l.invariant.point;
        thinned = thinning_skip _ a.sag a.range.hi a.range.lo l.invariant.thinned c.loop-i-test.true n.result c.deviation.result n.ensures c.deviation.ensures w.if-sag-deviation.false;
      })
    ]

pub returns-clause-count : goal.returns-clause-count
returns-clause-count c = let a = c.args in thinning_count _ a.sag a.range.hi a.range.lo c.loop-i.start c.loop-i.invariant.thinned c.loop-i-test.false c.if-not-sag.false

pub returns-clause-buffer : goal.returns-clause-buffer
returns-clause-buffer c = let a = c.args in thinning_buffer _ a.sag a.range.hi a.range.lo c.loop-i.start c.loop-i.invariant.thinned c.loop-i-test.false c.if-not-sag.false _ c.clear_from.ensures
