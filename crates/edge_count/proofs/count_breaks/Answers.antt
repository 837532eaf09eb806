-- `edge_count::count_breaks` meets its contract: the knots fit the array, and its first floats are the breaks, then those that are kept.
-- Assumes nothing.
use mathlib.Core.Path.{◌≡◌, refl, sym, ◌∙◌}
use Prim.Native.Nat.{◌≤◌}
use native.Mathlib.Omega.{arith}
use lib.ListN.{length}
use lib.Seq.{length-take-le}
use Rattle.brep.specs.Tree.{CurveTree}
use Rattle.edge_drawing.specs.Own.Drawing.{sampled_curve}
use Rattle.knots_sort.specs.Own.Sortable.{most_knots}
use Rattle.knots.specs.Knots.{curve_knots}
use Rattle.knots_breaks.specs.Breaks.{breaks_in}
use Rattle.knots.proofs.Answers.{exceeded}
use Rattle.knots_thin.proofs.Kept.{some_found, part_room, part}
use Rattle.edge_sample.proofs.Broken.{not_many, kept_room, kept_list}
use Rattle.edge_count.proofs.Laws.{range_far, range_near}
use Rattle.edge_count.proofs.count_breaks.Goals as goal

pub returns-in_err-n : goal.returns-in_err-n
returns-in_err-n c =
    let s = c.args.sampling.now in
    let curve : CurveTree = sampled_curve s in
    absurd (omega (arith, s.drawing.now.sortable, exceeded curve most_knots (breaks_in s.drawing.now.mode curve s.range.lo s.range.hi) (sym c.breaks_in.ensures.0 ∙ c.in_err-n.ensures.ok_part)))

-- the breaks stand at the array's start
pub slice_bounds-breaks-end : goal.slice_bounds-breaks-end
slice_bounds-breaks-end c =
    let s = c.args.sampling.now in
    let curve : CurveTree = sampled_curve s in
    let found = c.breaks_in in
    let f = some_found _ s.drawing.now.mode curve s.range.lo s.range.hi found.result _ found.ensures.0 found.ensures.1 found.auto.out c.in_ok-n.n c.in_ok-n.ensures.ok_part in
    part_room f

pub slice_bounds-thin_far-end : goal.slice_bounds-thin_far-end
slice_bounds-thin_far-end c =
    let s = c.args.sampling.now in
    let curve : CurveTree = sampled_curve s in
    let found = c.breaks_in in
    let f = some_found _ s.drawing.now.mode curve s.range.lo s.range.hi found.result _ found.ensures.0 found.ensures.1 found.auto.out c.in_ok-n.n c.in_ok-n.ensures.ok_part in
    sym (length-take-le _ _ (part_room f))

pub returns-then-thin_far : goal.returns-then-thin_far
returns-then-thin_far c =
    let s = c.args.sampling.now in
    let curve : CurveTree = sampled_curve s in
    let found = c.breaks_in in
    let f = some_found _ s.drawing.now.mode curve s.range.lo s.range.hi found.result _ found.ensures.0 found.ensures.1 found.auto.out c.in_ok-n.n c.in_ok-n.ensures.ok_part in
    range_far c.args.room s.drawing.now.mode curve s.range s.options (part f) c.thin_far.ensures c.if-thin_far.true

-- the knots fit what breaks_in left of the array
pub returns-in_err-m : goal.returns-in_err-m
returns-in_err-m c =
    let s = c.args.sampling.now in
    let curve : CurveTree = sampled_curve s in
    let k = c.kept_breaks in
    let fits : length (curve_knots curve) ≤ length c.breaks_in.new.out = omega (arith, s.drawing.now.sortable, c.breaks_in.auto.out) in
    absurd (not_many s.drawing.now.mode curve s.range.lo s.range.hi s.options.sag _ k.result fits k.ensures.0 c.in_err-m.ensures.ok_part)

-- those that are kept stand at its start
pub slice_bounds-breaks-end-2 : goal.slice_bounds-breaks-end-2
slice_bounds-breaks-end-2 c =
    let s = c.args.sampling.now in
    let curve : CurveTree = sampled_curve s in
    let k = c.kept_breaks in
    let fits : length (curve_knots curve) ≤ length c.breaks_in.new.out = omega (arith, s.drawing.now.sortable, c.breaks_in.auto.out) in
    let same : length k.new.out ≡ length c.breaks_in.new.out = omega (arith, k.auto.out, c.breaks_in.auto.out) in
    kept_room s.drawing.now.mode curve s.range.lo s.range.hi s.options.sag _ k.result fits k.ensures.0 _ _ refl k.ensures.1 _ c.in_ok-m.ensures.ok_part same

pub slice_bounds-count_walk-end : goal.slice_bounds-count_walk-end
slice_bounds-count_walk-end c =
    let s = c.args.sampling.now in
    let curve : CurveTree = sampled_curve s in
    let k = c.kept_breaks in
    let fits : length (curve_knots curve) ≤ length c.breaks_in.new.out = omega (arith, s.drawing.now.sortable, c.breaks_in.auto.out) in
    let same : length k.new.out ≡ length c.breaks_in.new.out = omega (arith, k.auto.out, c.breaks_in.auto.out) in
    sym (length-take-le _ _ (kept_room s.drawing.now.mode curve s.range.lo s.range.hi s.options.sag _ k.result fits k.ensures.0 _ _ refl k.ensures.1 _ c.in_ok-m.ensures.ok_part same))

pub count_walk-requires : goal.count_walk-requires
count_walk-requires c =
    let s = c.args.sampling.now in
    let curve : CurveTree = sampled_curve s in
    let k = c.kept_breaks in
    let fits : length (curve_knots curve) ≤ length c.breaks_in.new.out = omega (arith, s.drawing.now.sortable, c.breaks_in.auto.out) in
    kept_list s.drawing.now.mode curve s.range.lo s.range.hi s.options.sag _ k.result fits k.ensures.0 _ _ refl k.ensures.1 _ c.in_ok-m.ensures.ok_part

pub returns : goal.returns
returns c =
    let s = c.args.sampling.now in
    let curve : CurveTree = sampled_curve s in
    let found = c.breaks_in in
    let f = some_found _ s.drawing.now.mode curve s.range.lo s.range.hi found.result _ found.ensures.0 found.ensures.1 found.auto.out c.in_ok-n.n c.in_ok-n.ensures.ok_part in
    c.count_walk.ensures ∙ range_near c.args.room s.drawing.now.mode curve s.range s.options (part f) c.thin_far.ensures c.if-thin_far.false
